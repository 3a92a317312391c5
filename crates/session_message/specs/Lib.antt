-- What `session_message` promises: the message at next, from the packet or from the window.
pub mod AtNext
