-- What `session_keeping` promises: what keeping packets does to a session, taking one that applies nothing, and what is counted apart.
pub mod Keeping
pub mod Passing
pub mod Counting
