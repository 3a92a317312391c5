-- What `window_keeping` promises: the answers to packets that are kept, one after the other.
pub mod Keeping
