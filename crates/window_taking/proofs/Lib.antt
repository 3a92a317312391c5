-- Laws of `window_taking`'s definitions.
pub mod Accepted
pub mod Whole
pub mod Windows
pub mod Walks
pub mod Keeps
pub mod Differs
pub mod Admits
pub mod Answered
pub mod Ahead
pub mod Passing
pub mod Following
pub mod Frames
pub mod Ten
