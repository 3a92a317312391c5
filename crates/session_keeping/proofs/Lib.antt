-- Laws of `session_keeping`, and those over all calls.
pub mod Keeps
pub mod Passes
pub mod Given
pub mod Demand3
pub mod Promises
pub mod Standing
