-- Laws of `session`'s definitions.
pub mod States
pub mod Through
pub mod Dispatch
pub mod Runs
pub mod Engine
pub mod Calls
pub mod Answers
pub mod Ten
pub mod Onward
