-- Laws of `message_write`'s definitions, which the proofs of this crate and of those above cite.
pub mod Back
pub mod ByKind
pub mod Opened
pub mod Trips
pub mod Writing
