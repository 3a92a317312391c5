-- Laws of `message`'s definitions, which the proofs of this crate and of those above cite.
pub mod Cases
pub mod Listed
pub mod Readings
pub mod Kept
pub mod Tables
