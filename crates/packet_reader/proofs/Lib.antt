-- Laws of `packet_reader`'s definitions, which the proofs of this crate and of those above cite.
pub mod Frames
pub mod Handing
pub mod Refusals
