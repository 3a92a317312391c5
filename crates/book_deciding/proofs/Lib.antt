-- Laws of the listed types that the proofs of this crate and of those above cite.
pub mod Listing
