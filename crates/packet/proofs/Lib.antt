-- Laws of `packet`'s definitions, which the proofs of this crate and of those above cite.
pub mod Headers
pub mod Judgements
pub mod Walking
pub mod Writings
