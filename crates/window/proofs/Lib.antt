-- Laws of `window`'s definitions, which the proofs of this crate and of those above cite.
pub mod Agreeing
pub mod FirstNumber
pub mod Held
pub mod Requests
pub mod Sizes
pub mod Splits
mod Steps
