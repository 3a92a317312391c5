-- Laws of `wire`'s definitions, which the proofs of this crate and of those above cite.
pub mod Choice
pub mod Digits
pub mod Layouts
pub mod Place
pub mod Splice
pub mod Parts
