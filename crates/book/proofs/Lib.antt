-- Laws of `book`'s definitions, which the proofs of this crate and of the session cite.
pub mod Finding
pub mod Types
pub mod Arms
pub mod Holding
pub mod Told
pub mod Carrying
pub mod Symbols
pub mod Keyed
pub mod Under
pub mod Steps
pub mod Answers
pub mod Keeping
pub mod Bests
pub mod Laws
pub mod Named
