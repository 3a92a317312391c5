-- Laws of `book_index`'s definitions, which the proofs of this crate and of those above cite.
pub mod Below
pub mod Cells
pub mod Chained
pub mod Walks
pub mod Moves
pub mod Laws
pub mod Kept
pub mod Pairs
