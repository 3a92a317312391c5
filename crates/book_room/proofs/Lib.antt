-- Laws of `book_room`'s definitions, which the proofs of this crate and of the session cite.
pub mod Parts
pub mod Lying
pub mod Finds
pub mod Marks
pub mod Writes
pub mod Decides
pub mod Done
pub mod Insides
