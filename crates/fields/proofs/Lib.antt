-- Laws that the proofs of several functions, and of the crates above, cite.
pub mod Tests
pub mod Bytes
pub mod Four
pub mod Ids
pub mod Begun
