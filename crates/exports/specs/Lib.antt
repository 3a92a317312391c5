-- What `exports` promises: the packets that lent bytes are, and the numbers in which an export tells its answer.
pub mod Told
pub mod Handed
pub mod Kept
pub mod Passed
pub mod Sizes
