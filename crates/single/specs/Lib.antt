-- What `single` promises: the numbers in which one id, header, message or packet is told, and a message given by its numbers.
pub mod Over
pub mod Told
pub mod Walks
pub mod Words
pub mod Given
