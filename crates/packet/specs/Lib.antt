-- What `packet` promises: the header, read and written, the walk over the messages, and the tests 1 to 8.
pub mod Header
pub mod Judging
pub mod Walk
pub mod Writing
