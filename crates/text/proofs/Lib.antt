pub mod Moving
pub mod Numbers
pub mod Pairs
pub mod Split
pub mod Spelling
