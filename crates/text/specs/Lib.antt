pub mod Hex
pub mod Input
pub mod Numbers
pub mod Output
pub mod Words
