-- What the lines of the tables hold.
pub mod Lines
