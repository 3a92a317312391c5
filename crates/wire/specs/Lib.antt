-- What `wire` promises: a number and its bytes, a place in lent bytes, and layouts of fields.
pub mod Choice
pub mod Layout
pub mod Number
