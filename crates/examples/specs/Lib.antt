-- The messages that `examples` makes for the cases.
pub mod Made
