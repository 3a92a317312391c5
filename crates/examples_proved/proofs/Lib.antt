-- The worked examples hold.
pub mod Hold
