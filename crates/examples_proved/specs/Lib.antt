-- The worked examples.
pub mod Examples
