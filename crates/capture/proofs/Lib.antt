-- Laws of `capture`.
pub mod Strict
