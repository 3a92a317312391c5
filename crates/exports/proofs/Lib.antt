-- Laws of `exports`' definitions.
pub mod Told
pub mod Handed
