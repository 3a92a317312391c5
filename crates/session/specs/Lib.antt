-- What `session` promises: what a session means and its rule, what taking packets does to it, and what can be asked.
pub mod Meaning
pub mod Bursts
pub mod Asking
pub mod Quoting
pub mod Engine
