-- What `book` promises: the tables and their rule, what a message does to them, and what can be asked.
pub mod Lookup
pub mod Tables
pub mod Reasons
pub mod Applying
pub mod Rule
pub mod Asking
pub mod Named
