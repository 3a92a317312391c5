-- The laws of `merge`.
pub mod Copies
pub mod Tables
pub mod Clauses
pub mod Rule
pub mod Lowest
pub mod Window
pub mod Demand3
pub mod Hosts
pub mod Places
