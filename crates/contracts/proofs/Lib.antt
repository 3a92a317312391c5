-- Each call's contract determines it.
pub mod Determined
