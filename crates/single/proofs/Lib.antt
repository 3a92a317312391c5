-- Laws of `single`'s definitions.
pub mod Giving
pub mod Laying
pub mod Returning
pub mod Steps
pub mod Taking
pub mod Numbers
