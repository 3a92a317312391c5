-- Laws of `session_message`'s definitions.
pub mod Choices
