-- Laws that the proofs of `message_rules`, and of those who ask it, cite.
pub mod Offsets
