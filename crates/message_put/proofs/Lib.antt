-- Laws that the proofs of `message_put` cite.
pub mod ByKind
