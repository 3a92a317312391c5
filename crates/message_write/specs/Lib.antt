-- What `message_write` promises: one message written at a place.
pub mod Writing
