-- What `message_rules` answers of the offset that `message`'s rules tell.
pub mod Offsets
