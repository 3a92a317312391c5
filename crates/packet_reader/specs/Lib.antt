-- What `packet_reader` promises: which of 1 to 7 refuses a packet, its messages, and what a reader hands out.
pub mod Cursors
pub mod Reading
pub mod Steps
