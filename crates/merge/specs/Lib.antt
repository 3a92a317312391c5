-- What `merge` defines: taking numbered messages in any order, over any kind of message and any tables.
pub mod State
pub mod History
pub mod Promise
pub mod Places
