-- What `book_index` promises: the index of the live keys, how it changes as an order comes and as one leaves, and the same index over
-- the insides held.
pub mod Chains
pub mod Changes
pub mod Pairs
