-- What `book_room` promises: how the tables' numbers lie in the room that a host lends, and what a message changes there.
pub mod Room
pub mod Arms
