-- What `window_taking` promises: which packets are taken, what keeping one does to the window, and demand 3 for the overnight feed.
pub mod Taking
pub mod Keeping
pub mod Turns
pub mod Ahead
pub mod Ten
