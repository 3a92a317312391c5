-- What `window` promises: the window of messages that wait, and the runs of numbers that are missing.
pub mod Runs
pub mod Window
