-- What `message` promises: the table of payloads, the layouts, the field rules, and reading one message.
pub mod Layouts
pub mod Reading
pub mod Row
pub mod Rules
pub mod Table
pub mod Types
pub mod Whole
