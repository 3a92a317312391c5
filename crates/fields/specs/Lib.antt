pub mod Tests
pub mod Id
pub mod Four
pub mod Rules
