-- Laws of the questions.
pub mod Quests
