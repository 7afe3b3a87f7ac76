pub mod AnswerList
pub mod Slots
