pub mod AnswersBack
pub mod AnswersTold
pub mod Lines
pub mod Readings
