pub mod Answers
pub mod Doors
pub mod Refuses
