pub mod Answers
pub mod Counts
pub mod Peaks
pub mod Tables
