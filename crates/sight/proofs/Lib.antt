pub mod Happening
pub mod Sighted
pub mod Skips
