pub mod Collecting
pub mod Steps
pub mod Turning
