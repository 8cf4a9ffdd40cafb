pub mod Nearest
pub mod Promise
