pub mod Figures
pub mod Promise
pub mod Reading
