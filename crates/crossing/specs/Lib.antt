pub mod Above
pub mod Events
pub mod Promise
pub mod Texts
