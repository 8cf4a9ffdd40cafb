pub mod Cursors
pub mod Differences
pub mod Parts
pub mod Promise
pub mod Readings
