pub mod Moments
pub mod Promised
pub mod Rises
pub mod Sums
