pub mod Back
pub mod Exact
pub mod Floats
pub mod Writing
