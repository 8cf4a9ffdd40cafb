mod Leading
mod Values
pub mod Over
pub mod Stands
pub mod Coded
