pub mod Counting
pub mod Making
pub mod Peaking
pub mod Tables
pub mod Zeros
