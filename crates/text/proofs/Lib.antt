pub mod OrdersBack
pub mod OrdersTold
pub mod Writing
