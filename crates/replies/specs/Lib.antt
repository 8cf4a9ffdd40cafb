pub mod Promise
pub mod Said
