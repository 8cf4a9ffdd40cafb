pub mod Examples
pub mod Listings
pub mod Sides
pub mod Turns
