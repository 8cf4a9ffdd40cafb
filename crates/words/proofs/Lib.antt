pub mod Backs
pub mod Figures
pub mod Signs
pub mod Solid
pub mod Splits
pub mod Told
