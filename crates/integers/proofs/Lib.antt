pub mod Ring
pub mod Size
pub mod Floor
