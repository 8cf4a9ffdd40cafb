pub mod Held
pub mod Lines
pub mod Promise
pub mod Pushing
pub mod Replies
pub mod Sessions
