pub mod Answering
pub mod Asking
pub mod Checking
pub mod Cutting
pub mod Promised
pub mod Pushed
