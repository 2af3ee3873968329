pub mod Copies
pub mod Calls
