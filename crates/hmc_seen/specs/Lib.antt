pub mod End
pub mod Explained
pub mod Seen
pub mod Stepwise
