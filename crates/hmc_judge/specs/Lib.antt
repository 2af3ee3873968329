pub mod Explaining
pub mod Judging
pub mod Picked
pub mod Steps
pub mod Walk
