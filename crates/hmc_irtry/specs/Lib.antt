pub mod Runs
pub mod Train
pub mod Burst
