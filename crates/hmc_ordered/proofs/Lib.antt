pub mod Earlier
pub mod Placing
pub mod Machines
pub mod Simulating
pub mod Tagged
pub mod Matching
pub mod Tagging
pub mod Replying
pub mod Unasked
pub mod Units
pub mod Running
pub mod Relabelled
pub mod Steps
mod Worked
