pub mod There
pub mod Standing
pub mod Beginning
pub mod Running
pub mod Runs
pub mod Shown
pub mod Known
mod Worked
