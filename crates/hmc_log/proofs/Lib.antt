pub mod Fitting
pub mod Writing
pub mod Noting
pub mod Cutting
pub mod Turns
pub mod Printed
mod Worked
pub mod Steps
pub mod Shown
pub mod Reprinted
pub mod Fits
