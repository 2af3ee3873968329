pub mod Actions
pub mod Cube
pub mod Errors
pub mod Tested
pub mod Perform
pub mod Machine
pub mod Unit
