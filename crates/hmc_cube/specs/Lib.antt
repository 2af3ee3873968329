pub mod Cube
pub mod Places
pub mod After
pub mod Parts
pub mod Kept
