pub mod Operations
pub mod Halves
pub mod Effects
pub mod Act
