pub mod Wiring
pub mod Ready
