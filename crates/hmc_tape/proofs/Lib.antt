pub mod Taping
pub mod Tries
pub mod TapeLaw
mod Worked
