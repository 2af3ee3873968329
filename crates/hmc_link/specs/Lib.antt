pub mod Held
pub mod StandsFor
pub mod Calls
