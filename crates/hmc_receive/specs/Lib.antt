pub mod Receiver
pub mod StandsFor
