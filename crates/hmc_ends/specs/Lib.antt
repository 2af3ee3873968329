pub mod List
pub mod End
pub mod Answers
pub mod Parts
pub mod StandsFor
pub mod Landings
pub mod Outcomes
