pub mod Directions
pub mod Distance
pub mod Neighbours
pub mod Parted
pub mod Ports
pub mod Route
pub mod Tables
pub mod WellFormed
