pub mod AddedStep
pub mod HostEnds
pub mod AddedItem
mod Worked
