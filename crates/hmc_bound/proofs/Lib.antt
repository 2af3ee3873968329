pub mod Near
pub mod Commute
pub mod Part
pub mod Trains
pub mod CleanModes
pub mod CleanGrammar
pub mod CleanLists
pub mod Starve
pub mod LandRound
pub mod OneRound
pub mod Steps
pub mod Final
pub mod Ends
pub mod Given
pub mod Appended
pub mod Counts
pub mod Few
mod Worked
