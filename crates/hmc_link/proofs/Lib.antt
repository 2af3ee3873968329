pub mod Joins
pub mod Calls
pub mod LinkLandings
pub mod Numbers
pub mod ListCalls
pub mod LinkThroughs
pub mod Idle
