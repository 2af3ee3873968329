pub mod TagLemmas
pub mod WaitingLemmas
pub mod GiveLemmas
mod Worked
