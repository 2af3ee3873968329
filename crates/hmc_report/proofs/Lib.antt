pub mod SomeLemmas
pub mod LeftLemmas
pub mod FinishLemmas
mod Worked
