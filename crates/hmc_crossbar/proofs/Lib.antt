mod Worked
pub mod ToLemmas
