pub mod WorkLemmas
pub mod EmptyLemmas
mod Worked
