pub mod Address
pub mod WrittenLemmas
pub mod KeptLemmas
pub mod Calls
mod Worked
