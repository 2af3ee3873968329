mod Plus
mod Divide
pub mod Bits
mod Register
pub mod Check
mod TableLemmas
mod WordLemmas
mod Update
mod Worked
