pub mod Values
pub mod HandleSteps
pub mod Payloads
pub mod NextStep
pub mod KeptLemmas
pub mod LeftAlike
pub mod Named
pub mod Known
pub mod Bits
mod Worked
mod WorkedCalls
mod WorkedEntries
mod WorkedNo
