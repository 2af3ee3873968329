pub mod BlockLemmas
pub mod Payloads
pub mod Errorless
pub mod Fine
pub mod Performed
pub mod MachineLemmas
pub mod CommandLemmas
pub mod WorkLemmas
pub mod AnswerLemmas
pub mod CubeLemmas
mod Worked
