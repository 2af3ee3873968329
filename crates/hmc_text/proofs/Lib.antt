pub mod PartsLemmas
pub mod WordsLemmas
pub mod LinesLemmas
pub mod NumberLemmas
pub mod InTurnLemmas
mod Worked
