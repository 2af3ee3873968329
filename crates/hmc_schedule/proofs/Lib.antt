pub mod NoiseLemmas
pub mod RoundLemmas
pub mod WorkLemmas
pub mod ParseLemmas
pub mod WrittenLemmas
pub mod HeldLemmas
mod Worked
mod CountdownLemmas
mod RepeatLemmas
