pub mod ExecuteLemmas
pub mod VaultLemmas
pub mod SpreadLemmas
mod Worked
pub mod WaitLemmas
