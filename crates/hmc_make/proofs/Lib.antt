pub mod Four
pub mod ChainLemmas
pub mod RequestLemmas
pub mod StepsLemmas
mod Worked
