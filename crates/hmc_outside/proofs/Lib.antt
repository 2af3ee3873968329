pub mod CutLemmas
pub mod HeldLemmas
pub mod KeptLemmas
pub mod LinesLemmas
pub mod PrefixLemmas
pub mod ReadingLemmas
mod Worked
