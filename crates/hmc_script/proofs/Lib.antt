pub mod ScriptLemmas
pub mod TextLemmas
pub mod CommandLemmas
pub mod NumberText
pub mod WordsText
pub mod RequestWords
pub mod MeaningText
pub mod LawLemmas
pub mod PayloadLemmas
pub mod StoredLemmas
pub mod OwnLemmas
pub mod TakenLemmas
mod Worked
