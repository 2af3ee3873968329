pub mod Conditions
pub mod EntryTurns
pub mod FieldsAre
pub mod LinkLaws
