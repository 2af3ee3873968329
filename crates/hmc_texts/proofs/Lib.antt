pub mod Lines
pub mod EntryLines
pub mod FinalLines
pub mod Apart
pub mod StepNumbers
pub mod Fitting
pub mod CaseSteps
pub mod Reports
mod Worked
