pub mod StepGuarantees
