pub mod StepWords
pub mod Printed
mod Worked
