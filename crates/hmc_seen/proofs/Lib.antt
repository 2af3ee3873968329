pub mod Explaining
pub mod Lines
pub mod Shorter
pub mod Stepping
pub mod Tests
mod Worked
