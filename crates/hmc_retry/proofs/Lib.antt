pub mod Kept
pub mod Worked
pub mod Appended
