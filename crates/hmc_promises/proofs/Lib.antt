pub mod Guaranteeing
mod Worked
