pub mod Explaining
pub mod Firsts
pub mod Lists
pub mod Logs
pub mod Placing
pub mod Walking
mod Worked
