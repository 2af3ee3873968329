pub mod Draws
pub mod Requests
pub mod Chain
pub mod Plan
pub mod Steps
pub mod Numbered
pub mod Word
