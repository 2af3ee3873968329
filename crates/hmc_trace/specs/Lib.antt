pub mod Appending
pub mod Line
pub mod Making
pub mod Parsed
pub mod Queues
