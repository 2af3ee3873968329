pub mod Queues
pub mod Kept
