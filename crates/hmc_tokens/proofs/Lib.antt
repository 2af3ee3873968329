pub mod QueueLemmas
pub mod FlitLemmas
mod Worked
pub mod PacketLemmas
