pub mod Packets
pub mod Intake
pub mod Queue
pub mod FlitBuffer
pub mod Moving
pub mod Account
