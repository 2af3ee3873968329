pub mod Packets
pub mod Vault
pub mod Spread
pub mod Execute
pub mod Execution
pub mod Kept
