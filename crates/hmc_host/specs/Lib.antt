pub mod Tags
pub mod Waiting
pub mod Host
pub mod Give
pub mod Settle
