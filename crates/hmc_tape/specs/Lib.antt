pub mod Tape
pub mod Calls
pub mod Tries
pub mod Laws
