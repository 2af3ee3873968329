pub mod Bits
pub mod Remainder
