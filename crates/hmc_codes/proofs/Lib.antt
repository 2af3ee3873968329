pub mod Codes
pub mod BytesLemmas
pub mod Blocks
pub mod Digits
pub mod Pairs
pub mod SixteenBytes
pub mod Words
pub mod General
pub mod Places
mod Worked
