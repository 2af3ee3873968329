pub mod Places
pub mod Firsts
pub mod Cases
