pub mod Banks
pub mod Kept
