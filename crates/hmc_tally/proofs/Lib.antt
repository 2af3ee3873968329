pub mod Rows
pub mod Accepting
pub mod TallyLaw
mod WorkedCounts
pub mod Alike
pub mod Opening
pub mod Within
