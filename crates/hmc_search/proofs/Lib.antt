pub mod Alone
pub mod AtHand
pub mod Early
pub mod Keeping
pub mod Leading
pub mod Picking
pub mod Pure
pub mod Searching
mod Worked
mod WorkedLogs
