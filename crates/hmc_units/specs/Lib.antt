pub mod Unit
pub mod Bench
pub mod Slot
pub mod Slots
pub mod Shipped
pub mod Kinds
