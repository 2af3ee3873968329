pub mod SideIn
pub mod Doings
pub mod SideIs
pub mod Drains
