pub mod Lines
pub mod Final
pub mod Left
