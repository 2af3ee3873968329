pub mod Words
pub mod Lines
pub mod Number
pub mod Reading
pub mod InTurn
