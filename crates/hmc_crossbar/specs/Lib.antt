pub mod To
