pub mod Sends
pub mod Lists
pub mod Tokens
pub mod Pointers
pub mod Lines
pub mod Wire
pub mod Items
