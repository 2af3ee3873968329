pub mod LinkList
pub mod Quiet
pub mod Tokens
