pub mod InOrder
mod NullLines
mod OwnLine
mod IdleLines
mod IdleWords
mod WorkedLines
pub mod ParseLines
pub mod ParseText
pub mod ParseTells
pub mod ParseSame
