pub mod Pipes
pub mod Places
pub mod Copying
pub mod Going
mod Filling
mod Worked
