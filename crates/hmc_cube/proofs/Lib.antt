pub mod CubeLemmas
mod Worked
