pub mod Packets
mod Worked
