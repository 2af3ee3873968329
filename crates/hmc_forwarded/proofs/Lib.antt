mod Sending
mod Worked
