mod Stored
mod Ends
