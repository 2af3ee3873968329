pub mod ReceptionLemmas
pub mod StandingLemmas
pub mod FollowLemmas
mod Worked
