pub mod Lists
pub mod Bursts
pub mod Views
pub mod Cases
pub mod Steps
pub mod Parts
pub mod Sends
pub mod CopyLemmas
pub mod KeptLemmas
mod FirstLemmas
pub mod SendLemmas
mod WorkedLife
mod WorkedThrough
pub mod KeepLemmas
pub mod KeepSends
pub mod CallLemmas
mod Worked
pub mod LinkLists
pub mod LinkLawful
pub mod LinkProjections
pub mod LinkTokenSums
pub mod WorkedLinkWords
pub mod WorkedLink
pub mod WorkedLinkRetry
pub mod WorkedLinkThrough
mod WorkedLinkCalls
mod WorkedLinkUnlock
pub mod WorkedLinkTwo
pub mod SendRows
