pub mod EntryRule
pub mod OneJournal
pub mod Left
pub mod Whole
pub mod Joins
pub mod LinkKept
pub mod Projections
pub mod Moves
pub mod Networks
pub mod Packets
mod WorkedUnits
mod WorkedRow
mod WorkedThrough
mod Worked
mod Edges
mod WorkedHops
mod WorkedUnderWay
mod WorkedSettled
pub mod DirectionEnds
