pub mod Choosing
pub mod Fits
pub mod CallLists
pub mod Balance
pub mod Acknowledging
pub mod Items
pub mod RealRuns
pub mod Pieces
pub mod SentPieces
pub mod LinkWires
pub mod PieceItems
pub mod Gathered
mod Worked
mod WorkedLaws
