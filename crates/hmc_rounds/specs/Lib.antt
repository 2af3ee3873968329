pub mod Single
pub mod CubeQueues
pub mod Rounds
pub mod LinkPart
pub mod Counted
pub mod Bound
