pub mod LinkCalls
pub mod NewLinks
