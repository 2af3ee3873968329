pub mod KeysLemmas
pub mod InTurnLemmas
pub mod GraphLemmas
pub mod PartsLemmas
pub mod HostsLemmas
pub mod NetLemmas
pub mod PlanLemmas
mod Worked
