-- Where packets go from a port.
use Rattle.hmc_entries.specs.declared.outcome.Goal.{Goal}
use Rattle.hmc_entries.specs.declared.outcome.Goal.TheVariants as goals

-- a goal in the cube
abbrev pub IsInner : Goal → Type 0
IsInner (goals.Port port) = ⊥
IsInner goal = Unit {0}
