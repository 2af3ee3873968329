-- The graph of cubes and hosts.
use Rattle.std.specs.Prelude.{ℕ, List}
use Rattle.hmc_codes.specs.declared.place.Join.{Join}

-- the number of cubes, and what each link joins, in the order of the links' numbers
pub record GraphFields : Type 0 where
  pub cubes : ℕ
  pub joins : List Join
