-- What a case states of a cube.
use Rattle.std.specs.Prelude.{ℕ, ◌≤◌}
use Rattle.hmc_codes.specs.Limits.{most_queue}
use Rattle.hmc_codes.specs.Shape.{ShapeFields, IsShape}

-- a cube of a case: its shape, and the packets that each of its queues holds
pub record CubeSetupFields : Type 0 where
  pub shape : ShapeFields
  pub queue : ℕ

-- what every cube of a case keeps: each queue holds a packet at least
pub record IsCubeSetup (cube : CubeSetupFields) : Type 0 where
  pub shape : IsShape cube.shape
  pub some_queue : 1 ≤ cube.queue
  pub queue : cube.queue ≤ most_queue
