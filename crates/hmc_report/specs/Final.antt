-- The final lines of a run, from the plain values that it leaves.
use Rattle.std.specs.Prelude.{◌≡◌, ℕ, Bool, List, [], ◌∷◌, ◌++◌, map}
use Rattle.std.specs.List.{flat_map, concat}
use Rattle.hmc_codes.specs.Numbers.{upto}
use Rattle.hmc_codes.specs.declared.counts.Counters.{Counters}
use Rattle.hmc_codes.specs.declared.counts.CubeCounts.{CubeCounts}
use Rattle.hmc_codes.specs.declared.counts.HostCounts.{HostCounts}
use Rattle.hmc_codes.specs.declared.counts.TokenRow.{TokenRow}
use Rattle.hmc_report.specs.Lines.{memory_lines, register_lines, token_line, counter_line, host_line, cube_line, state_line}
use Rattle.hmc_report.specs.declared.part.Part.{Part}
use Rattle.hmc_report.specs.declared.part.Part.TheVariants.{Memory, Tokens}

-- what a run leaves: so many cubes, directions and hosts, and of each by its number
pub record FinalValues : Type 0 where
  pub cubes : ℕ
  pub directions : ℕ
  pub hosts : ℕ
  -- all bytes of a cube in address order, and its sixteen registers
  pub memory : (cube : ℕ) → List ℕ
  pub registers : (cube : ℕ) → List ℕ
  -- the tokens of a direction, and what is counted of it
  pub tokens : (direction : ℕ) → TokenRow
  pub counters : (direction : ℕ) → Counters
  -- what is counted of a host, and of a cube
  pub host_counts : (host : ℕ) → HostCounts
  pub cube_counts : (cube : ℕ) → CubeCounts
  -- nothing is on its way
  pub drained : Bool

-- the lines after those of memories and registers: tokens and counters of the directions, then
-- hosts, then cubes, then the state
unfoldable pub ending_lines : FinalValues → List (List ℕ)
ending_lines v =
    map (λ direction. token_line direction (v.tokens direction)) (upto v.directions) ++
    map (λ direction. counter_line direction (v.counters direction)) (upto v.directions) ++
    map (λ host. host_line host (v.host_counts host)) (upto v.hosts) ++
    map (λ cube. cube_line cube (v.cube_counts cube)) (upto v.cubes) ++
    state_line v.drained ∷ []

-- all final lines: the memories of all cubes come first, then the registers of all cubes
unfoldable pub final_lines : FinalValues → List (List ℕ)
final_lines v =
    flat_map (λ cube. memory_lines cube (v.memory cube)) (upto v.cubes) ++
    flat_map (λ cube. register_lines cube (v.registers cube)) (upto v.cubes) ++
    ending_lines v

-- the final lines from this part on
abbrev pub lines_from : Part → FinalValues → List (List ℕ)
lines_from Memory v = final_lines v
lines_from Tokens v = ending_lines v

-- the same as one text
abbrev pub final_text : Part → FinalValues → List ℕ
final_text part v = concat (lines_from part v)

-- a text grew by the first of these lines and by nothing else
pub record AppendsSome (old new : List ℕ) (lines : List (List ℕ)) : Type 0 where
  pub whole : List (List ℕ)
  pub rest : List (List ℕ)
  pub parts : lines ≡ whole ++ rest
  pub appended : new ≡ old ++ concat whole
