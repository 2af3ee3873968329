-- The final lines that are left, by how far they have been made.
use Rattle.std.specs.Prelude.{◌≡◌, ◌<◌, ℕ, ◌+◌, ◌-◌, ◌*◌, ◌/◌, List, [], ◌∷◌, ◌++◌, length, map, slice_range, slice_index}
use Rattle.std.specs.List.{flat_map, range_with_len}
use Rattle.hmc_report.specs.Lines.{block_lines, memory_lines, value_lines, register_lines, first_scratch, scratch_registers, token_line, counter_line, host_line, cube_line, state_line}
use Rattle.hmc_report.specs.Final.{FinalValues}
use Rattle.hmc_report.specs.declared.lines.Cursor.{Cursor}
use Rattle.hmc_report.specs.declared.lines.Cursor.TheVariants as at
use Rattle.hmc_report.specs.declared.lines.Step.{Step}
use Rattle.hmc_report.specs.declared.lines.Step.TheVariants as steps

-- the numbers from one on that are below another
abbrev pub numbers_from : (from below : ℕ) → List ℕ
numbers_from from below = range_with_len from (below - from)

-- the sixteen bytes of a block
abbrev pub block_bytes : List ℕ → (block : ℕ) → List ℕ
block_bytes memory block = slice_range memory (16 * block) (16 * block + 16)

-- the lines of a cube's blocks from this one on
unfoldable pub blocks_left : (cube : ℕ) → List ℕ → (block : ℕ) → List (List ℕ)
blocks_left cube memory block =
    flat_map (λ b. block_lines cube b (block_bytes memory b))
    (numbers_from block (length memory / 16))

-- the lines of a cube's registers from this one on
unfoldable pub values_left : (cube : ℕ) → List ℕ → (register : ℕ) → List (List ℕ)
values_left cube registers register =
    flat_map (λ r. value_lines cube r (slice_index registers r))
    (numbers_from register (first_scratch + scratch_registers))

-- In what follows each has the lines from a number on, and all lines after these.

unfoldable pub cubes_left : FinalValues → (cube : ℕ) → List (List ℕ)
cubes_left v from =
    map (λ cube. cube_line cube (v.cube_counts cube)) (numbers_from from v.cubes) ++
    state_line v.drained ∷ []

unfoldable pub hosts_left : FinalValues → (host : ℕ) → List (List ℕ)
hosts_left v from =
    map (λ host. host_line host (v.host_counts host)) (numbers_from from v.hosts) ++
    cubes_left v 0

unfoldable pub counters_left : FinalValues → (direction : ℕ) → List (List ℕ)
counters_left v from =
    map (λ direction. counter_line direction (v.counters direction))
    (numbers_from from v.directions) ++
    hosts_left v 0

unfoldable pub tokens_left : FinalValues → (direction : ℕ) → List (List ℕ)
tokens_left v from =
    map (λ direction. token_line direction (v.tokens direction))
    (numbers_from from v.directions) ++
    counters_left v 0

unfoldable pub registers_left : FinalValues → (cube : ℕ) → List (List ℕ)
registers_left v from =
    flat_map (λ cube. register_lines cube (v.registers cube)) (numbers_from from v.cubes) ++
    tokens_left v 0

unfoldable pub memories_left : FinalValues → (cube : ℕ) → List (List ℕ)
memories_left v from =
    flat_map (λ cube. memory_lines cube (v.memory cube)) (numbers_from from v.cubes) ++
    registers_left v 0

-- the lines that are left at a cursor
abbrev pub lines_left : FinalValues → Cursor → List (List ℕ)
lines_left v (at.Block cube block) =
    blocks_left cube (v.memory cube) block ++ memories_left v (cube + 1)
lines_left v (at.Register cube register) =
    values_left cube (v.registers cube) register ++ registers_left v (cube + 1)
lines_left v (at.Tokens direction) = tokens_left v direction
lines_left v (at.Counters direction) = counters_left v direction
lines_left v (at.Host host) = hosts_left v host
lines_left v (at.Cube cube) = cubes_left v cube
lines_left v at.End = []

-- a cursor in a memory or in registers is in those of a cube that is there
abbrev pub IsCursor : FinalValues → Cursor → Type 0
IsCursor v (at.Block cube block) = cube < v.cubes
IsCursor v (at.Register cube register) = cube < v.cubes
IsCursor v _ = Unit {0}

-- how often going on from a cursor can give no line
abbrev pub rank : FinalValues → Cursor → ℕ
rank v (at.Block cube block) = v.cubes - cube + v.cubes + 5
rank v (at.Register cube register) = v.cubes - cube + 4
rank v (at.Tokens direction) = 4
rank v (at.Counters direction) = 3
rank v (at.Host host) = 2
rank v (at.Cube cube) = 1
rank v at.End = 0

-- going on gave the next line
pub record GivesLine (v : FinalValues) (from next : Cursor) (text : List ℕ) : Type 0 where
  pub left : lines_left v from ≡ text ∷ lines_left v next
  pub cursor : IsCursor v next
  pub some : 0 < length text
  pub short : length text < 2048

-- going on gave no line, and the same lines are left
pub record GivesNone (v : FinalValues) (from next : Cursor) (text : List ℕ) : Type 0 where
  pub left : lines_left v from ≡ lines_left v next
  pub cursor : IsCursor v next
  pub fewer : rank v next < rank v from
  pub empty : text ≡ []

-- what a step from a cursor gives
abbrev pub Gives : FinalValues → (from : Cursor) → Step → (text : List ℕ) → Type 0
Gives v from (steps.Line next) text = GivesLine v from next text
Gives v from (steps.Nothing next) text = GivesNone v from next text
Gives v from steps.End text = lines_left v from ≡ []
