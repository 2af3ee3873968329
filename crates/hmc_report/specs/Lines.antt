-- The final lines of a report, which come after the lines of its steps.
use Rattle.std.specs.Prelude.{ℕ, zero, suc, ◌+◌, ◌*◌, ◌/◌, Bool, ◌==◌, if◌then◌else◌, List, [], ◌∷◌, ◌++◌, length, slice_range, slice_index, codes}
use Rattle.std.specs.List.{list_all}
use Rattle.std.specs.Fmt.{decimal}
use Rattle.std.specs.Int.{w32, to_be_bytes}
use Rattle.hex.specs.Hex.{encode_lower}
use Rattle.hmc_codes.specs.Text.{line, hex_number}
use Rattle.hmc_codes.specs.declared.counts.HostCounts.{HostCounts}
use Rattle.hmc_codes.specs.declared.counts.CubeCounts.{CubeCounts}
use Rattle.hmc_codes.specs.declared.counts.Counters.{Counters}
use Rattle.hmc_codes.specs.declared.counts.TokenRow.{TokenRow}

-- all bytes are zero
abbrev pub is_zero : List ℕ → Bool
is_zero block = list_all (λ byte. byte == 0) block

-- the line of a block of 16 bytes, by its number in its cube's memory
unfoldable pub memory_line : (cube block : ℕ) → List ℕ → List ℕ
memory_line cube block bytes =
    line (codes "memory" ∷ decimal cube ∷ hex_number (16 * block) ∷ encode_lower bytes ∷ [])

-- a block that is all zero has no line
abbrev pub block_lines : (cube block : ℕ) → List ℕ → List (List ℕ)
block_lines cube block bytes = if is_zero bytes then [] else memory_line cube block bytes ∷ []

-- the lines of the blocks below a number
unfoldable pub lines_of_blocks : (cube : ℕ) → List ℕ → (blocks : ℕ) → List (List ℕ)
lines_of_blocks cube memory zero = []
lines_of_blocks cube memory (suc block) =
    lines_of_blocks cube memory block ++
    block_lines cube block (slice_range memory (16 * block) (16 * block + 16))

-- the lines of a cube's memory
abbrev pub memory_lines : (cube : ℕ) → List ℕ → List (List ℕ)
memory_lines cube memory = lines_of_blocks cube memory (length memory / 16)

-- the line of a register
unfoldable pub register_line : (cube register value : ℕ) → List ℕ
register_line cube register value =
    line (codes "register" ∷ decimal cube ∷ decimal register ∷
    encode_lower (to_be_bytes w32 value) ∷ [])

-- a register that is zero has no line
abbrev pub value_lines : (cube register value : ℕ) → List (List ℕ)
value_lines cube register value = if value == 0 then [] else register_line cube register value ∷ []

-- the first register that can be written, and how many can be
abbrev pub first_scratch : ℕ
first_scratch = 4

abbrev pub scratch_registers : ℕ
scratch_registers = 12

-- the lines of so many registers from there on
unfoldable pub lines_of_registers : (cube : ℕ) → List ℕ → (registers : ℕ) → List (List ℕ)
lines_of_registers cube registers zero = []
lines_of_registers cube registers (suc n) =
    lines_of_registers cube registers n ++
    value_lines cube (n + first_scratch) (slice_index registers (n + first_scratch))

-- the lines of a cube's registers
abbrev pub register_lines : (cube : ℕ) → List ℕ → List (List ℕ)
register_lines cube registers = lines_of_registers cube registers scratch_registers

-- the tokens that a direction's receiving end advertises
abbrev pub advertised : TokenRow → ℕ
advertised row = row.held + row.transit + row.used + row.due + row.returning

-- the line of a direction's tokens: where they are, and how many there are
unfoldable pub token_line : (direction : ℕ) → TokenRow → List ℕ
token_line direction row = line (codes "tokens" ∷ decimal direction ∷
    decimal row.held ∷ decimal row.transit ∷ decimal row.used ∷ decimal row.due ∷
    decimal row.returning ∷ decimal (advertised row) ∷ [])

-- the line of what is counted of a direction: flits sent, landed and changed, packets accepted and
-- repeated, and aborts
unfoldable pub counter_line : (direction : ℕ) → Counters → List ℕ
counter_line direction counters = line (codes "counters" ∷ decimal direction ∷
    decimal counters.sent ∷ decimal counters.landed ∷ decimal counters.changed ∷
    decimal counters.accepted ∷ decimal counters.repeats ∷ decimal counters.aborts ∷ [])

-- the line of a host: requests given, answers taken, tags out
unfoldable pub host_line : (host : ℕ) → HostCounts → List ℕ
host_line host counts = line (codes "host" ∷ decimal host ∷
    decimal counts.given ∷ decimal counts.taken ∷ decimal counts.out ∷ [])

-- the line of a cube: requests executed, poisoned packets dropped
unfoldable pub cube_line : (cube : ℕ) → CubeCounts → List ℕ
cube_line cube counts = line (codes "cube" ∷ decimal cube ∷
    decimal counts.executed ∷ decimal counts.dropped ∷ [])

-- drained, where nothing is on its way
abbrev pub state_word : Bool → List ℕ
state_word drained = if drained then codes "drained" else codes "busy"

-- the last line
unfoldable pub state_line : Bool → List ℕ
state_line drained = line (codes "state" ∷ state_word drained ∷ [])
