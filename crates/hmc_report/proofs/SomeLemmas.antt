-- No line is empty.
use Rattle.std.proofs.Common.{◌<◌, ◌*◌, ℕ, Bool, List, [], ◌∷◌, ◌++◌, length, length-append, arith}
use Rattle.std.specs.Prelude.{codes}
use Rattle.std.specs.Fmt.{decimal}
use Rattle.std.specs.Int.{w32, to_be_bytes}
use Rattle.hex.specs.Hex.{encode_lower}
use Rattle.hmc_codes.specs.Text.{line, hex_number}
use Rattle.hmc_codes.specs.declared.counts.HostCounts.{HostCounts}
use Rattle.hmc_codes.specs.declared.counts.CubeCounts.{CubeCounts}
use Rattle.hmc_codes.specs.declared.counts.Counters.{Counters}
use Rattle.hmc_codes.specs.declared.counts.TokenRow.{TokenRow}
use Rattle.hmc_report.specs.Lines.{memory_line, register_line, advertised, token_line, counter_line, host_line, cube_line, state_line, state_word}

some-before : (word : List ℕ) (byte : ℕ) (rest : List ℕ) → 0 < length (word ++ (byte ∷ rest))
some-before word byte rest = omega (arith, length-append word (byte ∷ rest))

-- a line has its line feed at least
pub line-some : (words : List (List ℕ)) → 0 < length (line words)
line-some [] = omega arith
line-some (w ∷ []) = some-before w 10 []
line-some (w ∷ v ∷ words) = some-before w 32 (line (v ∷ words))

pub memory_line-some : (cube block : ℕ) (bytes : List ℕ) → 0 < length (memory_line cube block bytes)
unfolding memory_line
memory_line-some cube block bytes = line-some (codes "memory" ∷ decimal cube ∷ hex_number (16 * block) ∷ encode_lower bytes ∷ [])

pub register_line-some : (cube register value : ℕ) → 0 < length (register_line cube register value)
unfolding register_line
register_line-some cube register value = line-some (codes "register" ∷ decimal cube ∷ decimal register ∷ encode_lower (to_be_bytes w32 value) ∷ [])

pub token_line-some : (direction : ℕ) (row : TokenRow) → 0 < length (token_line direction row)
unfolding token_line
token_line-some direction row =
    line-some (codes "tokens" ∷ decimal direction ∷ decimal row.held ∷ decimal row.transit ∷ decimal row.used ∷ decimal row.due ∷ decimal row.returning ∷ decimal (advertised row) ∷ [])

pub counter_line-some : (direction : ℕ) (counters : Counters) → 0 < length (counter_line direction counters)
unfolding counter_line
counter_line-some direction counters =
    line-some (codes "counters" ∷ decimal direction ∷ decimal counters.sent ∷ decimal counters.landed ∷ decimal counters.changed ∷ decimal counters.accepted ∷ decimal counters.repeats ∷ decimal counters.aborts ∷ [])

pub host_line-some : (host : ℕ) (counts : HostCounts) → 0 < length (host_line host counts)
unfolding host_line
host_line-some host counts = line-some (codes "host" ∷ decimal host ∷ decimal counts.given ∷ decimal counts.taken ∷ decimal counts.out ∷ [])

pub cube_line-some : (cube : ℕ) (counts : CubeCounts) → 0 < length (cube_line cube counts)
unfolding cube_line
cube_line-some cube counts = line-some (codes "cube" ∷ decimal cube ∷ decimal counts.executed ∷ decimal counts.dropped ∷ [])

pub state_line-some : (drained : Bool) → 0 < length (state_line drained)
unfolding state_line
state_line-some drained = line-some (codes "state" ∷ state_word drained ∷ [])
