-- What each kind of final line has, all final lines have. Each is a line.
use Rattle.std.proofs.Common.{◌≡◌, ◌+◌, ◌*◌, ◌==◌, ℕ, zero, suc, Bool, true, false, if◌then◌else◌, List, [], ◌∷◌, ◌++◌, codes, map, refl}
use Rattle.std.specs.Prelude.{slice_index, slice_range}
use Rattle.std.specs.Fmt.{decimal}
use Rattle.std.specs.Int.{w32, to_be_bytes}
use Rattle.std.specs.List.{All, flat_map}
use Rattle.std.proofs.lemmas.List.Elements.{All-nil, All-cons, All-append}
use Rattle.hex.specs.Hex.{encode_lower}
use Rattle.hmc_codes.specs.Numbers.{upto}
use Rattle.hmc_codes.specs.Text.{hex_number}
use Rattle.hmc_codes.specs.declared.counts.Counters.{Counters}
use Rattle.hmc_codes.specs.declared.counts.CubeCounts.{CubeCounts}
use Rattle.hmc_codes.specs.declared.counts.HostCounts.{HostCounts}
use Rattle.hmc_codes.specs.declared.counts.TokenRow.{TokenRow}
use Rattle.hmc_report.specs.Final.{FinalValues, ending_lines, final_lines}
use Rattle.hmc_report.specs.Lines.{is_zero, memory_line, block_lines, lines_of_blocks, memory_lines, register_line, value_lines, first_scratch, lines_of_registers, register_lines, advertised, token_line, counter_line, host_line, cube_line, state_word, state_line}
use Rattle.hmc_texts.specs.Texts.{is_line, AreLines}
use Rattle.hmc_texts.proofs.Lines.{is_inner, line_is, decimal_inner, hex_inner, bytes_inner}

-- it holds of each kind of final line
pub record EachLine (P : List ℕ → Type 0) : Type 0 where
  pub memory : (cube block : ℕ) (bytes : List ℕ) → P (memory_line cube block bytes)
  pub register : (cube register value : ℕ) → P (register_line cube register value)
  pub token : (direction : ℕ) (row : TokenRow) → P (token_line direction row)
  pub counter : (direction : ℕ) (counters : Counters) → P (counter_line direction counters)
  pub host : (host : ℕ) (counts : HostCounts) → P (host_line host counts)
  pub cube : (cube : ℕ) (counts : CubeCounts) → P (cube_line cube counts)
  pub state : (drained : Bool) → P (state_line drained)

all_mapped : (P : List ℕ → Type 0) (f : ℕ → List ℕ) (ns : List ℕ) → ((n : ℕ) → P (f n)) →
    All P (map f ns)
all_mapped P f [] each = All-nil P
all_mapped P f (n ∷ ns) each =
    All-cons P (f n) (map f ns) (each n) (all_mapped P f ns each)

all_flat : (P : List ℕ → Type 0) (f : ℕ → List (List ℕ)) (ns : List ℕ) →
    ((n : ℕ) → All P (f n)) → All P (flat_map f ns)
all_flat P f [] each = All-nil P
all_flat P f (n ∷ ns) each =
    All-append P (f n) (flat_map f ns) (each n) (all_flat P f ns each)

unless_zero : (P : List ℕ → Type 0) (none : Bool) (line : List ℕ) → P line →
    All P (if none then [] else line ∷ [])
unless_zero P true line is = All-nil P
unless_zero P false line is = All-cons P line [] is (All-nil P)

all_blocks : (P : List ℕ → Type 0) → EachLine P → (cube : ℕ) (memory : List ℕ) (blocks : ℕ) →
    All P (lines_of_blocks cube memory blocks)
unfolding lines_of_blocks
all_blocks P each cube memory zero = All-nil P
all_blocks P each cube memory (suc block) =
    let bytes = slice_range memory (16 * block) (16 * block + 16) in
    All-append P (lines_of_blocks cube memory block) (block_lines cube block bytes)
    (all_blocks P each cube memory block)
    (unless_zero P (is_zero bytes) (memory_line cube block bytes) (each.memory cube block bytes))

all_registers : (P : List ℕ → Type 0) → EachLine P → (cube : ℕ) (values : List ℕ)
    (registers : ℕ) → All P (lines_of_registers cube values registers)
unfolding lines_of_registers
all_registers P each cube values zero = All-nil P
all_registers P each cube values (suc n) =
    let number = n + first_scratch in
    let value = slice_index values number in
    All-append P (lines_of_registers cube values n) (value_lines cube number value)
    (all_registers P each cube values n)
    (unless_zero P (value == 0) (register_line cube number value)
    (each.register cube number value))

all_ending : (P : List ℕ → Type 0) → EachLine P → (v : FinalValues) → All P (ending_lines v)
unfolding ending_lines
all_ending P each v =
    let token = λ (direction : ℕ). token_line direction (v.tokens direction) in
    let counter = λ (direction : ℕ). counter_line direction (v.counters direction) in
    let host = λ (host : ℕ). host_line host (v.host_counts host) in
    let cube = λ (cube : ℕ). cube_line cube (v.cube_counts cube) in
    let tokens = map token (upto v.directions) in
    let counters = map counter (upto v.directions) in
    let hosts = map host (upto v.hosts) in
    let cubes = map cube (upto v.cubes) in
    All-append P (tokens ++ counters ++ hosts ++ cubes) (state_line v.drained ∷ [])
    (All-append P (tokens ++ counters ++ hosts) cubes
    (All-append P (tokens ++ counters) hosts
    (All-append P tokens counters
    (all_mapped P token (upto v.directions) (λ n. each.token n (v.tokens n)))
    (all_mapped P counter (upto v.directions) (λ n. each.counter n (v.counters n))))
    (all_mapped P host (upto v.hosts) (λ n. each.host n (v.host_counts n))))
    (all_mapped P cube (upto v.cubes) (λ n. each.cube n (v.cube_counts n))))
    (All-cons P (state_line v.drained) [] (each.state v.drained) (All-nil P))

pub all_final : (P : List ℕ → Type 0) → EachLine P → (v : FinalValues) → All P (final_lines v)
unfolding final_lines
all_final P each v =
    let memory = λ (cube : ℕ). memory_lines cube (v.memory cube) in
    let registers = λ (cube : ℕ). register_lines cube (v.registers cube) in
    let memories = flat_map memory (upto v.cubes) in
    let values = flat_map registers (upto v.cubes) in
    All-append P (memories ++ values) (ending_lines v)
    (All-append P memories values
    (all_flat P memory (upto v.cubes) (λ n. all_blocks P each n (v.memory n) _))
    (all_flat P registers (upto v.cubes) (λ n. all_registers P each n (v.registers n) _)))
    (all_ending P each v)

-- ---- each is a line

memory_is : (cube block : ℕ) (bytes : List ℕ) → is_line (memory_line cube block bytes) ≡ true
unfolding memory_line
memory_is cube block bytes =
    line_is
    (codes "memory" ∷ decimal cube ∷ hex_number (16 * block) ∷ encode_lower bytes ∷ [])
    (refl, (decimal_inner cube, (hex_inner (16 * block), (bytes_inner bytes, tt))))

register_is : (cube register value : ℕ) → is_line (register_line cube register value) ≡ true
unfolding register_line
register_is cube register value =
    line_is
    (codes "register" ∷ decimal cube ∷ decimal register ∷
    encode_lower (to_be_bytes w32 value) ∷ [])
    (refl, (decimal_inner cube, (decimal_inner register, (bytes_inner (to_be_bytes w32 value), tt))))

token_is : (direction : ℕ) (row : TokenRow) → is_line (token_line direction row) ≡ true
unfolding token_line
token_is direction row =
    line_is
    (codes "tokens" ∷ decimal direction ∷ decimal row.held ∷ decimal row.transit ∷
    decimal row.used ∷ decimal row.due ∷ decimal row.returning ∷ decimal (advertised row) ∷ []) (
      refl,
      (
        decimal_inner direction,
        (
          decimal_inner row.held,
          (
            decimal_inner row.transit,
            (
              decimal_inner row.used,
              (
                decimal_inner row.due,
                (
                  decimal_inner row.returning,
                  (decimal_inner (advertised row), tt),
                ),
              ),
            ),
          ),
        ),
      ),
    )

counter_is : (direction : ℕ) (counters : Counters) →
    is_line (counter_line direction counters) ≡ true
unfolding counter_line
counter_is direction counters =
    line_is
    (codes "counters" ∷ decimal direction ∷ decimal counters.sent ∷ decimal counters.landed ∷
    decimal counters.changed ∷ decimal counters.accepted ∷ decimal counters.repeats ∷
    decimal counters.aborts ∷ []) (
      refl,
      (
        decimal_inner direction,
        (
          decimal_inner counters.sent,
          (
            decimal_inner counters.landed,
            (
              decimal_inner counters.changed,
              (
                decimal_inner counters.accepted,
                (
                  decimal_inner counters.repeats,
                  (decimal_inner counters.aborts, tt),
                ),
              ),
            ),
          ),
        ),
      ),
    )

host_is : (host : ℕ) (counts : HostCounts) → is_line (host_line host counts) ≡ true
unfolding host_line
host_is host counts =
    line_is
    (codes "host" ∷ decimal host ∷ decimal counts.given ∷ decimal counts.taken ∷
    decimal counts.out ∷ []) (
      refl,
      (
        decimal_inner host,
        (
          decimal_inner counts.given,
          (
            decimal_inner counts.taken,
            (decimal_inner counts.out, tt),
          ),
        ),
      ),
    )

cube_is : (cube : ℕ) (counts : CubeCounts) → is_line (cube_line cube counts) ≡ true
unfolding cube_line
cube_is cube counts =
    line_is
    (codes "cube" ∷ decimal cube ∷ decimal counts.executed ∷ decimal counts.dropped ∷ []) (
      refl,
      (
        decimal_inner cube,
        (
          decimal_inner counts.executed,
          (decimal_inner counts.dropped, tt),
        ),
      ),
    )

state_inner : (drained : Bool) → is_inner (state_word drained) ≡ true
state_inner true = refl
state_inner false = refl

state_is : (drained : Bool) → is_line (state_line drained) ≡ true
unfolding state_line
state_is drained =
    line_is (codes "state" ∷ state_word drained ∷ []) (refl, (state_inner drained, tt))

pub final_are_lines : (v : FinalValues) → AreLines (final_lines v)
final_are_lines v = all_final (λ line. is_line line ≡ true) (record {
  memory = memory_is;
  register = register_is;
  token = token_is;
  counter = counter_is;
  host = host_is;
  cube = cube_is;
  state = state_is;
}) v
