-- What an access does, byte by byte.
use Rattle.std.proofs.Common.{◌≡◌, ◌≤◌, ◌<◌, ◌∙◌, ◌+◌, ◌-◌, ◌%◌, inl, inr, ℕ, Bool, true, false, List, ◌++◌, length, take, drop, refl, sym, ap, arith}
use Rattle.std.specs.Prelude.{slice_index, slice_range, nat_lt, nat_le, ◌&&◌, if◌then◌else◌}
use Rattle.std.proofs.lemmas.Bool.Decides.{nat_tests}
use Rattle.std.proofs.lemmas.Bool.{cases_lt, lt-ltb, le-ltb, le-leb, lt-leb}
use Rattle.std.proofs.lemmas.List.{get_or_append_left, get_or-append_right, get_or-take, get_or-drop, length-take, length-drop, length-append}
use Rattle.hmc_codes.specs.Bytes.{padded_bytes}
use Rattle.hmc_atomics.specs.Halves.{block_half, with_half}
use Rattle.hmc_memory.specs.Banks.{written_bytes}
use Rattle.hmc_memory.proofs.WrittenLemmas.{get_or-written_below, get_or-written_inside, get_or-written_above}
use Rattle.hmc_serial.specs.declared.action.Action.{Action}
use Rattle.hmc_serial.specs.declared.action.Action.TheVariants.{Write, Act}
use Rattle.hmc_serial.specs.Perform.{block_start, block_at, is_high}
use Rattle.hmc_accesses.proofs.Merged.{merged}

-- an address is among so many from a first one on
abbrev pub in_range : (start size a : ℕ) → Bool
in_range start size a = nat_le start a && nat_lt a (start + size)

-- what a performed request leaves of a byte of its cube
abbrev pub touched_by : Action → (address : ℕ) → (payload : List ℕ) → (a old : ℕ) → ℕ
touched_by Write address payload a old = if in_range address (length payload) a then slice_index
    payload (a - address) else old
touched_by (Act op) address payload a old =
    if in_range address 8 a
    then merged (slice_index (drop 8 (padded_bytes 16 payload)) (a - address))
    (slice_index (take 8 (padded_bytes 16 payload)) (a - address)) old
    else old
touched_by _ address payload a old = old

-- where an address is
pub data Where (start size a : ℕ) : Type 0 where
  below : a < start → Where start size a
  inside : start ≤ a → a < start + size → Where start size a
  above : start + size ≤ a → Where start size a

pub where_is : (start size a : ℕ) → Where start size a
where_is start size a = elim (cases_lt a start) as (λ _. Where start size a) [
  | inl less ↦ below less
  | inr least ↦ elim (cases_lt a (start + size)) as (λ _. Where start size a) [
    | inl less ↦ inside least less
    | inr most ↦ above most
  ]
]

pub in_range-inside : (start size a : ℕ) → start ≤ a → a < start + size →
    in_range start size a ≡ true
in_range-inside start size a least less =
    ap (λ b. b && nat_lt a (start + size)) (le-leb start a least) ∙ lt-ltb a (start + size) less

pub in_range-below : (start size a : ℕ) → a < start → in_range start size a ≡ false
in_range-below start size a less = ap (λ b. b && nat_lt a (start + size)) (lt-leb start a less)

and_false : (b : Bool) → (b && false) ≡ false
and_false true = refl
and_false false = refl

pub in_range-above : (start size a : ℕ) → start + size ≤ a → in_range start size a ≡ false
in_range-above start size a most = ap (λ b. nat_le start a && b) (le-ltb a (start + size) most)
    ∙ and_false (nat_le start a)

-- a test that is decided
pub then_is : {X : Type 0} (b : Bool) (x y : X) → b ≡ true → (if b then x else y) ≡ x
then_is b x y is = ap (λ t. if t then x else y) is

pub else_is : {X : Type 0} (b : Bool) (x y : X) → b ≡ false → (if b then x else y) ≡ y
else_is b x y is = ap (λ t. if t then x else y) is

-- bytes written over others
pub written_at : (xs : List ℕ) (at : ℕ) (new : List ℕ) (a : ℕ) → at + length new ≤ length xs →
    slice_index (written_bytes xs at new) a ≡ (if in_range at (length new) a then slice_index new
    (a - at) else slice_index xs a)
written_at xs at new a fits =
    elim (where_is at (length new) a) as (λ _. slice_index (written_bytes xs at new) a
    ≡ (if in_range at (length new) a then slice_index new (a - at) else slice_index xs a)) [
      | below less ↦ get_or-written_below xs at new a fits less
          ∙ sym (else_is (in_range at (length new) a) (slice_index new (a - at)) (slice_index xs a)
          (in_range-below at (length new) a less))
      | inside least less ↦ get_or-written_inside xs at new (a - at) a fits (omega arith)
          (omega arith)
          ∙ sym (then_is (in_range at (length new) a) (slice_index new (a - at)) (slice_index xs a)
          (in_range-inside at (length new) a least less))
      | above most ↦ get_or-written_above xs at new a fits most
          ∙ sym (else_is (in_range at (length new) a) (slice_index new (a - at)) (slice_index xs a)
          (in_range-above at (length new) a most))
    ]

-- a block with a new half
high_low : (block value : List ℕ) (j : ℕ) → length block ≡ 16 → j < 8 →
    slice_index (take 8 block ++ value) j ≡ slice_index block j
high_low block value j long less = get_or_append_left (take 8 block) value 0 j
    (omega (arith, length-take 8 block)) ∙ get_or-take 8 block j 0 less

high_high : (block value : List ℕ) (j : ℕ) → length block ≡ 16 → 8 ≤ j →
    slice_index (take 8 block ++ value) j ≡ slice_index value (j - 8)
high_high block value j long least = get_or-append_right (take 8 block) value 8 j 0
    (omega (arith, length-take 8 block)) least

low_low : (block value : List ℕ) (j : ℕ) → length value ≡ 8 → j < 8 →
    slice_index (value ++ drop 8 block) j ≡ slice_index value j
low_low block value j long less = get_or_append_left value (drop 8 block) 0 j (omega arith)

low_high : (block value : List ℕ) (j : ℕ) → length value ≡ 8 → 8 ≤ j →
    slice_index (value ++ drop 8 block) j ≡ slice_index block j
low_high block value j long least = get_or-append_right value (drop 8 block) 8 j 0 long least
    ∙ get_or-drop 8 block (j - 8) 0 ∙ ap (slice_index block) (omega arith)

-- a byte of a block of memory
block_byte : (memory : List ℕ) (start j : ℕ) → j < 16 →
    slice_index (slice_range memory start (start + 16)) j ≡ slice_index memory (start + j)
block_byte memory start j less = get_or-take (start + 16 - start) (drop start memory) j 0
    (omega arith) ∙ get_or-drop start memory j 0

high_place : (address : ℕ) → address % 8 ≡ 0 → is_high address ≡ true →
    address ≡ block_start address + 8
high_place address aligned is = grind (arith, nat_tests)

low_place : (address : ℕ) → address % 8 ≡ 0 → is_high address ≡ false →
    address ≡ block_start address
low_place address aligned is = grind (arith, nat_tests)

-- the byte of a memory whose block has a new half
abbrev pub mixed : (new_at : ℕ → ℕ → ℕ) → (address a old : ℕ) → ℕ
mixed new_at address a old = if in_range address 8 a then new_at (a - address) old else old

mixed-inside : (new_at : ℕ → ℕ → ℕ) (address a old : ℕ) → address ≤ a → a < address + 8 →
    new_at (a - address) old ≡ mixed new_at address a old
mixed-inside new_at address a old least less =
    sym (then_is (in_range address 8 a) (new_at (a - address) old) old
    (in_range-inside address 8 a least less))

mixed-outside : (new_at : ℕ → ℕ → ℕ) (address a old : ℕ) → in_range address 8 a ≡ false →
    old ≡ mixed new_at address a old
mixed-outside new_at address a old out =
    sym (else_is (in_range address 8 a) (new_at (a - address) old) old out)

high_block : (memory block value : List ℕ) (new_at : ℕ → ℕ → ℕ) (start address a : ℕ) →
    block ≡ slice_range memory start (start + 16) → length block ≡ 16 → address ≡ start + 8 →
    start ≤ a → a < start + 16
    → ((j : ℕ) → j < 8 → slice_index value j ≡ new_at j (slice_index (drop 8 block) j)) →
    Where address 8 a → slice_index (take 8 block ++ value) (a - start) ≡ mixed new_at address a
    (slice_index memory a)
high_block memory block value new_at start address a is long at least less values (below under) =
    high_low block value (a - start) long (omega arith) ∙ ap (λ l. slice_index l (a - start)) is
    ∙ block_byte memory start (a - start) (omega arith) ∙ ap (slice_index memory) (omega arith)
    ∙ mixed-outside new_at address a (slice_index memory a) (in_range-below address 8 a under)
high_block memory block value new_at start address a is long at least less values
    (inside from under) =
    let j = a - address in
    let same : slice_index (drop 8 block) (a - address) ≡ slice_index memory a =
    get_or-drop 8 block (a - address) 0 ∙ ap (λ l. slice_index l (8 + (a - address))) is
    ∙ block_byte memory start (8 + (a - address)) (omega arith)
    ∙ ap (slice_index memory) (omega arith) in
    high_high block value (a - start) long (omega arith) ∙ ap (slice_index value) (omega arith)
    ∙ values (a - address) (omega arith) ∙ ap (new_at (a - address)) same
    ∙ mixed-inside new_at address a (slice_index memory a) from under
high_block memory block value new_at start address a is long at least less values (above most) =
    absurd (omega arith)

low_block : (memory block value : List ℕ) (new_at : ℕ → ℕ → ℕ) (start address a : ℕ) →
    block ≡ slice_range memory start (start + 16) → length value ≡ 8 → address ≡ start → start ≤ a →
    a < start + 16
    → ((j : ℕ) → j < 8 → slice_index value j ≡ new_at j (slice_index (take 8 block) j)) →
    Where address 8 a → slice_index (value ++ drop 8 block) (a - start) ≡ mixed new_at address a
    (slice_index memory a)
low_block memory block value new_at start address a is long at least less values (below under) =
    absurd (omega arith)
low_block memory block value new_at start address a is long at least less values (inside from under)
    =
    let same : slice_index (take 8 block) (a - address) ≡ slice_index memory a =
    get_or-take 8 block (a - address) 0 (omega arith) ∙ ap (λ l. slice_index l (a - address)) is
    ∙ block_byte memory start (a - address) (omega arith)
    ∙ ap (slice_index memory) (omega arith) in
    low_low block value (a - start) long (omega arith) ∙ ap (slice_index value) (omega arith)
    ∙ values (a - address) (omega arith) ∙ ap (new_at (a - address)) same
    ∙ mixed-inside new_at address a (slice_index memory a) from under
low_block memory block value new_at start address a is long at least less values (above most) =
    low_high block value (a - start) long (omega arith) ∙ ap (λ l. slice_index l (a - start)) is
    ∙ block_byte memory start (a - start) (omega arith) ∙ ap (slice_index memory) (omega arith)
    ∙ mixed-outside new_at address a (slice_index memory a) (in_range-above address 8 a most)

either_block : (memory block value : List ℕ) (new_at : ℕ → ℕ → ℕ) (address a : ℕ) (high : Bool) →
    is_high address ≡ high → address % 8 ≡ 0 → block ≡ block_at memory address → length block ≡ 16 →
    length value ≡ 8 → block_start address ≤ a → a < block_start address + 16
    → ((j : ℕ) → j < 8 → slice_index value j ≡ new_at j (slice_index (block_half high block) j)) →
    slice_index (with_half high block value) (a - block_start address) ≡ mixed new_at address a
    (slice_index memory a)
either_block memory block value new_at address a true is aligned at long eight least less values =
    high_block memory block value new_at (block_start address) address a at long
    (high_place address aligned is) least less values (where_is address 8 a)
either_block memory block value new_at address a false is aligned at long eight least less values =
    low_block memory block value new_at (block_start address) address a at eight
    (low_place address aligned is) least less values (where_is address 8 a)

length-with_half : (high : Bool) (block value : List ℕ) → length block ≡ 16 → length value ≡ 8 →
    length (with_half high block value) ≡ 16
length-with_half true block value long eight =
    omega (arith, length-append (take 8 block) value, length-take 8 block)
length-with_half false block value long eight =
    omega (arith, length-append value (drop 8 block), length-drop 8 block)

-- a memory whose block has a new half
pub mixed_memory : (memory block value : List ℕ) (new_at : ℕ → ℕ → ℕ) (address a : ℕ) (high : Bool)
    → is_high address ≡ high → address % 8 ≡ 0 → block ≡ block_at memory address → length block ≡ 16
    → length value ≡ 8 → block_start address + 16 ≤ length memory
    → ((j : ℕ) → j < 8 → slice_index value j ≡ new_at j (slice_index (block_half high block) j))
    → slice_index (written_bytes memory (block_start address) (with_half high block value)) a
    ≡ mixed new_at address a (slice_index memory a)
mixed_memory memory block value new_at address a high is aligned at long eight fits values =
    let sixteen = length-with_half high block value long eight in
    elim (where_is (block_start address) 16 a) as (λ _.
    slice_index (written_bytes memory (block_start address) (with_half high block value)) a
    ≡ mixed new_at address a (slice_index memory a)) [
      | below under ↦ get_or-written_below memory (block_start address) (with_half high block value)
          a (omega arith) under
          ∙ mixed-outside new_at address a (slice_index memory a)
          (in_range-below address 8 a (omega arith))
      | inside from under ↦ get_or-written_inside memory (block_start address)
          (with_half high block value) (a - block_start address) a (omega arith) (omega arith)
          (omega arith)
          ∙ either_block memory block value new_at address a high is aligned at long eight from
          under values
      | above most ↦ get_or-written_above memory (block_start address) (with_half high block value)
          a (omega arith) (omega arith)
          ∙ mixed-outside new_at address a (slice_index memory a)
          (in_range-above address 8 a (omega arith))
    ]
