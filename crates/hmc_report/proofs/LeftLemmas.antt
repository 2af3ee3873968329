-- How the final lines that are left go down, one line after another.
use Rattle.std.proofs.Common.{◌≡◌, ◌<◌, ◌≤◌, ◌+◌, ◌-◌, ◌/◌, ◌∙◌, ℕ, zero, suc, Bool, true, false, List, [], ◌∷◌, ◌++◌, length, refl, sym, ap, subst, arith, append_assoc, append-nil, zero-add, slice_index}
use Rattle.std.specs.Prelude.{map, if◌then◌else◌, ◌==◌, slice_get, Option, Some, IsSome}
use Rattle.std.proofs.lemmas.Option.{slice_get-get_or}
use Rattle.hmc_report.specs.declared.part.Part.{Part}
use Rattle.hmc_report.specs.declared.part.Part.TheVariants as parts
use Rattle.std.specs.List.{flat_map, range_with_len}
use Rattle.hmc_codes.specs.Numbers.{upto}
use Rattle.hmc_codes.specs.declared.counts.Counters.{Counters}
use Rattle.hmc_codes.specs.declared.counts.CubeCounts.{CubeCounts}
use Rattle.hmc_codes.specs.declared.counts.HostCounts.{HostCounts}
use Rattle.hmc_codes.specs.declared.counts.TokenRow.{TokenRow}
use Rattle.hmc_report.specs.Lines.{is_zero, memory_line, block_lines, lines_of_blocks, memory_lines, register_line, value_lines, lines_of_registers, register_lines, token_line, counter_line, host_line, cube_line, state_line}
use Rattle.hmc_report.specs.Final.{FinalValues, ending_lines, final_lines, lines_from}
use Rattle.hmc_report.specs.Left.{numbers_from, block_bytes, blocks_left, values_left, cubes_left, hosts_left, counters_left, tokens_left, registers_left, memories_left, lines_left, IsCursor, rank, GivesLine, GivesNone}
use Rattle.hmc_report.proofs.SomeLemmas.{memory_line-some, register_line-some, token_line-some, counter_line-some, host_line-some, cube_line-some, state_line-some}
use Rattle.hmc_report.specs.declared.lines.Cursor.{Cursor}
use Rattle.hmc_report.specs.declared.lines.Cursor.TheVariants as at

-- the numbers from one on: it comes first, or there is none
numbers-some : (a n : ℕ) → a < n → numbers_from a n ≡ a ∷ numbers_from (a + 1) n
numbers-some a n h =
    let e : n - a ≡ suc (n - (a + 1)) = omega arith in ap (range_with_len a) e

numbers-none : (a n : ℕ) → n ≤ a → numbers_from a n ≡ []
numbers-none a n h = let e : n - a ≡ 0 = omega arith in ap (range_with_len a) e

numbers-all : (n : ℕ) → numbers_from 0 n ≡ upto n
numbers-all n = let e : n - 0 ≡ n = omega arith in ap (range_with_len 0) e

-- lines that come by numbers
flat-some : (f : ℕ → List (List ℕ)) (a n : ℕ) → a < n → flat_map f (numbers_from a n) ≡ f a ++ flat_map f (numbers_from (a + 1) n)
flat-some f a n h = ap (flat_map f) (numbers-some a n h)

flat-none : (f : ℕ → List (List ℕ)) (a n : ℕ) → n ≤ a → flat_map f (numbers_from a n) ≡ []
flat-none f a n h = ap (flat_map f) (numbers-none a n h)

flat-more : (f : ℕ → List (List ℕ)) (a n : ℕ) → flat_map f (range_with_len a (suc n)) ≡ flat_map f (range_with_len a n) ++ f (a + n)
flat-more f a zero = let e : a ≡ a + 0 = omega arith in append-nil (f a) ∙ ap f e
flat-more f a (suc n) =
    let e : (a + 1) + n ≡ a + suc n = omega arith in
    ap (λ l. f a ++ l) (flat-more f (a + 1) n ∙ ap (λ k. flat_map f (range_with_len (a + 1) n) ++ f k) e) ∙ sym (append_assoc (f a) (flat_map f (range_with_len (a + 1) n)) (f (a + suc n)))

-- the lines of a direction, of a host or of a cube, and all lines after them
line-some : (f : ℕ → List ℕ) (rest : List (List ℕ)) (a n : ℕ) → a < n → map f (numbers_from a n) ++ rest ≡ f a ∷ (map f (numbers_from (a + 1) n) ++ rest)
line-some f rest a n h = ap (λ l. map f l ++ rest) (numbers-some a n h)

line-none : (f : ℕ → List ℕ) (rest : List (List ℕ)) (a n : ℕ) → n ≤ a → map f (numbers_from a n) ++ rest ≡ rest
line-none f rest a n h = ap (λ l. map f l ++ rest) (numbers-none a n h)

-- the blocks of a cube from one on
abbrev lines_of_block : ℕ → List ℕ → ℕ → List (List ℕ)
lines_of_block cube memory block = block_lines cube block (block_bytes memory block)

blocks-none : (cube : ℕ) (memory : List ℕ) (block : ℕ) → length memory / 16 ≤ block → blocks_left cube memory block ≡ []
unfolding blocks_left
blocks-none cube memory block h = flat-none (lines_of_block cube memory) block (length memory / 16) h

blocks-more : (cube : ℕ) (memory : List ℕ) (block : ℕ) → block < length memory / 16 → blocks_left cube memory block ≡ lines_of_block cube memory block ++ blocks_left cube memory (block + 1)
unfolding blocks_left
blocks-more cube memory block h = flat-some (lines_of_block cube memory) block (length memory / 16) h

-- a block that is all zero, and another one
blocks-zero : (cube : ℕ) (memory : List ℕ) (block : ℕ) → block < length memory / 16 → is_zero (block_bytes memory block) ≡ true → blocks_left cube memory block ≡ blocks_left cube memory (block + 1)
blocks-zero cube memory block h is =
    blocks-more cube memory block h ∙ ap (λ (test : Bool). (if test then [] else memory_line cube block (block_bytes memory block) ∷ []) ++ blocks_left cube memory (block + 1)) is

blocks-line : (cube : ℕ) (memory : List ℕ) (block : ℕ) → block < length memory / 16 → is_zero (block_bytes memory block) ≡ false
    → blocks_left cube memory block ≡ memory_line cube block (block_bytes memory block) ∷ blocks_left cube memory (block + 1)
blocks-line cube memory block h is =
    blocks-more cube memory block h ∙ ap (λ (test : Bool). (if test then [] else memory_line cube block (block_bytes memory block) ∷ []) ++ blocks_left cube memory (block + 1)) is

-- the registers of a cube from one on
abbrev lines_of_value : ℕ → List ℕ → ℕ → List (List ℕ)
lines_of_value cube registers register = value_lines cube register (slice_index registers register)

values-none : (cube : ℕ) (registers : List ℕ) (register : ℕ) → 16 ≤ register → values_left cube registers register ≡ []
unfolding values_left
values-none cube registers register h = flat-none (lines_of_value cube registers) register 16 h

values-more : (cube : ℕ) (registers : List ℕ) (register : ℕ) → register < 16 → values_left cube registers register ≡ lines_of_value cube registers register ++ values_left cube registers (register + 1)
unfolding values_left
values-more cube registers register h = flat-some (lines_of_value cube registers) register 16 h

values-zero : (cube : ℕ) (registers : List ℕ) (register : ℕ) → register < 16 → slice_index registers register == 0 ≡ true → values_left cube registers register ≡ values_left cube registers (register + 1)
values-zero cube registers register h is =
    values-more cube registers register h ∙ ap (λ (test : Bool). (if test then [] else register_line cube register (slice_index registers register) ∷ []) ++ values_left cube registers (register + 1)) is

values-line : (cube : ℕ) (registers : List ℕ) (register : ℕ) → register < 16 → slice_index registers register == 0 ≡ false
    → values_left cube registers register ≡ register_line cube register (slice_index registers register) ∷ values_left cube registers (register + 1)
values-line cube registers register h is =
    values-more cube registers register h ∙ ap (λ (test : Bool). (if test then [] else register_line cube register (slice_index registers register) ∷ []) ++ values_left cube registers (register + 1)) is

-- those of a cube are those from its first one on
blocks-upto : (cube : ℕ) (memory : List ℕ) (n : ℕ) → lines_of_blocks cube memory n ≡ flat_map (lines_of_block cube memory) (range_with_len 0 n)
unfolding lines_of_blocks
blocks-upto cube memory zero = refl
blocks-upto cube memory (suc n) =
    let f = λ (block : ℕ). lines_of_block cube memory block in
    ap (λ l. l ++ f n) (blocks-upto cube memory n) ∙ ap (λ k. flat_map f (range_with_len 0 n) ++ f k) (sym (zero-add n)) ∙ sym (flat-more f 0 n)

blocks-all : (cube : ℕ) (memory : List ℕ) → memory_lines cube memory ≡ blocks_left cube memory 0
unfolding blocks_left
blocks-all cube memory =
    blocks-upto cube memory (length memory / 16) ∙ ap (flat_map (lines_of_block cube memory)) (sym (numbers-all (length memory / 16)))

values-upto : (cube : ℕ) (registers : List ℕ) (n : ℕ) → lines_of_registers cube registers n ≡ flat_map (lines_of_value cube registers) (range_with_len 4 n)
unfolding lines_of_registers
values-upto cube registers zero = refl
values-upto cube registers (suc n) =
    let f = λ (register : ℕ). lines_of_value cube registers register in
    let e : n + 4 ≡ 4 + n = omega arith in
    ap (λ l. l ++ f (n + 4)) (values-upto cube registers n) ∙ ap (λ k. flat_map f (range_with_len 4 n) ++ f k) e ∙ sym (flat-more f 4 n)

values-all : (cube : ℕ) (registers : List ℕ) → register_lines cube registers ≡ values_left cube registers 4
unfolding values_left
values-all cube registers = values-upto cube registers 12

-- where a cube's memory or registers begin
pub memories-some : (v : FinalValues) (cube : ℕ) → cube < v.cubes → memories_left v cube ≡ lines_left v (at.Block cube 0)
unfolding memories_left
memories-some v cube h =
    let f = λ (c : ℕ). memory_lines c (v.memory c) in
    ap (λ l. l ++ registers_left v 0) (flat-some f cube v.cubes h) ∙ append_assoc (f cube) (flat_map f (numbers_from (cube + 1) v.cubes)) (registers_left v 0)
    ∙ ap (λ l. l ++ memories_left v (cube + 1)) (blocks-all cube (v.memory cube))

pub memories-none : (v : FinalValues) (cube : ℕ) → v.cubes ≤ cube → memories_left v cube ≡ registers_left v 0
unfolding memories_left
memories-none v cube h = ap (λ l. l ++ registers_left v 0) (flat-none (λ c. memory_lines c (v.memory c)) cube v.cubes h)

pub registers-some : (v : FinalValues) (cube : ℕ) → cube < v.cubes → registers_left v cube ≡ lines_left v (at.Register cube 4)
unfolding registers_left
registers-some v cube h =
    let f = λ (c : ℕ). register_lines c (v.registers c) in
    ap (λ l. l ++ tokens_left v 0) (flat-some f cube v.cubes h) ∙ append_assoc (f cube) (flat_map f (numbers_from (cube + 1) v.cubes)) (tokens_left v 0)
    ∙ ap (λ l. l ++ registers_left v (cube + 1)) (values-all cube (v.registers cube))

pub registers-none : (v : FinalValues) (cube : ℕ) → v.cubes ≤ cube → registers_left v cube ≡ lines_left v (at.Tokens 0)
unfolding registers_left
registers-none v cube h = ap (λ l. l ++ tokens_left v 0) (flat-none (λ c. register_lines c (v.registers c)) cube v.cubes h)

-- all lines are those that are left at the first cursor
alike : (t t' c c' h h' q q' s : List (List ℕ)) → t ≡ t' → c ≡ c' → h ≡ h' → q ≡ q' → t ++ (c ++ (h ++ (q ++ s))) ≡ (((t' ++ c') ++ h') ++ q') ++ s
alike t t' c c' h h' q q' s et ec eh eq =
    let e : t ++ (c ++ (h ++ (q ++ s))) ≡ t' ++ (c' ++ (h' ++ (q' ++ s))) = cc in e ∙ simp append_assoc

tokens-all : (v : FinalValues) → ending_lines v ≡ lines_left v (at.Tokens 0)
unfolding ending_lines tokens_left counters_left hosts_left cubes_left
tokens-all v =
    sym (alike _ (map (λ direction. token_line direction (v.tokens direction)) (upto v.directions))
    _ (map (λ direction. counter_line direction (v.counters direction)) (upto v.directions))
    _ (map (λ host. host_line host (v.host_counts host)) (upto v.hosts))
    _ (map (λ cube. cube_line cube (v.cube_counts cube)) (upto v.cubes))
    (state_line v.drained ∷ [])
    (ap (map (λ direction. token_line direction (v.tokens direction))) (numbers-all v.directions))
    (ap (map (λ direction. counter_line direction (v.counters direction))) (numbers-all v.directions))
    (ap (map (λ host. host_line host (v.host_counts host))) (numbers-all v.hosts))
    (ap (map (λ cube. cube_line cube (v.cube_counts cube))) (numbers-all v.cubes)))

three : (m m' r r' s s' : List (List ℕ)) → m ≡ m' → r ≡ r' → s ≡ s' → (m ++ r) ++ s ≡ m' ++ (r' ++ s')
three m m' r r' s s' em er es =
    let e : (m ++ r) ++ s ≡ (m' ++ r') ++ s' = cc in e ∙ append_assoc m' r' s'

memories-all : (v : FinalValues) → final_lines v ≡ memories_left v 0
unfolding final_lines memories_left registers_left
memories-all v =
    let f = λ (cube : ℕ). memory_lines cube (v.memory cube) in
    let g = λ (cube : ℕ). register_lines cube (v.registers cube) in
    three (flat_map f (upto v.cubes)) (flat_map f (numbers_from 0 v.cubes)) (flat_map g (upto v.cubes)) (flat_map g (numbers_from 0 v.cubes)) (ending_lines v) (tokens_left v 0)
    (ap (flat_map f) (sym (numbers-all v.cubes))) (ap (flat_map g) (sym (numbers-all v.cubes))) (tokens-all v)

-- The scans of blocks and of registers: all so far are zero, and this one is, or it isn't.

pub scan-zero : (cube : ℕ) (memory bytes : List ℕ) (from block : ℕ) (test : Bool) → blocks_left cube memory from ≡ blocks_left cube memory block → block < length memory / 16
    → bytes ≡ block_bytes memory block → test ≡ is_zero bytes → test ≡ true → blocks_left cube memory from ≡ blocks_left cube memory (block + 1)
scan-zero cube memory bytes from block test before h is tested holds =
    before ∙ blocks-zero cube memory block h (ap is_zero (sym is) ∙ sym tested ∙ holds)

pub scan-line : (cube : ℕ) (memory bytes : List ℕ) (from block : ℕ) (test : Bool) → blocks_left cube memory from ≡ blocks_left cube memory block → block < length memory / 16
    → bytes ≡ block_bytes memory block → test ≡ is_zero bytes → test ≡ false
    → blocks_left cube memory from ≡ memory_line cube block (block_bytes memory block) ∷ blocks_left cube memory (block + 1)
scan-line cube memory bytes from block test before h is tested holds =
    before ∙ blocks-line cube memory block h (ap is_zero (sym is) ∙ sym tested ∙ holds)

pub read-zero : (cube : ℕ) (registers : List ℕ) (from register value : ℕ) → values_left cube registers from ≡ values_left cube registers register → register < 16
    → value ≡ slice_index registers register → value == 0 ≡ true → values_left cube registers from ≡ values_left cube registers (register + 1)
read-zero cube registers from register value before h is holds =
    before ∙ values-zero cube registers register h (ap (λ n. n == 0) (sym is) ∙ holds)

pub read-line : (cube : ℕ) (registers : List ℕ) (from register value : ℕ) → values_left cube registers from ≡ values_left cube registers register → register < 16
    → value ≡ slice_index registers register → value == 0 ≡ false
    → values_left cube registers from ≡ register_line cube register (slice_index registers register) ∷ values_left cube registers (register + 1)
read-line cube registers from register value before h is holds =
    before ∙ values-line cube registers register h (ap (λ n. n == 0) (sym is) ∙ holds)

-- the scan came to the end
pub scan-none : (cube : ℕ) (memory : List ℕ) (from block : ℕ) → blocks_left cube memory from ≡ blocks_left cube memory block → length memory / 16 ≤ block → blocks_left cube memory from ≡ []
scan-none cube memory from block before h = before ∙ blocks-none cube memory block h

pub read-none : (cube : ℕ) (registers : List ℕ) (from register : ℕ) → values_left cube registers from ≡ values_left cube registers register → 16 ≤ register → values_left cube registers from ≡ []
read-none cube registers from register before h = before ∙ values-none cube registers register h

-- what is read of a register that is there
pub value-there : (registers : List ℕ) (register : ℕ) (read : Option ℕ) → length registers ≡ 16 → register < 16 → read ≡ slice_get registers register → read ≡ Some (slice_index registers register)
value-there registers register read all h is = is ∙ slice_get-get_or registers register 0 (omega arith)

pub some-there : (read : Option ℕ) (value : ℕ) → read ≡ Some value → IsSome read
some-there read value is = subst IsSome (sym is) refl

pub same-value : (read : Option ℕ) (value found : ℕ) → read ≡ Some value → read ≡ Some found → found ≡ value
same-value read value found is read_is = cc

-- where the lines from a part on begin
pub from-memory : (v : FinalValues) (part : Part) (cursor : Cursor) → part ≡ parts.Memory → lines_left v cursor ≡ memories_left v 0 → lines_left v cursor ≡ lines_from part v
from-memory v part cursor is left = left ∙ sym (memories-all v) ∙ ap (λ (p : Part). lines_from p v) (sym is)

pub from-tokens : (v : FinalValues) (part : Part) → part ≡ parts.Tokens → lines_left v (at.Tokens 0) ≡ lines_from part v
from-tokens v part is = sym (tokens-all v) ∙ ap (λ (p : Part). lines_from p v) (sym is)

-- a line that is given after some steps that gave none
pub given-later : (v : FinalValues) (from cursor next : Cursor) (text : List ℕ) → lines_left v from ≡ lines_left v cursor → GivesLine v cursor next text → GivesLine v from next text
given-later v from cursor next text before gives =
    record { left = before ∙ gives.left; cursor = gives.cursor; some = gives.some; short = gives.short }

-- A step that gives a line: of a block, of a register, of tokens, of counters, of a host, of a cube
-- and of the state.

pub block-line : (v : FinalValues) (cube from block : ℕ) (bytes text : List ℕ) → cube < v.cubes
    → blocks_left cube (v.memory cube) from ≡ memory_line cube block (block_bytes (v.memory cube) block) ∷ blocks_left cube (v.memory cube) (block + 1)
    → bytes ≡ block_bytes (v.memory cube) block → text ≡ memory_line cube block bytes → length text < 2048 → GivesLine v (at.Block cube from) (at.Block cube (block + 1)) text
block-line v cube from block bytes text there left is made short =
    record {
      left = ap (λ l. l ++ memories_left v (cube + 1)) left ∙ ap (λ l. memory_line cube block l ∷ (blocks_left cube (v.memory cube) (block + 1) ++ memories_left v (cube + 1))) (sym is)
          ∙ ap (λ l. l ∷ (blocks_left cube (v.memory cube) (block + 1) ++ memories_left v (cube + 1))) (sym made);
      cursor = there;
      some = omega (arith, ap length made, memory_line-some cube block bytes);
      short = short;
    }

pub block-none : (v : FinalValues) (cube from : ℕ) (next : Cursor) (text : List ℕ) → cube < v.cubes → blocks_left cube (v.memory cube) from ≡ [] → lines_left v next ≡ memories_left v (cube + 1)
    → IsCursor v next → rank v next ≤ v.cubes - (cube + 1) + v.cubes + 5 → text ≡ [] → GivesNone v (at.Block cube from) next text
block-none v cube from next text there left is cursor few empty =
    record { left = ap (λ l. l ++ memories_left v (cube + 1)) left ∙ sym is; cursor = cursor; fewer = omega arith; empty = empty }

pub register-line : (v : FinalValues) (cube from register value : ℕ) (text : List ℕ) → cube < v.cubes
    → values_left cube (v.registers cube) from ≡ register_line cube register (slice_index (v.registers cube) register) ∷ values_left cube (v.registers cube) (register + 1)
    → value ≡ slice_index (v.registers cube) register → text ≡ register_line cube register value → length text < 2048 → GivesLine v (at.Register cube from) (at.Register cube (register + 1)) text
register-line v cube from register value text there left is made short =
    record {
      left = ap (λ l. l ++ registers_left v (cube + 1)) left ∙ ap (λ n. register_line cube register n ∷ (values_left cube (v.registers cube) (register + 1) ++ registers_left v (cube + 1))) (sym is)
          ∙ ap (λ l. l ∷ (values_left cube (v.registers cube) (register + 1) ++ registers_left v (cube + 1))) (sym made);
      cursor = there;
      some = omega (arith, ap length made, register_line-some cube register value);
      short = short;
    }

pub register-none : (v : FinalValues) (cube from : ℕ) (next : Cursor) (text : List ℕ) → cube < v.cubes → values_left cube (v.registers cube) from ≡ [] → lines_left v next ≡ registers_left v (cube + 1)
    → IsCursor v next → rank v next ≤ v.cubes - (cube + 1) + 4 → text ≡ [] → GivesNone v (at.Register cube from) next text
register-none v cube from next text there left is cursor few empty =
    record { left = ap (λ l. l ++ registers_left v (cube + 1)) left ∙ sym is; cursor = cursor; fewer = omega arith; empty = empty }

pub tokens-line : (v : FinalValues) (direction : ℕ) (row : TokenRow) (text : List ℕ) → direction < v.directions → row ≡ v.tokens direction → text ≡ token_line direction row → length text < 2048
    → GivesLine v (at.Tokens direction) (at.Tokens (direction + 1)) text
unfolding tokens_left
tokens-line v direction row text there is made short =
    record {
      left = line-some (λ d. token_line d (v.tokens d)) (counters_left v 0) direction v.directions there
          ∙ ap (λ l. l ∷ tokens_left v (direction + 1)) (ap (token_line direction) (sym is) ∙ sym made);
      cursor = tt;
      some = omega (arith, ap length made, token_line-some direction row);
      short = short;
    }

pub tokens-none : (v : FinalValues) (direction : ℕ) (text : List ℕ) → v.directions ≤ direction → text ≡ [] → GivesNone v (at.Tokens direction) (at.Counters 0) text
unfolding tokens_left
tokens-none v direction text there empty =
    record { left = line-none (λ d. token_line d (v.tokens d)) (counters_left v 0) direction v.directions there; cursor = tt; fewer = omega arith; empty = empty }

pub counters-line : (v : FinalValues) (direction : ℕ) (counters : Counters) (text : List ℕ) → direction < v.directions → counters ≡ v.counters direction → text ≡ counter_line direction counters → length text < 2048
    → GivesLine v (at.Counters direction) (at.Counters (direction + 1)) text
unfolding counters_left
counters-line v direction counters text there is made short =
    record {
      left = line-some (λ d. counter_line d (v.counters d)) (hosts_left v 0) direction v.directions there
          ∙ ap (λ l. l ∷ counters_left v (direction + 1)) (ap (counter_line direction) (sym is) ∙ sym made);
      cursor = tt;
      some = omega (arith, ap length made, counter_line-some direction counters);
      short = short;
    }

pub counters-none : (v : FinalValues) (direction : ℕ) (text : List ℕ) → v.directions ≤ direction → text ≡ [] → GivesNone v (at.Counters direction) (at.Host 0) text
unfolding counters_left
counters-none v direction text there empty =
    record { left = line-none (λ d. counter_line d (v.counters d)) (hosts_left v 0) direction v.directions there; cursor = tt; fewer = omega arith; empty = empty }

pub host-line : (v : FinalValues) (host : ℕ) (counts : HostCounts) (text : List ℕ) → host < v.hosts → counts ≡ v.host_counts host → text ≡ host_line host counts → length text < 2048
    → GivesLine v (at.Host host) (at.Host (host + 1)) text
unfolding hosts_left
host-line v host counts text there is made short =
    record {
      left = line-some (λ h. host_line h (v.host_counts h)) (cubes_left v 0) host v.hosts there
          ∙ ap (λ l. l ∷ hosts_left v (host + 1)) (ap (host_line host) (sym is) ∙ sym made);
      cursor = tt;
      some = omega (arith, ap length made, host_line-some host counts);
      short = short;
    }

pub host-none : (v : FinalValues) (host : ℕ) (text : List ℕ) → v.hosts ≤ host → text ≡ [] → GivesNone v (at.Host host) (at.Cube 0) text
unfolding hosts_left
host-none v host text there empty =
    record { left = line-none (λ h. host_line h (v.host_counts h)) (cubes_left v 0) host v.hosts there; cursor = tt; fewer = omega arith; empty = empty }

pub cube-line : (v : FinalValues) (cube : ℕ) (counts : CubeCounts) (text : List ℕ) → cube < v.cubes → counts ≡ v.cube_counts cube → text ≡ cube_line cube counts → length text < 2048
    → GivesLine v (at.Cube cube) (at.Cube (cube + 1)) text
unfolding cubes_left
cube-line v cube counts text there is made short =
    record {
      left = line-some (λ c. cube_line c (v.cube_counts c)) (state_line v.drained ∷ []) cube v.cubes there
          ∙ ap (λ l. l ∷ cubes_left v (cube + 1)) (ap (cube_line cube) (sym is) ∙ sym made);
      cursor = tt;
      some = omega (arith, ap length made, cube_line-some cube counts);
      short = short;
    }

pub state-line : (v : FinalValues) (cube : ℕ) (drained : Bool) (text : List ℕ) → v.cubes ≤ cube → drained ≡ v.drained → text ≡ state_line drained → length text < 2048 → GivesLine v (at.Cube cube) at.End text
unfolding cubes_left
state-line v cube drained text there is made short =
    record {
      left = line-none (λ c. cube_line c (v.cube_counts c)) (state_line v.drained ∷ []) cube v.cubes there
          ∙ ap (λ l. l ∷ []) (ap state_line (sym is) ∙ sym made);
      cursor = tt;
      some = omega (arith, ap length made, state_line-some drained);
      short = short;
    }
