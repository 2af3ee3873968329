-- A trace that is read keeps what every trace keeps.
use Rattle.std.proofs.Common.{◌≡◌, ◌≤◌, ◌<◌, ◌∙◌, ◌+◌, ◌-◌, ◌^◌, ◌==◌, ℕ, Bool, true, false, List, [], ◌∷◌, ◌++◌, length, Result, Ok, Err, Some, None, refl, sym, ap, subst, arith}
use Rattle.std.specs.Prelude.{slice_index_or, nat_le, nat_lt, ◌||◌, if◌then◌else◌, codes, min}
use Rattle.std.specs.List.{All}
use Rattle.std.specs.Str.{bytes_eq}
use Rattle.std.specs.Result.{result_ok}
use Rattle.hex.specs.Hex.{decode_of}
use Rattle.hex.specs.declared.error.FromHexError.{FromHexError}
use Rattle.hex.proofs.HexLemmas.{decode_of-ok}
use Rattle.std.proofs.lemmas.Bool.{ltb-true, ltb-false, leb-true, leb-false, eqb-false, or_parts}
use Rattle.std.proofs.lemmas.List.{get_or_default, length-append, nil_from_length}
use Rattle.std.proofs.lemmas.List.Elements.{All-push, All-nil}
use Rattle.hmc_codes.specs.Bytes.{IsBytes}
use Rattle.hmc_codes.specs.Limits.{most_memory}
use Rattle.hmc_codes.specs.Shape.{ShapeFields, IsShape, capacity_of}
use Rattle.hmc_text.specs.InTurn.{after_lines, at_line, next_number}
use Rattle.hmc_text.specs.Lines.{lines_of}
use Rattle.hmc_text.specs.Number.{below, number_of}
use Rattle.hmc_text.specs.Reading as reading
use Rattle.hmc_text.specs.Reading.{◌>>=◌, or_fault, next_word, no_word}
use Rattle.hmc_text.specs.Words.{words_of, is_passed_over}
use Rattle.hmc_accesses.specs.declared.fault.TraceKind.{TraceKind}
use Rattle.hmc_accesses.specs.declared.fault.TraceKind.TheVariants as kinds
use Rattle.hmc_accesses.specs.Meaning.{number_word, any_number, hex_word, bytes_in, rows_word, shape_of, inside, load_of, store_of, head_of, access_by, access_of, no_shape}
use Rattle.hmc_accesses.specs.Text.{nothing_yet, total, cube_of, has_begun, cube_line, add_access, access_line, statement, after_line, with_cubes, trace_of}
use Rattle.hmc_accesses.specs.Trace.{Access, Trace, IsTrace, IsInside, IsAccessIn}
use Rattle.hmc_accesses.specs.Trace.Access.{load, store}

-- a step that gave something was given something
bind : {A B K : Type 0} (r : Result A K) (f : A → Result B K) (y : B) → (r >>= f) ≡ Ok y →
    (x : A) × (r ≡ Ok x) × (f x ≡ Ok y)
bind (Ok x) f y is = (x, refl, is)
bind (Err kind) f y is = absurd (cc)

small_word : (kind : TraceKind) (limit : ℕ) (words : List (List ℕ)) (p : ℕ × List (List ℕ)) →
    number_word kind limit words ≡ Ok p → p.0 < limit
unfolding reading.number_word
small_word kind limit words p is =
    let first = bind (next_word kinds.Words words) _ p is in
    let number = bind (or_fault kinds.Number (number_of first.0.0)) _ p first.2 in
    let fits = bind (or_fault kind (below limit (Some number.0))) _ p number.2 in
    below_limit number.0 fits.0 fits.1 (ap_first fits.0 first.0.1 p fits.2)
  where
    ap_first : (n : ℕ) (rest : List (List ℕ)) (p : ℕ × List (List ℕ)) →
        ◌≡◌ {A = Result (ℕ × List (List ℕ)) TraceKind} (Ok (n, rest)) (Ok p) → n ≡ p.0
    ap_first n rest p is = let same : ◌≡◌ {A = ℕ × List (List ℕ)} (n, rest) p = cc in
        ap (λ (q : ℕ × List (List ℕ)). q.0) same

    below_limit : (n m : ℕ) → or_fault kind (below limit (Some n)) ≡ Ok m → m ≡ p.0 → p.0 < limit
    below_limit n m is same = by_test (nat_lt n limit) refl is
      where
        by_test : (b : Bool) → nat_lt n limit ≡ b → or_fault kind (if b then Some n else None)
            ≡ Ok m → p.0 < limit
        by_test true test is = let value : n ≡ m = cc in omega (arith, ltb-true n limit test)
        by_test false test is = absurd (cc)

rows_some : (words : List (List ℕ)) (p : ℕ × List (List ℕ)) → rows_word words ≡ Ok p →
    (1 ≤ p.0) × (p.0 ≤ 1024)
unfolding rows_word
rows_some words p is =
    let rows = bind (number_word kinds.Range 1025 words) _ p is in
    let small = small_word kinds.Range 1025 words rows.0 rows.1 in
    by_test rows.0 (rows.0.0 == 0) refl rows.2 small
  where
    by_test : (q : ℕ × List (List ℕ)) (b : Bool) → (q.0 == 0) ≡ b →
        ◌≡◌ {A = Result (ℕ × List (List ℕ)) TraceKind} (if b then Err kinds.Range else Ok q) (Ok p)
        → q.0 < 1025 → (1 ≤ p.0) × (p.0 ≤ 1024)
    by_test q true test is small = absurd (cc)
    by_test q false test is small =
        let same : q ≡ p = cc in
        let value : q.0 ≡ p.0 = ap (λ (x : ℕ × List (List ℕ)). x.0) same in
        let some = eqb-false q.0 0 test in
        (grind arith, omega arith)

pub shape_kept : (words : List (List ℕ)) (shape : ShapeFields) → shape_of words ≡ Ok shape →
    IsShape shape × (shape.block ≡ 256)
unfolding shape_of
shape_kept words shape is =
    let vaults = bind (number_word kinds.Range 6 words) _ shape is in
    let banks = bind (number_word kinds.Range 5 vaults.0.1) _ shape vaults.2 in
    let rows = bind (rows_word banks.0.1) _ shape banks.2 in
    let end = bind (no_word kinds.Words rows.0.1) _ shape rows.2 in
    let few_vaults = small_word kinds.Range 6 words vaults.0 vaults.1 in
    let few_banks = small_word kinds.Range 5 vaults.0.1 banks.0 banks.1 in
    let some = rows_some banks.0.1 rows.0 rows.1 in
    made_shape vaults.0.0 banks.0.0 rows.0.0 end.2 few_vaults few_banks some
  where
    made_shape : (v b r : ℕ) →
        ◌≡◌ {A = Result ShapeFields TraceKind}
        (Ok (record { vault_bits = v; bank_bits = b; rows = r; block = 256 })) (Ok shape) → v < 6 →
        b < 5 → (1 ≤ r) × (r ≤ 1024) → IsShape shape × (shape.block ≡ 256)
    made_shape v b r is few_vaults few_banks some =
        let made : ShapeFields = record { vault_bits = v; bank_bits = b; rows = r; block = 256 } in
        let same : made ≡ shape = cc in
        subst (λ s. IsShape s × (s.block ≡ 256)) same (
          record {
            vault_bits = omega arith;
            bank_bits = omega arith;
            some_rows = some.0;
            rows = some.1;
            block = refl;
          },
          refl,
        )

-- ---- accesses

abbrev IsFit : (capacity place size : ℕ) → Type 0
IsFit capacity place size = (1 ≤ size) × (size ≤ 4096) × (place + size ≤ capacity)

fit : (capacity place size : ℕ) (x : Unit {0}) → inside capacity place size ≡ Ok x →
    IsFit capacity place size
unfolding inside
fit capacity place size x is = by_length (size == 0 || nat_lt 4096 size) refl is
  where
    by_range : (b : Bool) → nat_le (place + size) capacity ≡ b → (size == 0) ≡ false →
        nat_lt 4096 size ≡ false →
        ◌≡◌ {A = Result (Unit {0}) TraceKind} (if b then Ok tt else Err kinds.Range) (Ok x) →
        IsFit capacity place size
    by_range true test some most is = let n = eqb-false size 0 some in
        (grind arith, ltb-false 4096 size most, leb-true (place + size) capacity test)
    by_range false test some most is = absurd (cc)

    by_length : (b : Bool) → (size == 0 || nat_lt 4096 size) ≡ b →
        ◌≡◌ {A = Result (Unit {0}) TraceKind} (if b then Err kinds.Length else if nat_le
        (place + size) capacity then Ok tt else Err kinds.Range) (Ok x) → IsFit capacity place size
    by_length true test is = absurd (cc)
    by_length false test is = let both = or_parts (size == 0) (nat_lt 4096 size) test in
        by_range (nat_le (place + size) capacity) refl both.0 both.1 is

inside_cubes : (cubes : List ShapeFields) (cube place size : ℕ) → cube < length cubes →
    IsFit (capacity_of (slice_index_or cubes cube no_shape)) place size →
    IsInside cubes cube place size
inside_cubes cubes cube place size less is = (
  less,
  is.0,
  is.1,
  λ d. subst (λ s. place + size ≤ capacity_of s)
      (get_or_default cubes cube no_shape d less) is.2,
)

load_kept : (cubes : List ShapeFields) (cube : ℕ) (words : List (List ℕ)) (access : Access) →
    cube < length cubes → load_of cube (capacity_of (slice_index_or cubes cube no_shape)) words
    ≡ Ok access → IsAccessIn cubes access
unfolding load_of
load_kept cubes cube words access less is =
    let capacity = capacity_of (slice_index_or cubes cube no_shape) in
    let place = bind (any_number words) _ access is in
    let size = bind (any_number place.0.1) _ access place.2 in
    let fits = bind (inside capacity place.0.0 size.0.0) _ access size.2 in
    let end = bind (no_word kinds.Words size.0.1) _ access fits.2 in
    made place.0.0 size.0.0 end.2 (fit capacity place.0.0 size.0.0 fits.0 fits.1)
  where
    made : (p n : ℕ) → ◌≡◌ {A = Result Access TraceKind} (Ok (load cube p n)) (Ok access) →
        IsFit (capacity_of (slice_index_or cubes cube no_shape)) p n → IsAccessIn cubes access
    made p n is fits = let same : load cube p n ≡ access = cc in
        subst (IsAccessIn cubes) same (inside_cubes cubes cube p n less fits)

hex_kept : (words : List (List ℕ)) (p : List ℕ × List (List ℕ)) → hex_word words ≡ Ok p →
    IsBytes p.0
unfolding hex_word
hex_kept words p is =
    let first = bind (next_word kinds.Words words) _ p is in
    let bytes = bind (or_fault kinds.Hex (bytes_in first.0.0)) _ p first.2 in
    made bytes.0 first.0.1 bytes.2 (by_decoded first.0.0 (decode_of first.0.0) refl bytes.0 bytes.1)
  where
    by_decoded : (digits : List ℕ) (found : Result (List ℕ) FromHexError) → decode_of digits ≡ found
        → (b : List ℕ) → or_fault kinds.Hex (result_ok found) ≡ Ok b → IsBytes b
    by_decoded digits (Ok bytes) at b is = let same : bytes ≡ b = cc in
        subst IsBytes same (decode_of-ok digits bytes at).3
    by_decoded digits (Err e) at b is = absurd (cc)

    made : (b : List ℕ) (rest : List (List ℕ)) → ◌≡◌ {A = Result (List ℕ × List (List ℕ)) TraceKind}
        (Ok (b, rest)) (Ok p) → IsBytes b → IsBytes p.0
    made b rest is bytes = let same : ◌≡◌ {A = List ℕ × List (List ℕ)} (b, rest) p = cc in
        subst (λ (q : List ℕ × List (List ℕ)). IsBytes q.0) same bytes

store_kept : (cubes : List ShapeFields) (cube : ℕ) (words : List (List ℕ)) (access : Access) →
    cube < length cubes → store_of cube (capacity_of (slice_index_or cubes cube no_shape)) words
    ≡ Ok access → IsAccessIn cubes access
unfolding store_of
store_kept cubes cube words access less is =
    let capacity = capacity_of (slice_index_or cubes cube no_shape) in
    let place = bind (any_number words) _ access is in
    let bytes = bind (hex_word place.0.1) _ access place.2 in
    let fits = bind (inside capacity place.0.0 (length bytes.0.0)) _ access bytes.2 in
    let end = bind (no_word kinds.Words bytes.0.1) _ access fits.2 in
    made place.0.0 bytes.0.0 end.2 (fit capacity place.0.0 (length bytes.0.0) fits.0 fits.1)
    (hex_kept place.0.1 bytes.0 bytes.1)
  where
    made : (p : ℕ) (b : List ℕ) → ◌≡◌ {A = Result Access TraceKind} (Ok (store cube p b))
        (Ok access) → IsFit (capacity_of (slice_index_or cubes cube no_shape)) p (length b) →
        IsBytes b → IsAccessIn cubes access
    made p b is fits bytes = let same : store cube p b ≡ access = cc in
        subst (IsAccessIn cubes) same (inside_cubes cubes cube p (length b) less fits, bytes)

abbrev Head : Type 0
Head = ℕ × Bool × List (List ℕ)

head_kept : (cubes : ℕ) (words : List (List ℕ)) (head : Head) → head_of cubes words ≡ Ok head →
    head.0 < cubes
unfolding head_of
head_kept cubes words head is =
    let cube = bind (number_word kinds.Cube cubes words) _ head is in
    let verb = bind (next_word kinds.Words cube.0.1) _ head cube.2 in
    by_load cube.0.0 verb.0 (bytes_eq verb.0.0 (codes "load")) (bytes_eq verb.0.0 (codes "store"))
    verb.2 (small_word kinds.Cube cubes words cube.0 cube.1)
  where
    made : (n : ℕ) (b : Bool) (rest : List (List ℕ)) →
        ◌≡◌ {A = Result Head TraceKind} (Ok (n, b, rest)) (Ok head) → n < cubes → head.0 < cubes
    made n b rest is less = let same : ◌≡◌ {A = Head} (n, b, rest) head = cc in
        subst (λ (h : Head). h.0 < cubes) same less

    by_load : (n : ℕ) (verb : List ℕ × List (List ℕ)) (l s : Bool) →
        ◌≡◌ {A = Result Head TraceKind} (if l then Ok (n, false, verb.1) else if s then Ok
        (n, true, verb.1) else Err kinds.Word) (Ok head) → n < cubes → head.0 < cubes
    by_load n verb true s is less = made n false verb.1 is less
    by_load n verb false true is less = made n true verb.1 is less
    by_load n verb false false is less = absurd (cc)

pub access_kept : (cubes : List ShapeFields) (words : List (List ℕ)) (access : Access) →
    access_of cubes words ≡ Ok access → IsAccessIn cubes access
unfolding access_of
access_kept cubes words access is = by_count (length cubes == 0) is
  where
    by_verb : (head : Head) → head.0 < length cubes → (b : Bool) → head.1 ≡ b →
        access_by head.1 head.0 (capacity_of (slice_index_or cubes head.0 no_shape)) head.2
        ≡ Ok access → IsAccessIn cubes access
    by_verb head less true at is = store_kept cubes head.0 head.2 access less
        (ap (λ b. access_by b head.0 (capacity_of (slice_index_or cubes head.0 no_shape)) head.2)
        (sym at) ∙ is)
    by_verb head less false at is = load_kept cubes head.0 head.2 access less
        (ap (λ b. access_by b head.0 (capacity_of (slice_index_or cubes head.0 no_shape)) head.2)
        (sym at) ∙ is)

    by_count : (b : Bool) → (if b then Err kinds.Cubes else (head_of (length cubes) words >>=
        (λ head. access_by head.1 head.0 (capacity_of (slice_index_or cubes head.0 no_shape))
        head.2))) ≡ Ok access → IsAccessIn cubes access
    by_count true is = absurd (cc)
    by_count false is =
        let head = bind (head_of (length cubes) words) _ access is in
        by_verb head.0 (head_kept (length cubes) words head.0 head.1) head.0.1 refl head.2

-- ---- lines

-- the cube that a line gives
pub record IsCubeLine (begun : Bool) (cubes : ℕ) (shape : ShapeFields) : Type 0 where
  pub first : begun ≡ false
  pub few : cubes < 8
  pub is : IsShape shape
  pub block : shape.block ≡ 256

cube_kept : (begun : Bool) (cubes bytes : ℕ) (words : List (List ℕ)) (shape : ShapeFields) →
    cube_of begun cubes bytes words ≡ Ok shape → IsCubeLine begun cubes shape
unfolding cube_of
cube_kept true cubes bytes words shape is = absurd (cc)
cube_kept false cubes bytes words shape is = by_count (nat_le 8 cubes) refl is
  where
    by_room : (s : ShapeFields) (b : Bool) → shape_of words ≡ Ok s → nat_le 8 cubes ≡ false →
        ◌≡◌ {A = Result ShapeFields TraceKind} (if b then Ok s else Err kinds.Capacity) (Ok shape) →
        IsCubeLine false cubes shape
    by_room s true at few is =
        let same : s ≡ shape = cc in
        let kept = shape_kept words shape (at ∙ ap Ok same) in
        record { first = refl; few = leb-false 8 cubes few; is = kept.0; block = kept.1 }
    by_room s false at few is = absurd (cc)

    by_count : (b : Bool) → nat_le 8 cubes ≡ b →
        (if b then Err kinds.Cubes else
        (shape_of words >>= (λ s. if nat_le (bytes + capacity_of s) most_memory then Ok s else Err
        kinds.Capacity))) ≡ Ok shape → IsCubeLine false cubes shape
    by_count true test is = absurd (cc)
    by_count false test is =
        let read = bind (shape_of words) _ shape is in
        by_room read.0 (nat_le (bytes + capacity_of read.0) most_memory) read.1 test read.2

more_cubes : (trace : Trace) (shape : ShapeFields) → IsTrace trace →
    IsCubeLine (has_begun trace) (length trace.cubes) shape →
    IsTrace (record trace { cubes = trace.cubes ++ shape ∷ [] })
more_cubes trace shape is line =
    let none : length trace.accesses ≡ 0 = let most =
    ltb-false 0 (length trace.accesses) line.first in omega arith in
    let nothing = nil_from_length trace.accesses none in record {
      few_cubes = omega (arith, length-append trace.cubes (shape ∷ []), line.few);
      shapes = All-push IsShape trace.cubes shape is.shapes line.is;
      blocks = All-push (λ s. s.block ≡ 256) trace.cubes shape is.blocks line.block;
      accesses = subst (All (IsAccessIn (trace.cubes ++ shape ∷ []))) (sym nothing)
          (All-nil (IsAccessIn (trace.cubes ++ shape ∷ [])));
    }

cube_line_kept : (trace : Trace) (words : List (List ℕ)) (next : Trace) → IsTrace trace →
    cube_line trace words ≡ Ok next → IsTrace next
unfolding cube_line
cube_line_kept trace words next is read =
    let shape = bind (cube_of (has_begun trace) (length trace.cubes) (total trace.cubes) words) _
    next read in
    let same : record trace { cubes = trace.cubes ++ shape.0 ∷ [] } ≡ next = ok_is shape.2 in
    subst IsTrace same (more_cubes trace shape.0 is
    (cube_kept (has_begun trace) (length trace.cubes) (total trace.cubes) words shape.0
    shape.1))
  where
    ok_is : {a : Trace} → ◌≡◌ {A = Result Trace TraceKind} (Ok a) (Ok next) → a ≡ next
    ok_is same = cc

access_line_kept : (trace : Trace) (words : List (List ℕ)) (next : Trace) → IsTrace trace →
    access_line trace words ≡ Ok next → IsTrace next
unfolding access_line add_access
access_line_kept trace words next is read =
    let access = bind (access_of trace.cubes words) _ next read in
    by_test access.0 (access_kept trace.cubes words access.0 access.1) _ access.2
  where
    by_test : (access : Access) → IsAccessIn trace.cubes access → (b : Bool) →
        ◌≡◌ {A = Result Trace TraceKind}
        (if b then Ok (record trace { accesses = trace.accesses ++ access ∷ [] }) else Err
        kinds.TooMany) (Ok next) → IsTrace next
    by_test access inside true read =
        let same : record trace { accesses = trace.accesses ++ access ∷ [] } ≡ next = cc in
        let more : IsTrace (record trace { accesses = trace.accesses ++ access ∷ [] }) =
        record {
          few_cubes = is.few_cubes;
          shapes = is.shapes;
          blocks = is.blocks;
          accesses =
              All-push (IsAccessIn trace.cubes) trace.accesses access is.accesses inside;
        } in
        subst IsTrace same more
    by_test access inside false read = absurd (cc)

statement_kept : (trace : Trace) (words : List (List ℕ)) (next : Trace) → IsTrace trace →
    statement trace words ≡ Ok next → IsTrace next
unfolding statement
statement_kept trace [] next is read = absurd (cc)
statement_kept trace (word ∷ words) next is read = by_word (bytes_eq word (codes "cube")) read
  where
    by_word : (b : Bool) → (if b then cube_line trace words else access_line trace (word ∷ words))
        ≡ Ok next → IsTrace next
    by_word true read = cube_line_kept trace words next is read
    by_word false read = access_line_kept trace (word ∷ words) next is read

line_kept : (trace : Trace) (line : List ℕ) (next : Trace) → IsTrace trace →
    after_line trace line ≡ Ok next → IsTrace next
unfolding after_line
line_kept trace line next is read = by_comment (is_passed_over (words_of line)) read
  where
    by_comment : (b : Bool) → (if b then Ok trace else statement trace (words_of line)) ≡ Ok next →
        IsTrace next
    by_comment true read = let same : trace ≡ next = cc in subst IsTrace same is
    by_comment false read = statement_kept trace (words_of line) next is read

lines_kept : (number : ℕ) (trace : Trace) (lines : List (List ℕ)) (last : Trace) → IsTrace trace →
    after_lines after_line number trace lines ≡ Ok last → IsTrace last
unfolding after_lines
lines_kept number trace [] last is read = let same : trace ≡ last = cc in subst IsTrace same is
lines_kept number trace (line ∷ lines) last is read =
    let next = bind (at_line number (after_line trace line)) _ last read in
    lines_kept (next_number number) next.0 lines last (line_kept trace line next.0 is
    (at_ok (after_line trace line) next.0 next.1)) next.2
  where
    at_ok : (r : Result Trace TraceKind) (x : Trace) → at_line number r ≡ Ok x → r ≡ Ok x
    at_ok (Ok y) x is = let same : y ≡ x = cc in ap Ok same
    at_ok (Err kind) x is = absurd (cc)

pub trace_kept : (text : List ℕ) (trace : Trace) → trace_of text ≡ Ok trace → IsTrace trace
unfolding trace_of with_cubes
trace_kept text trace is =
    let read = bind (after_lines after_line 1 nothing_yet (lines_of text)) _ trace is in
    by_count read.0 (length read.0.cubes == 0) (lines_kept 1 nothing_yet (lines_of text) read.0
    nothing read.1) read.2
  where
    nothing : IsTrace nothing_yet
    nothing = record {
      few_cubes = omega arith;
      shapes = All-nil IsShape;
      blocks =
          All-nil (λ (s : ShapeFields). s.block ≡ 256);
      accesses = All-nil (IsAccessIn []);
    }

    by_count : (t : Trace) (b : Bool) → IsTrace t →
        ◌≡◌ {A = Result Trace (ℕ × TraceKind)}
        (if b then Err (min (length (lines_of text)) (2 ^ 32 - 1), kinds.Cubes) else Ok t)
        (Ok trace) → IsTrace trace
    by_count t true kept is = absurd (cc)
    by_count t false kept is = let same : t ≡ trace = cc in subst IsTrace same kept
