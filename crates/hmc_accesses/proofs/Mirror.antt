-- A plain machine has the bytes of a trace, access by access.
use Rattle.std.proofs.Common.{◌≡◌, ◌≤◌, ◌<◌, ◌∙◌, ◌+◌, ◌-◌, ◌%◌, ◌^◌, inl, inr, ℕ, zero, suc, List, [], ◌∷◌, length, Option, refl, sym, ap, subst, arith}
use Rattle.std.specs.Prelude.{slice_index, slice_index_or, replicate, ◌==◌, if◌then◌else◌}
use Rattle.std.specs.List.{All}
use Rattle.std.proofs.lemmas.Bool.{cases_lt, cases_eq, eq-eqb, ne_eqb}
use Rattle.std.proofs.lemmas.List.{get_or-set_same, get_or-set_other, get_or-replicate, get_or_past, length-set, length-replicate, length-map}
use Rattle.std.proofs.lemmas.List.Elements.{All-head, All-tail, All-cons, All-nil}
use Rattle.hmc_codes.specs.Request.{RequestFields}
use Rattle.hmc_codes.specs.Shape.{ShapeFields, IsShape, capacity_of}
use Rattle.hmc_memory.specs.Banks.{written_bytes}
use Rattle.hmc_memory.proofs.WrittenLemmas.{length-written}
use Rattle.hmc_serial.specs.Actions.{action_of}
use Rattle.hmc_serial.specs.Cube.{IsCube, opening}
use Rattle.hmc_serial.specs.Machine.{State, apply, cube_in, openings_from, opening_state, no_cube_state}
use Rattle.hmc_serial.proofs.CubeLemmas.{IsCube-opening}
use Rattle.hmc_units.specs.Unit.{UnitFields}
use Rattle.hmc_accesses.specs.Meaning.{no_shape}
use Rattle.hmc_accesses.specs.Requests.{up, down, store_requests, load_requests}
use Rattle.hmc_accesses.specs.Serial.{machine_after}
use Rattle.hmc_accesses.specs.Trace.{bytes_of, zeros, after, IsAccessIn}
use Rattle.hmc_accesses.specs.Trace.Access.{load, store}
use Rattle.hmc_accesses.proofs.Access.{IsAccessOf, Holds, byte_in, touched, touched_here}
use Rattle.hmc_accesses.proofs.Loading.{IsReadOf, AreReads, reads_load}
use Rattle.hmc_accesses.proofs.Replies.{state_by, byte_by, bytes_by, Holds-by, IsZero}
use Rattle.hmc_accesses.proofs.Spans.{AreWrites, writes_store}
use Rattle.hmc_accesses.proofs.Storing.{own, stored_byte}
use Rattle.hmc_accesses.proofs.Touched.{written_at, then_is, else_is, in_range, in_range-inside, in_range-below, in_range-above, where_is, below, inside, above}
use Rattle.hmc_accesses.proofs.Valid.{IsTraceCube}

-- the shape of a cube by its number
abbrev pub shape_at : List ShapeFields → ℕ → ShapeFields
shape_at cubes cube = slice_index_or cubes cube no_shape

-- ---- the opening state

opened_shape : (number : ℕ) (cubes : List ShapeFields) (c : ℕ) →
    (cube_in (openings_from number cubes) c).shape ≡ shape_at cubes c
unfolding opening
opened_shape number [] c = refl
opened_shape number (shape ∷ cubes) zero = refl
opened_shape number (shape ∷ cubes) (suc c) = opened_shape (number + 1) cubes c

zero_at : (n a : ℕ) → slice_index (replicate n 0) a ≡ 0
zero_at n a = elim (cases_lt a n) as (λ _. slice_index (replicate n 0) a ≡ 0) [
  | inl less ↦ get_or-replicate n a 0 0 less
  | inr past ↦ get_or_past (replicate n 0) a 0 (omega (arith, length-replicate {A = ℕ} n 0))
]

opened_byte : (number : ℕ) (cubes : List ShapeFields) (c a : ℕ) →
    slice_index (cube_in (openings_from number cubes) c).memory a ≡ 0
unfolding opening
opened_byte number [] c a = refl
opened_byte number (shape ∷ cubes) zero a = zero_at (capacity_of shape) a
opened_byte number (shape ∷ cubes) (suc c) a = opened_byte (number + 1) cubes c a

opened_count : (number : ℕ) (cubes : List ShapeFields) → length (openings_from number cubes)
    ≡ length cubes
opened_count number [] = refl
opened_count number (shape ∷ cubes) = ap suc (opened_count (number + 1) cubes)

opened_cubes : (number : ℕ) (cubes : List ShapeFields) → All IsShape cubes →
    number + length cubes ≤ 8 → All IsCube (openings_from number cubes)
opened_cubes number [] all few = All-nil IsCube
opened_cubes number (shape ∷ cubes) all few =
    All-cons IsCube (opening shape number) (openings_from (number + 1) cubes)
    (IsCube-opening shape number (All-head IsShape shape cubes all) (omega arith))
    (opened_cubes (number + 1) cubes (All-tail IsShape shape cubes all) (omega arith))

pub Holds-opening : (cubes : List ShapeFields) (slots : List (Option UnitFields)) →
    All IsShape cubes → length cubes ≤ 8 →
    Holds (length cubes) (shape_at cubes) (opening_state cubes slots)
unfolding opening_state
Holds-opening cubes slots all few = record {
  many = opened_count 0 cubes;
  cubes = opened_cubes 0 cubes all (omega arith);
  shapes = λ c. opened_shape 0 cubes c;
}

pub zero-opening : (cubes : List ShapeFields) (slots : List (Option UnitFields)) →
    IsZero (opening_state cubes slots)
unfolding opening_state
zero-opening cubes slots c a = opened_byte 0 cubes c a

-- ---- the machine and the memory of the trace

-- they have the same bytes
pub record Mirrors (cubes : List ShapeFields) (state : State) (memory : List (List ℕ)) : Type 0
  where
    pub holds : Holds (length cubes) (shape_at cubes) state
    pub many : length memory ≡ length cubes
    pub long : (c : ℕ) → c < length cubes → length (bytes_of memory c) ≡ capacity_of
        (shape_at cubes c)
    pub bytes : (c a : ℕ) → byte_in state c a ≡ slice_index (bytes_of memory c) a

zeros_at : (cubes : List ShapeFields) (c a : ℕ) → slice_index (bytes_of (zeros cubes) c) a ≡ 0
zeros_at [] c a = refl
zeros_at (shape ∷ cubes) zero a = zero_at (capacity_of shape) a
zeros_at (shape ∷ cubes) (suc c) a = zeros_at cubes c a

zeros_long : (cubes : List ShapeFields) (c : ℕ) → c < length cubes →
    length (bytes_of (zeros cubes) c) ≡ capacity_of (shape_at cubes c)
zeros_long [] c less = absurd (omega arith)
zeros_long (shape ∷ cubes) zero less = length-replicate {A = ℕ} (capacity_of shape) 0
zeros_long (shape ∷ cubes) (suc c) less = zeros_long cubes c (omega arith)

pub Mirrors-opening : (cubes : List ShapeFields) (slots : List (Option UnitFields)) →
    All IsShape cubes → length cubes ≤ 8 → Mirrors cubes (opening_state cubes slots) (zeros cubes)
Mirrors-opening cubes slots all few = record {
  holds = Holds-opening cubes slots all few;
  many = length-map cubes (λ shape. replicate (capacity_of shape) 0);
  long = zeros_long cubes;
  bytes = λ c a. zero-opening cubes slots c a ∙ sym (zeros_at cubes c a);
}

-- what is kept of the trace's cubes
pub record AreCubes (cubes : List ShapeFields) : Type 0 where
  pub few : length cubes ≤ 8
  pub shapes : All IsShape cubes
  pub blocks : (c : ℕ) → (shape_at cubes c).block ≡ 256
  pub small : (c : ℕ) → capacity_of (shape_at cubes c) ≤ 2 ^ 34
  pub whole : (c : ℕ) → capacity_of (shape_at cubes c) % 16 ≡ 0

trace_cube : (cubes : List ShapeFields) (cube : ℕ) → AreCubes cubes → cube < length cubes →
    IsTraceCube (length cubes) (shape_at cubes) cube
trace_cube cubes cube are less = record {
  there = less;
  few = are.few;
  block = are.blocks cube;
  small = are.small cube;
}

-- bytes are small
byte_small : (cubes : List ShapeFields) (state : State) (c a : ℕ) →
    Holds (length cubes) (shape_at cubes) state → byte_in state c a < 256
byte_small cubes state c a holds =
    elim (cases_lt c (length state.cubes)) as (λ _. byte_in state c a < 256) [
      | inl less ↦ (holds.cubes c no_cube_state less).bytes a
      | inr past ↦ subst (λ k. slice_index k.memory a < 256)
          (sym (get_or_past state.cubes c no_cube_state past)) (omega arith)
    ]

pub machine_is : (state : State) (xs : List RequestFields) →
    machine_after state xs ≡ state_by own state xs
machine_is state [] = refl
machine_is state (x ∷ xs) = machine_is (apply state x) xs

-- a store
pub store_writes : (cubes : List ShapeFields) (cube place : ℕ) (bytes : List ℕ) → AreCubes cubes →
    IsAccessIn cubes (store cube place bytes) → AreWrites (length cubes) (shape_at cubes) cube place
    (place + length bytes) (stored_byte place bytes) (store_requests cube place bytes)
store_writes cubes cube place bytes are of =
    writes_store (length cubes) (shape_at cubes) cube place bytes (trace_cube cubes cube are of.0.0)
    (λ a. of.1 (a - place)) of.0.1 (of.0.3 no_shape)

stored_after : (memory : List (List ℕ)) (cube place : ℕ) (bytes : List ℕ) → cube < length memory →
    bytes_of (after memory (store cube place bytes)) cube ≡ written_bytes (bytes_of memory cube)
    place bytes
stored_after memory cube place bytes less =
    get_or-set_same memory cube (written_bytes (bytes_of memory cube) place bytes) [] less

kept_after : (memory : List (List ℕ)) (cube place : ℕ) (bytes : List ℕ) (c : ℕ) → (c ≡ cube → ⊥) →
    bytes_of (after memory (store cube place bytes)) c ≡ bytes_of memory c
kept_after memory cube place bytes c other =
    get_or-set_other memory cube c (written_bytes (bytes_of memory cube) place bytes) [] other

pub Mirrors-store : (cubes : List ShapeFields) (state : State) (memory : List (List ℕ))
    (cube place : ℕ) (bytes : List ℕ) → AreCubes cubes → IsAccessIn cubes (store cube place bytes) →
    Mirrors cubes state memory →
    Mirrors cubes (state_by own state (store_requests cube place bytes))
    (after memory (store cube place bytes))
Mirrors-store cubes state memory cube place bytes are of mirrors =
    let xs = store_requests cube place bytes in
    let writes = store_writes cubes cube place bytes are of in
    let there : cube < length memory = omega (arith, mirrors.many, of.0.0) in
    let fits : place + length bytes ≤ length (bytes_of memory cube) =
    omega (arith, mirrors.long cube of.0.0, of.0.3 no_shape) in
    let new : (c a : ℕ) → byte_in (state_by own state xs) c a ≡ byte_by own xs c a
    (byte_in state c a) = bytes_by own (length cubes) (shape_at cubes) state xs mirrors.holds
    writes.valid in
    let small : (c a : ℕ) → byte_in state c a < 256 =
    λ c a. byte_small cubes state c a mirrors.holds in
    record {
      holds = Holds-by own (length cubes) (shape_at cubes) state xs mirrors.holds writes.valid;
      many = length-set memory cube (written_bytes (bytes_of memory cube) place bytes)
          ∙ mirrors.many;
      long = λ c less. elim (cases_eq c cube) as (λ _.
          length (bytes_of (after memory (store cube place bytes)) c) ≡ capacity_of
          (shape_at cubes c)) [
            | inl same ↦ ap (λ k. length (bytes_of (after memory (store cube place bytes)) k)) same
                ∙ ap length (stored_after memory cube place bytes there)
                ∙ length-written (bytes_of memory cube) place bytes fits ∙ mirrors.long cube of.0.0
                ∙ ap (λ k. capacity_of (shape_at cubes k)) (sym same)
            | inr other ↦ ap length (kept_after memory cube place bytes c other)
                ∙ mirrors.long c less
          ];
      bytes = λ c a. new c a ∙ elim (cases_eq c cube) as (λ _.
          byte_by own xs c a (byte_in state c a)
          ≡ slice_index (bytes_of (after memory (store cube place bytes)) c) a) [
            | inl same ↦
                let at : slice_index (bytes_of (after memory (store cube place bytes)) c) a
                ≡ (if in_range place (length bytes) a then slice_index bytes (a - place) else
                slice_index (bytes_of memory cube) a) =
                ap (λ k. slice_index (bytes_of (after memory (store cube place bytes)) k) a) same
                ∙ ap (λ l. slice_index l a) (stored_after memory cube place bytes there)
                ∙ written_at (bytes_of memory cube) place bytes a fits in
                let old : byte_in state c a ≡ slice_index (bytes_of memory cube) a =
                ap (λ k. byte_in state k a) same ∙ mirrors.bytes cube a in
                elim (where_is place (length bytes) a) as (λ _. byte_by own xs c a
                (byte_in state c a)
                ≡ slice_index (bytes_of (after memory (store cube place bytes)) c) a) [
                  | below less ↦ writes.stores.kept c a (byte_in state c a) (small c a)
                      (λ _ from to. absurd (omega arith)) ∙ old
                      ∙ sym (at ∙ else_is (in_range place (length bytes) a)
                      (slice_index bytes (a - place)) (slice_index (bytes_of memory cube) a)
                      (in_range-below place (length bytes) a less))
                  | inside least less ↦ ap (λ k. byte_by own xs k a (byte_in state c a)) same
                      ∙ writes.stores.stored a (byte_in state c a) (small c a) least less
                      ∙ sym (at ∙ then_is (in_range place (length bytes) a)
                      (slice_index bytes (a - place)) (slice_index (bytes_of memory cube) a)
                      (in_range-inside place (length bytes) a least less))
                  | above most ↦ writes.stores.kept c a (byte_in state c a) (small c a)
                      (λ _ from to. absurd (omega arith)) ∙ old
                      ∙ sym (at ∙ else_is (in_range place (length bytes) a)
                      (slice_index bytes (a - place)) (slice_index (bytes_of memory cube) a)
                      (in_range-above place (length bytes) a most))
                ]
            | inr other ↦ writes.stores.kept c a (byte_in state c a) (small c a)
                (λ same from to. other same) ∙ mirrors.bytes c a
                ∙ ap (λ l. slice_index l a) (sym (kept_after memory cube place bytes c other))
          ];
    }

-- a load
pub load_reads : (cubes : List ShapeFields) (cube place size : ℕ) → AreCubes cubes →
    IsAccessIn cubes (load cube place size) → AreReads (length cubes) (shape_at cubes) cube
    (down 16 place) (up 16 (place + size)) (load_requests cube place size)
load_reads cubes cube place size are of =
    reads_load (length cubes) (shape_at cubes) cube place size (trace_cube cubes cube are of.0) of.1
    (omega (arith, of.3 no_shape, are.whole cube))

pub reads_keep : (cube : ℕ) (xs : List RequestFields) (c a old : ℕ) → All (IsReadOf cube) xs →
    byte_by own xs c a old ≡ old
reads_keep cube [] c a old each = refl
reads_keep cube (x ∷ xs) c a old each =
    let first = All-head (IsReadOf cube) x xs each in
    let same : touched x c a old ≡ old =
    elim (cases_eq c x.cube) as (λ _. touched x c a old ≡ old) [
      | inl here ↦ then_is (c == x.cube) (touched_here (action_of x.command) x a old) old
          (eq-eqb c x.cube here) ∙ ap (λ o. touched_here o x a old) first.action
      | inr other ↦ else_is (c == x.cube) (touched_here (action_of x.command) x a old) old
          (ne_eqb c x.cube other)
    ] in
    ap (byte_by own xs c a) same ∙ reads_keep cube xs c a old (All-tail (IsReadOf cube) x xs each)

pub Mirrors-load : (cubes : List ShapeFields) (state : State) (memory : List (List ℕ)) (cube : ℕ)
    (xs : List RequestFields) → All (IsReadOf cube) xs →
    All (IsAccessOf (length cubes) (shape_at cubes)) xs → Mirrors cubes state memory →
    Mirrors cubes (state_by own state xs) memory
Mirrors-load cubes state memory cube xs each valid mirrors = record {
  holds = Holds-by own (length cubes) (shape_at cubes) state xs mirrors.holds valid;
  many = mirrors.many;
  long = mirrors.long;
  bytes = λ c a. bytes_by own (length cubes) (shape_at cubes) state xs mirrors.holds valid c a
      ∙ reads_keep cube xs c a (byte_in state c a) each ∙ mirrors.bytes c a;
}
