-- Requests that store bytes.
use Rattle.std.proofs.Common.{◌≡◌, ◌≤◌, ◌<◌, ◌∙◌, ◌+◌, ◌-◌, inl, inr, ℕ, Bool, true, false, List, [], ◌∷◌, ◌++◌, length, take, drop, Some, refl, ap, arith}
use Rattle.std.specs.Prelude.{slice_index, replicate, bit_and, bit_or, ◌==◌, nat_lt, nat_le, ◌&&◌, if◌then◌else◌, map, min, max}
use Rattle.std.specs.List.{range_with_len}
use Rattle.std.specs.Int.Bits.{and_zero_r, or_zero_l, or_zero_r}
use Rattle.std.proofs.lemmas.Bool.{cases_lt, cases_eq, eq-eqb, ne_eqb, lt-ltb, le-ltb, le-leb, lt-leb, ltb-false}
use Rattle.std.proofs.lemmas.List.{get_or_append_left, get_or-append_right, get_or-take, get_or-drop, length-append}
use Rattle.std.proofs.lemmas.Nat.{and_mask}
use Rattle.std.proofs.lemmas.List.FromFn.{length-map-range_with_len, get_or-map-range_with_len}
use Rattle.hmc_codes.specs.Bytes.{padded_bytes}
use Rattle.hmc_codes.specs.Request.{RequestFields}
use Rattle.hmc_codes.specs.declared.command.Command.TheVariants as commands
use Rattle.hmc_atomics.specs.Operations.{atomic_of}
use Rattle.hmc_atomics.specs.declared.atomic.Atomic.TheVariants.{Bwr}
use Rattle.hmc_serial.specs.Actions.{action_of}
use Rattle.hmc_serial.specs.declared.action.Action.{Action}
use Rattle.hmc_serial.specs.declared.action.Action.TheVariants.{Write, Act}
use Rattle.hmc_accesses.specs.declared.span.Span.{Span}
use Rattle.hmc_accesses.specs.Requests.{within, masked_bytes, masked_half, masked_span, down}
use Rattle.hmc_accesses.proofs.Merged.{merged}
use Rattle.hmc_accesses.proofs.Touched.{in_range, in_range-inside, in_range-below, in_range-above, then_is, else_is, where_is, below, inside, above}
use Rattle.hmc_accesses.proofs.Access.{touched, touched_here}
use Rattle.hmc_accesses.proofs.Replies.{byte_by}

-- a request as it is
abbrev pub own : RequestFields → RequestFields
own request = request

byte_by-append : (xs ys : List RequestFields) (c a old : ℕ) →
    byte_by own (xs ++ ys) c a old ≡ byte_by own ys c a (byte_by own xs c a old)
byte_by-append [] ys c a old = refl
byte_by-append (x ∷ xs) ys c a old = byte_by-append xs ys c a (touched x c a old)

-- the requests leave these bytes in a range of a cube, and nothing else
pub record Stores (cube start end : ℕ) (byte : ℕ → ℕ) (requests : List RequestFields) : Type 0 where
  pub stored : (a old : ℕ) → old < 256 → start ≤ a → a < end →
      byte_by own requests cube a old ≡ byte a
  pub kept : (c a old : ℕ) → old < 256 → (c ≡ cube → start ≤ a → a < end → ⊥) →
      byte_by own requests c a old ≡ old

pub stores_nothing : (cube start end : ℕ) (byte : ℕ → ℕ) → end ≤ start →
    Stores cube start end byte []
stores_nothing cube start end byte empty = record {
  stored = λ a old small least less. absurd (omega arith);
  kept = λ c a old small out. refl;
}

-- two ranges that are neighbours
pub stores_both : (cube start middle end : ℕ) (byte : ℕ → ℕ) (xs ys : List RequestFields) →
    ((a : ℕ) → byte a < 256) → start ≤ middle → middle ≤ end → Stores cube start middle byte xs →
    Stores cube middle end byte ys → Stores cube start end byte (xs ++ ys)
stores_both cube start middle end byte xs ys bytes first last left right = record {
  stored = λ a old small least less. byte_by-append xs ys cube a old
      ∙ elim (cases_lt a middle) as (λ _. byte_by own ys cube a (byte_by own xs cube a old)
      ≡ byte a) [
        | inl before ↦ ap (byte_by own ys cube a) (left.stored a old small least before)
            ∙ right.kept cube a (byte a) (bytes a) (λ same from to. absurd (omega arith))
        | inr behind ↦ ap (byte_by own ys cube a)
            (left.kept cube a old small (λ same from to. absurd (omega arith)))
            ∙ right.stored a old small behind less
      ];
  kept = λ c a old small out. byte_by-append xs ys c a old
      ∙ ap (byte_by own ys c a)
      (left.kept c a old small (λ same from to. out same from (omega arith)))
      ∙ right.kept c a old small (λ same from to. out same (omega arith) to);
}

-- ---- one write

touched_own : (request : RequestFields) (a old : ℕ) (action : Action) →
    action_of request.command ≡ Some action → touched request request.cube a old ≡ touched_here
    (Some action) request a old
touched_own request a old action is =
    then_is (request.cube == request.cube) (touched_here (action_of request.command) request a old)
    old (eq-eqb request.cube request.cube refl) ∙ ap (λ o. touched_here o request a old) is

touched_apart : (request : RequestFields) (c a old : ℕ) → (c ≡ request.cube → ⊥) →
    touched request c a old ≡ old
touched_apart request c a old apart =
    else_is (c == request.cube) (touched_here (action_of request.command) request a old) old
    (ne_eqb c request.cube apart)

-- a request that leaves bytes in a range of its cube stores them
pub stores_one : (request : RequestFields) (action : Action) (start end : ℕ) (byte : ℕ → ℕ) →
    action_of request.command ≡ Some action
    → ((a old : ℕ) → old < 256 → start ≤ a → a < end → touched_here (Some action) request a old
    ≡ byte a)
    → ((a old : ℕ) → old < 256 → (start ≤ a → a < end → ⊥) →
    touched_here (Some action) request a old ≡ old)
    → Stores request.cube start end byte (request ∷ [])
stores_one request action start end byte is inner outer = record {
  stored = λ a old small least less. touched_own request a old action is
      ∙ inner a old small least less;
  kept = λ c a old small out.
      elim (cases_eq c request.cube) as (λ _. touched request c a old ≡ old) [
        | inl same ↦ ap (λ n. touched request n a old) same ∙ touched_own request a old action is
            ∙ outer a old small (out same)
        | inr apart ↦ touched_apart request c a old apart
      ];
}

write_inside : (address : ℕ) (payload : List ℕ) (a old : ℕ) → address ≤ a →
    a < address + length payload →
    (if in_range address (length payload) a then slice_index payload (a - address) else old)
    ≡ slice_index payload (a - address)
write_inside address payload a old least less = then_is (in_range address (length payload) a)
    (slice_index payload (a - address)) old (in_range-inside address (length payload) a least less)

outside_range : (address size a new old : ℕ) → (address ≤ a → a < address + size → ⊥) →
    (if in_range address size a then new else old) ≡ old
outside_range address size a new old out =
    elim (where_is address size a) as (λ _. (if in_range address size a then new else old) ≡ old) [
      | below less ↦ else_is (in_range address size a) new old (in_range-below address size a less)
      | inside least less ↦ absurd (out least less)
      | above most ↦ else_is (in_range address size a) new old (in_range-above address size a most)
    ]

pub stores_write : (request : RequestFields) (size : ℕ) (byte : ℕ → ℕ) →
    action_of request.command ≡ Some Write →
    request.payload ≡ map byte (range_with_len request.address size) →
    Stores request.cube request.address (request.address + size) byte (request ∷ [])
stores_write request size byte is payload =
    let long : length request.payload ≡ size = ap length payload
    ∙ length-map-range_with_len byte request.address size in
    stores_one request Write request.address (request.address + size) byte is
    (λ a old small least less. write_inside request.address request.payload a old least
    (omega arith)
    ∙ ap (λ l. slice_index l (a - request.address)) payload
    ∙ get_or-map-range_with_len byte request.address size (a - request.address) a 0
    (omega arith) (omega arith))
    (λ a old small out. outside_range request.address (length request.payload) a
    (slice_index request.payload (a - request.address)) old
    (λ least less. out least (omega arith)))

-- ---- a masked write of a half

merged-all : (new old : ℕ) → new < 256 → merged 255 new old ≡ new
merged-all new old small =
    ap (λ n. bit_or n (bit_and new 255)) (and_zero_r old) ∙ or_zero_l (bit_and new 255)
    ∙ and_mask new 8 ∙ omega arith

merged-none : (old : ℕ) → old < 256 → merged 0 0 old ≡ old
merged-none old small = ap (λ n. bit_or (bit_and old 255) n) (and_zero_r 0)
    ∙ or_zero_r (bit_and old 255) ∙ and_mask old 8 ∙ omega arith

-- the operand's halves
first_half : (xs ys : List ℕ) (j : ℕ) → length xs ≡ 8 → j < 8 →
    slice_index (take 8 (padded_bytes 16 (xs ++ ys))) j ≡ slice_index xs j
unfolding padded_bytes
first_half xs ys j long less =
    get_or-take 8 ((xs ++ ys) ++ replicate (16 - length (xs ++ ys)) 0) j 0 less
    ∙ get_or_append_left (xs ++ ys) (replicate (16 - length (xs ++ ys)) 0) 0 j
    (omega (arith, length-append xs ys)) ∙ get_or_append_left xs ys 0 j (omega arith)

last_half : (xs ys : List ℕ) (j : ℕ) → length xs ≡ 8 → length ys ≡ 8 → j < 8 →
    slice_index (drop 8 (padded_bytes 16 (xs ++ ys))) j ≡ slice_index ys j
unfolding padded_bytes
last_half xs ys j long eight less =
    get_or-drop 8 ((xs ++ ys) ++ replicate (16 - length (xs ++ ys)) 0) j 0
    ∙ get_or_append_left (xs ++ ys) (replicate (16 - length (xs ++ ys)) 0) 0 (8 + j)
    (omega (arith, length-append xs ys)) ∙ get_or-append_right xs ys 8 (8 + j) 0 long
    (omega arith) ∙ ap (slice_index ys) (omega arith)

in_span : (span : Span) (a : ℕ) → span.start ≤ a → a < span.end → within span a ≡ true
in_span span a least less = ap (λ b. b && nat_lt a span.end) (le-leb span.start a least)
    ∙ lt-ltb a span.end less

and_false : (b : Bool) → (b && false) ≡ false
and_false true = refl
and_false false = refl

out_of_span : (span : Span) (a : ℕ) → (span.start ≤ a → a < span.end → ⊥) → within span a ≡ false
out_of_span span a out = elim (cases_lt a span.start) as (λ _. within span a ≡ false) [
  | inl less ↦ ap (λ b. b && nat_lt a span.end) (lt-leb span.start a less)
  | inr least ↦ elim (cases_lt a span.end) as (λ _. within span a ≡ false) [
    | inl less ↦ absurd (out least less)
    | inr most ↦ ap (λ b. nat_le span.start a && b) (le-ltb a span.end most)
        ∙ and_false (nat_le span.start a)
  ]
]

-- the bytes that are stored, by their addresses
abbrev pub stored_byte : (place : ℕ) → (bytes : List ℕ) → ℕ → ℕ
stored_byte place bytes a = slice_index bytes (a - place)

abbrev pub half_request : (cube place : ℕ) → (bytes : List ℕ) → Span → (half : ℕ) → RequestFields
half_request cube place bytes span half = record {
  command = commands.Bwr;
  cube = cube;
  address =
      half;
  payload = masked_bytes place bytes span half;
}

pub bwr_action : action_of commands.Bwr ≡ Some (Act Bwr)
unfolding action_of atomic_of
bwr_action = refl

half_at : (cube place : ℕ) (bytes : List ℕ) (span : Span) (half a old : ℕ) (b : Bool) → half ≤ a →
    a < half + 8 → within span a ≡ b →
    touched_here (Some (Act Bwr)) (half_request cube place bytes span half) a old ≡ merged
    (if b then 255 else 0) (if b then stored_byte place bytes a else 0) old
half_at cube place bytes span half a old b least less is =
    let new : ℕ → ℕ = λ k. if within span k then slice_index bytes (k - place) else 0 in
    let mask : ℕ → ℕ = λ k. if within span k then 255 else 0 in
    let news = map new (range_with_len half 8) in
    let masks = map mask (range_with_len half 8) in
    let j = a - half in
    then_is (in_range half 8 a) (merged (slice_index (drop 8 (padded_bytes 16 (news ++ masks)))
    (a - half)) (slice_index (take 8 (padded_bytes 16 (news ++ masks))) (a - half)) old) old
    (in_range-inside half 8 a least less)
    ∙ ap (λ m. merged m (slice_index (take 8 (padded_bytes 16 (news ++ masks))) (a - half)) old)
    (last_half news masks (a - half) (length-map-range_with_len new half 8)
    (length-map-range_with_len mask half 8) (omega arith)
    ∙ get_or-map-range_with_len mask half 8 (a - half) a 0 (omega arith) (omega arith)
    ∙ ap (λ t. if t then 255 else 0) is)
    ∙ ap (λ n. merged (if b then 255 else 0) n old)
    (first_half news masks (a - half) (length-map-range_with_len new half 8) (omega arith)
    ∙ get_or-map-range_with_len new half 8 (a - half) a 0 (omega arith) (omega arith)
    ∙ ap (λ t. if t then slice_index bytes (a - place) else 0) is)

stores_half : (cube place : ℕ) (bytes : List ℕ) (span : Span) (half : ℕ) →
    ((a : ℕ) → stored_byte place bytes a < 256) →
    Stores cube (max span.start half) (min span.end (half + 8)) (stored_byte place bytes)
    (half_request cube place bytes span half ∷ [])
stores_half cube place bytes span half small =
    stores_one (half_request cube place bytes span half) (Act Bwr) (max span.start half)
    (min span.end (half + 8)) (stored_byte place bytes) bwr_action
    (λ a old old_small least less.
    half_at cube place bytes span half a old true (omega arith) (omega arith)
    (in_span span a (omega arith) (omega arith)) ∙ merged-all (stored_byte place bytes a) old
    (small a))
    (λ a old old_small out. elim (where_is half 8 a) as (λ _. touched_here (Some (Act Bwr))
    (half_request cube place bytes span half) a old ≡ old) [
      | below less ↦ else_is (in_range half 8 a) _ old (in_range-below half 8 a less)
      | inside least less ↦ half_at cube place bytes span half a old false least less
          (out_of_span span a (λ from to. out (omega arith) (omega arith)))
          ∙ merged-none old old_small
      | above most ↦ else_is (in_range half 8 a) _ old (in_range-above half 8 a most)
    ])

-- the same addresses
pub stores_as : (cube start end from to : ℕ) (byte : ℕ → ℕ) (xs : List RequestFields) →
    Stores cube start end byte xs → ((a : ℕ) → from ≤ a → a < to → (start ≤ a) × (a < end)) →
    ((a : ℕ) → start ≤ a → a < end → (from ≤ a) × (a < to)) → Stores cube from to byte xs
stores_as cube start end from to byte xs stores there here = record {
  stored = λ a old small least less. let at = there a least less in
      stores.stored a old small at.0 at.1;
  kept = λ c a old small out. stores.kept c a old small (λ same least less. let at =
      here a least less in out same at.0 at.1);
}

stores_half_if : (cube place : ℕ) (bytes : List ℕ) (span : Span) (half : ℕ) (b : Bool) →
    ((a : ℕ) → stored_byte place bytes a < 256) →
    nat_lt (max span.start half) (min span.end (half + 8)) ≡ b →
    Stores cube (max span.start half) (min span.end (half + 8)) (stored_byte place bytes)
    (if b then half_request cube place bytes span half ∷ [] else [])
stores_half_if cube place bytes span half true small is =
    stores_half cube place bytes span half small
stores_half_if cube place bytes span half false small is = stores_nothing cube (max span.start half)
    (min span.end (half + 8)) (stored_byte place bytes) (ltb-false (max span.start half)
    (min span.end (half + 8)) is)

pub stores_masked : (cube place : ℕ) (bytes : List ℕ) (span : Span) →
    ((a : ℕ) → stored_byte place bytes a < 256) → span.start ≤ span.end →
    span.end ≤ down 16 span.start + 16 →
    Stores cube span.start span.end (stored_byte place bytes) (masked_span cube place bytes span)
unfolding masked_span
stores_masked cube place bytes span small order fits =
    let d = down 16 span.start in
    let m = max span.start (min span.end (d + 8)) in
    let byte = stored_byte place bytes in
    let first = stores_half_if cube place bytes span d
    (nat_lt (max span.start d) (min span.end (d + 8))) small refl in
    let second = stores_half_if cube place bytes span (d + 8) (nat_lt (max span.start (d + 8))
    (min span.end (d + 8 + 8))) small refl in
    stores_both cube span.start m span.end byte (masked_half cube place bytes span d)
    (masked_half cube place bytes span (d + 8)) small (omega arith) (omega arith)
    (stores_as cube (max span.start d) (min span.end (d + 8)) span.start m byte
    (masked_half cube place bytes span d) first (λ a least less. (omega arith, omega arith))
    (λ a least less. (omega arith, omega arith)))
    (stores_as cube (max span.start (d + 8)) (min span.end (d + 8 + 8)) m span.end byte
    (masked_half cube place bytes span (d + 8)) second
    (λ a least less. (omega arith, omega arith)) (λ a least less. (omega arith, omega arith)))
