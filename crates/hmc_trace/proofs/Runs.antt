-- The parts of runs.
use Rattle.std.proofs.Common.{◌≡◌, ◌≤◌, ◌<◌, ◌∙◌, ◌+◌, ◌-◌, ◌^◌, ◌⊎◌, inl, inr, ℕ, Bool, true, false, List, [], ◌∷◌, ◌++◌, length, Result, Ok, Err, refl, sym, ap, subst, arith}
use Rattle.std.specs.Prelude.{nat_lt, ◌&&◌, if◌then◌else◌, slice_index, slice_range, map, drop, min, max}
use Rattle.std.specs.List.{range_with_len}
use Rattle.std.proofs.lemmas.List.{ext_get_or, get_or-take, get_or-drop, get_or_append_left, get_or-append_right, length-append}
use Rattle.std.proofs.lemmas.List.FromFn.{length-map-range_with_len, get_or-map-range_with_len}
use Rattle.hmc_serial.proofs.AnswerLemmas.{length-range}
use Rattle.hmc_accesses.proofs.Storing.{half_request}
use Rattle.std.proofs.lemmas.Bool.{eq-eqb, ne_eqb, lt-ltb, le-ltb, cases_lt}
use Rattle.hmc_codes.specs.Request.{RequestFields, IsRequest}
use Rattle.hmc_codes.specs.declared.command.Command.TheVariants as commands
use Rattle.hmc_script.specs.Items.{ItemFields}
use Rattle.hmc_text.specs.declared.fault.TextFault.{TextFault}
use Rattle.hmc_accesses.specs.declared.fault.TraceKind.{TraceKind}
use Rattle.hmc_trace.specs.Appending.{Appends, IsPart}
use Rattle.hmc_trace.proofs.Appending.{appends_none, appends_more, appends_less}
use Rattle.hmc_accesses.specs.declared.span.Span.{Span}
use Rattle.hmc_accesses.specs.Requests.{read_at, write_at, bytes_from, masked_byte, mask_byte, masked_bytes, masked_half, run_of, cut_run}
use Rattle.hmc_accesses.proofs.Sizes.{IsSize, few, whole}
use Rattle.hmc_accesses.proofs.Valid.{read_is, write_is}

pub part_size : (blocks : ℕ) → IsPart blocks → IsSize blocks
part_size blocks part = elim part.1 as (λ _. IsSize blocks) [
  | inl most ↦ few part.0 most
  | inr is ↦ whole is
]

pub read_part : (cube address blocks : ℕ) → IsPart blocks → cube < 8 → address < 2 ^ 34 →
    IsRequest (read_at cube address blocks)
read_part cube address blocks part less small =
    read_is cube address blocks (part_size blocks part) less small

-- how a run is cut
pub cut_none : (blocks : ℕ) → blocks ≡ 0 → cut_run blocks ≡ []
unfolding cut_run
cut_none blocks is = ap (λ b. if b then [] else if nat_lt 8 blocks && nat_lt blocks 16 then 8
    ∷ (blocks - 8) ∷ [] else blocks ∷ []) (eq-eqb blocks 0 is)

pub cut_two : (blocks : ℕ) → 8 < blocks → blocks < 16 → cut_run blocks ≡ 8 ∷ (blocks - 8) ∷ []
unfolding cut_run
cut_two blocks more less =
    ap (λ b. if b then [] else if nat_lt 8 blocks && nat_lt blocks 16 then 8 ∷ (blocks - 8)
    ∷ [] else blocks ∷ []) (ne_eqb blocks 0 (λ is. omega arith))
    ∙ ap (λ b. if b && nat_lt blocks 16 then 8 ∷ (blocks - 8) ∷ [] else blocks ∷ [])
    (lt-ltb 8 blocks more)
    ∙ ap (λ b. if b then 8 ∷ (blocks - 8) ∷ [] else blocks ∷ []) (lt-ltb blocks 16 less)

and_false : (b : Bool) → (b && false) ≡ false
and_false true = refl
and_false false = refl

pub cut_one : (blocks : ℕ) → (blocks ≡ 0 → ⊥) → (blocks ≤ 8) ⊎ (16 ≤ blocks) →
    cut_run blocks ≡ blocks ∷ []
unfolding cut_run
cut_one blocks some out =
    ap (λ b. if b then [] else if nat_lt 8 blocks && nat_lt blocks 16 then 8 ∷ (blocks - 8)
    ∷ [] else blocks ∷ []) (ne_eqb blocks 0 some)
    ∙ ap (λ b. if b then 8 ∷ (blocks - 8) ∷ [] else blocks ∷ [])
    (elim out as (λ _. (nat_lt 8 blocks && nat_lt blocks 16) ≡ false) [
      | inl most ↦ ap (λ b. b && nat_lt blocks 16) (le-ltb 8 blocks most)
      | inr least ↦ ap (λ b. nat_lt 8 blocks && b) (le-ltb blocks 16 least)
          ∙ and_false (nat_lt 8 blocks)
    ])

-- ---- a run is appended

pub run_none : (line : ℕ) (a : List ItemFields) (request : ℕ → ℕ → RequestFields)
    (address blocks : ℕ) → length a ≤ 65536 → blocks ≡ 0 →
    Appends line a (run_of request address (cut_run blocks)) a (Ok tt)
run_none line a request address blocks room none =
    subst (λ parts. Appends line a (run_of request address parts) a (Ok tt))
    (sym (cut_none blocks none)) (appends_none line a room)

pub run_two : (line : ℕ) (a b c : List ItemFields) (request : ℕ → ℕ → RequestFields)
    (address blocks : ℕ) (result : Result (Unit {0}) (TextFault TraceKind)) → 8 < blocks →
    blocks < 16 → Appends line a (request address 8 ∷ []) b (Ok tt) →
    Appends line b (request (address + 128) (blocks - 8) ∷ []) c result →
    Appends line a (run_of request address (cut_run blocks)) c result
run_two line a b c request address blocks result more less first second =
    subst (λ parts. Appends line a (run_of request address parts) c result)
    (sym (cut_two blocks more less))
    (appends_more line a b c (request address 8 ∷ []) (request (address + 128) (blocks - 8) ∷ [])
    result first second)

pub run_ended : (line : ℕ) (a b : List ItemFields) (request : ℕ → ℕ → RequestFields)
    (address blocks : ℕ) (e : TextFault TraceKind) → 8 < blocks → blocks < 16 →
    Appends line a (request address 8 ∷ []) b (Err e) →
    Appends line a (run_of request address (cut_run blocks)) b (Err e)
run_ended line a b request address blocks e more less first =
    subst (λ parts. Appends line a (run_of request address parts) b (Err e))
    (sym (cut_two blocks more less))
    (appends_less line a b b (request address 8 ∷ []) (request (address + 128) (blocks - 8) ∷ []) e
    first)

pub run_one : (line : ℕ) (a b : List ItemFields) (request : ℕ → ℕ → RequestFields)
    (address blocks : ℕ) (result : Result (Unit {0}) (TextFault TraceKind)) → (blocks ≡ 0 → ⊥) →
    (blocks ≤ 8) ⊎ (16 ≤ blocks) → Appends line a (request address blocks ∷ []) b result →
    Appends line a (run_of request address (cut_run blocks)) b result
run_one line a b request address blocks result some out first =
    subst (λ parts. Appends line a (run_of request address parts) b result)
    (sym (cut_one blocks some out)) first

pub write_part : (cube place : ℕ) (bytes : List ℕ) (address blocks : ℕ) →
    ((k : ℕ) → slice_index bytes k < 256) → IsPart blocks → cube < 8 → address < 2 ^ 34 →
    IsRequest (write_at cube place bytes address blocks)
write_part cube place bytes address blocks small part less below =
    write_is cube place bytes address blocks (λ a. small (a - place)) (part_size blocks part) less
    below

-- the bytes from an address on
pub part_bytes : (place : ℕ) (bytes : List ℕ) (address size : ℕ) → place ≤ address →
    address + size ≤ place + length bytes →
    slice_range bytes (address - place) (address - place + size) ≡ bytes_from place bytes address
    size
part_bytes place bytes address size from to =
    let byte : ℕ → ℕ = λ a. slice_index bytes (a - place) in
    let first = length-range bytes (address - place) size (omega arith) in
    let second = length-map-range_with_len byte address size in
    ext_get_or 0 (slice_range bytes (address - place) (address - place + size))
    (map byte (range_with_len address size)) (first ∙ sym second)
    (λ i less.
    let inside : i < size = omega arith in
    get_or-take (address - place + size - (address - place)) (drop (address - place) bytes) i 0
    (omega arith) ∙ get_or-drop (address - place) bytes i 0
    ∙ ap (slice_index bytes) (omega arith)
    ∙ sym (get_or-map-range_with_len byte address size i (address + i) 0 inside refl))

-- both halves of a payload, byte by byte
pub halves_are : (place : ℕ) (bytes : List ℕ) (span : Span) (half : ℕ) (payload : List ℕ) (i : ℕ) →
    8 ≤ i → length payload ≡ 16
    → ((k : ℕ) → k < i → slice_index payload k ≡ masked_byte place bytes span (half + k)) →
    ((k : ℕ) → k < i → slice_index payload (8 + k) ≡ mask_byte span (half + k)) →
    payload ≡ masked_bytes place bytes span half
halves_are place bytes span half payload i all long first last =
    let new : ℕ → ℕ = masked_byte place bytes span in
    let mask : ℕ → ℕ = mask_byte span in
    let news = map new (range_with_len half 8) in
    let masks = map mask (range_with_len half 8) in
    let eight = length-map-range_with_len new half 8 in
    let both : length (news ++ masks) ≡ 16 =
    omega (arith, length-append news masks, eight, length-map-range_with_len mask half 8) in
    ext_get_or 0 payload (news ++ masks) (long ∙ sym both)
    (λ k less. elim (cases_lt k 8) as (λ _. slice_index payload k ≡ slice_index (news ++ masks) k) [
      | inl before ↦ first k (omega arith) ∙ sym (get_or_append_left news masks 0 k (omega arith)
          ∙ get_or-map-range_with_len new half 8 k (half + k) 0 before refl)
      | inr behind ↦ ap (slice_index payload) (omega arith) ∙ last (k - 8) (omega arith)
          ∙ sym (get_or-append_right news masks 8 k 0 eight behind
          ∙ get_or-map-range_with_len mask half 8 (k - 8) (half + (k - 8)) 0 (omega arith) refl)
    ])

pub half_some : (line : ℕ) (a b : List ItemFields) (cube place : ℕ) (bytes : List ℕ) (span : Span)
    (half : ℕ) (payload : List ℕ) (result : Result (Unit {0}) (TextFault TraceKind))
    (first last : ℕ) → first ≡ max span.start half → last ≡ min span.end (half + 8) → first < last
    → payload ≡ masked_bytes place bytes span half →
    Appends line a (record {
      command = commands.Bwr;
      cube = cube;
      address = half;
      payload =
          payload;
    } ∷ []) b result → Appends line a (masked_half cube place bytes span half) b result
half_some line a b cube place bytes span half payload result first last first_is last_is less is
    given =
    let test : nat_lt (max span.start half) (min span.end (half + 8)) ≡ true =
    lt-ltb (max span.start half) (min span.end (half + 8))
    (subst (λ m. m < min span.end (half + 8)) first_is (subst (λ n. first < n) last_is less)) in
    let here = subst (λ p. Appends line a (record {
      command = commands.Bwr;
      cube = cube;
      address =
          half;
      payload = p;
    } ∷ []) b result) is given in
    subst (λ t. Appends line a (if t then half_request cube place bytes span half ∷ [] else []) b
    result) (sym test) here

pub half_none : (line : ℕ) (a : List ItemFields) (cube place : ℕ) (bytes : List ℕ) (span : Span)
    (half : ℕ) (first last : ℕ) → length a ≤ 65536 → first ≡ max span.start half →
    last ≡ min span.end (half + 8) → last ≤ first →
    Appends line a (masked_half cube place bytes span half) a (Ok tt)
half_none line a cube place bytes span half first last room first_is last_is least =
    let test : nat_lt (max span.start half) (min span.end (half + 8)) ≡ false =
    le-ltb (max span.start half) (min span.end (half + 8))
    (subst (λ m. min span.end (half + 8) ≤ m) first_is (subst (λ n. n ≤ first) last_is least))
    in
    subst (λ t. Appends line a (if t then half_request cube place bytes span half ∷ [] else []) a
    (Ok tt)) (sym test) (appends_none line a room)
