-- The answers to a compiled trace give the values of its loads.
use Rattle.std.proofs.Common.{◌≡◌, ◌≤◌, ◌∙◌, ◌+◌, ◌-◌, ◌%◌, ℕ, zero, suc, true, false, List, [], ◌∷◌, ◌++◌, length, take, drop, Option, Some, None, refl, sym, ap, subst, arith}
use Rattle.std.specs.Prelude.{slice_index, slice_range, ◌==◌, if◌then◌else◌, map, option_and_then, option_map}
use Rattle.std.specs.List.{All, range_with_len, flat_map, slice_get}
use Rattle.std.proofs.lemmas.Bool.{eq-eqb}
use Rattle.std.proofs.lemmas.List.{append_assoc, append-nil, map-append, take-map, drop-map, take_at, drop_at, length-append, length-map}
use Rattle.std.proofs.lemmas.List.FromFn.{length-map-range_with_len, length-range_with_len}
use Rattle.std.proofs.lemmas.List.Elements.{All-head, All-tail, All-append, All-cons, All-nil}
use Rattle.hmc_codes.specs.Numbers.{upto}
use Rattle.hmc_codes.specs.Request.{RequestFields}
use Rattle.hmc_codes.specs.Shape.{ShapeFields}
use Rattle.hmc_codes.specs.declared.answer.Answer.{Answer}
use Rattle.hmc_codes.specs.declared.answer.Answer.TheVariants as answers
use Rattle.hmc_script.specs.Items.{ItemFields}
use Rattle.hmc_serial.specs.Actions.{action_of}
use Rattle.hmc_serial.specs.Machine.{State, apply, answer_to}
use Rattle.hmc_accesses.specs.declared.load.Load.{Load}
use Rattle.hmc_accesses.specs.Compiled.{CompiledFields, requests_of, item_of, with_access, compiled_after}
use Rattle.hmc_accesses.specs.Meaning.{no_shape}
use Rattle.hmc_accesses.specs.Requests.{up, down, store_requests, load_requests}
use Rattle.hmc_accesses.specs.Serial.{answers_to}
use Rattle.hmc_accesses.specs.Trace.{Access, bytes_of, after, memory_after, values_of, IsAccessIn}
use Rattle.hmc_accesses.specs.Trace.Access.{load, store}
use Rattle.hmc_accesses.specs.Value.{read_bytes, size_of, size_by, bytes_at, joined, cut, load_value}
use Rattle.hmc_accesses.proofs.Access.{IsAccessOf, byte_in, answer_is, expected_by, range_bytes}
use Rattle.hmc_accesses.proofs.Loading.{IsReadOf, read_addresses, range-append}
use Rattle.hmc_accesses.proofs.Mirror.{shape_at, AreCubes, Mirrors, Mirrors-store, Mirrors-load, store_writes, load_reads}
use Rattle.hmc_accesses.proofs.Replies.{state_by, state_by-append}
use Rattle.hmc_accesses.proofs.Storing.{own}

-- ---- lists

map_shift : {X : Type 0} (f : ℕ → X) (a b n : ℕ) → map (λ k. f (a + k)) (range_with_len b n) ≡ map f
    (range_with_len (a + b) n)
map_shift f a b zero = refl
map_shift f a b (suc n) = ap (λ l. f (a + b) ∷ l) (map_shift f a (b + 1) n
    ∙ ap (λ c. map f (range_with_len c n)) (omega arith))

map_from : {X : Type 0} (f : ℕ → X) (a n : ℕ) →
    map (λ k. f (a + k)) (upto n) ≡ map f (range_with_len a n)
map_from f a n = map_shift f a 0 n ∙ ap (λ c. map f (range_with_len c n)) (omega arith)

range_is : (memory : List ℕ) (address size : ℕ) → address + size ≤ length memory →
    slice_range memory address (address + size) ≡ map (slice_index memory)
    (range_with_len address size)
range_is memory address size fits = range_bytes memory address size fits
    ∙ map_from (slice_index memory) address size

flat_map-map : {X Y Z : Type 0} (f : X → List Y) (g : Y → Z) (xs : List X) →
    flat_map (λ x. map g (f x)) xs ≡ map g (flat_map f xs)
flat_map-map f g [] = refl
flat_map-map f g (x ∷ xs) = ap (λ l. map g (f x) ++ l) (flat_map-map f g xs)
    ∙ sym (map-append g (f x) (flat_map f xs))

get_after : {X : Type 0} (xs : List X) (y : X) (ys : List X) → slice_get (xs ++ y ∷ ys) (length xs)
    ≡ Some y
get_after [] y ys = refl
get_after (x ∷ xs) y ys = get_after xs y ys

-- a part of a range
part_of_range : (a skip size more : ℕ) →
    take size (drop skip (range_with_len a (skip + (size + more)))) ≡ range_with_len (a + skip) size
part_of_range a skip size more =
    let cut_one : range_with_len a (skip + (size + more)) ≡ range_with_len a skip ++ range_with_len
    (a + skip) (size + more) = sym (range-append a skip (size + more)) in
    let cut_two : range_with_len (a + skip) (size + more) ≡ range_with_len (a + skip) size
    ++ range_with_len (a + skip + size) more = sym (range-append (a + skip) size more) in
    ap (λ l. take size (drop skip l)) cut_one
    ∙ ap (take size) (drop_at (range_with_len a skip) (range_with_len (a + skip) (size + more)) skip
    (length-range_with_len a skip))
    ∙ ap (take size) cut_two
    ∙ take_at (range_with_len (a + skip) size) (range_with_len (a + skip + size) more) size
    (length-range_with_len (a + skip) size)

-- ---- answers to reads

pub answers-append : (state : State) (xs ys : List RequestFields) →
    answers_to state (xs ++ ys) ≡ answers_to state xs ++ answers_to (state_by own state xs) ys
answers-append state [] ys = refl
answers-append state (x ∷ xs) ys =
    ap (λ l. answer_to state x ∷ l) (answers-append (apply state x) xs ys)

pub length-answers : (state : State) (xs : List RequestFields) →
    length (answers_to state xs) ≡ length xs
length-answers state [] = refl
length-answers state (x ∷ xs) = ap suc (length-answers (apply state x) xs)

-- the answer to a read
read_answer : (cubes : List ShapeFields) (state : State) (memory : List (List ℕ)) (cube : ℕ)
    (x : RequestFields) → Mirrors cubes state memory → IsReadOf cube x →
    IsAccessOf (length cubes) (shape_at cubes) x →
    answer_to state x ≡ answers.Read false (map (slice_index (bytes_of memory cube))
    (read_addresses x))
read_answer cubes state memory cube x mirrors is valid =
    let size = size_by (action_of x.command) in
    let byte : ℕ → ℕ = slice_index (bytes_of memory cube) in
    answer_is (length cubes) (shape_at cubes) state x mirrors.holds valid
    ∙ ap (λ o. expected_by o x (λ k. byte_in state x.cube (x.address + k))) is.action
    ∙ ap (answers.Read false) (map_from (byte_in state x.cube) x.address size
    ∙ ap (λ c. map (byte_in state c) (range_with_len x.address size)) is.cube_is
    ∙ map_same (byte_in state cube) byte (range_with_len x.address size) (mirrors.bytes cube))
  where
    map_same : (f g : ℕ → ℕ) (xs : List ℕ) → ((k : ℕ) → f k ≡ g k) → map f xs ≡ map g xs
    map_same f g [] same = refl
    map_same f g (k ∷ xs) same = ap (λ n. n ∷ map f xs) (same k)
        ∙ ap (λ l. g k ∷ l) (map_same f g xs same)

-- the script has these requests from the n-th on, and they were answered with these bytes
abbrev ReadsFrom : (ℕ → Option Answer) → List ItemFields → (ℕ → ℕ) → ℕ → List RequestFields → Type 0
ReadsFrom answer script byte n [] = Unit {0}
ReadsFrom answer script byte n (x ∷ xs) =
    (slice_get script n ≡ Some (item_of x))
    × (answer n ≡ Some (answers.Read false (map byte (read_addresses x)))) × ReadsFrom answer
    script byte (n + 1) xs

joined_is : (answer : ℕ → Option Answer) (script : List ItemFields) (byte : ℕ → ℕ) (n : ℕ)
    (xs : List RequestFields) → ReadsFrom answer script byte n xs →
    joined answer script n (length xs) ≡ Some (flat_map (λ x. map byte (read_addresses x)) xs)
unfolding joined
joined_is answer script byte n [] reads = refl
joined_is answer script byte n (x ∷ xs) reads =
    let payload = map byte (read_addresses x) in
    let size = size_by (action_of x.command) in
    let fits : (length payload == size) ≡ true =
    eq-eqb (length payload) size (length-map-range_with_len byte x.address size) in
    let here : bytes_at answer script n ≡ Some payload =
    ap (option_and_then (λ item. option_and_then (read_bytes (size_of item)) (answer n))) reads.0
    ∙ ap (option_and_then (read_bytes size)) reads.1
    ∙ ap (λ b. if b then Some payload else None) fits in
    ap (option_and_then (λ bytes. option_map (λ more. bytes ++ more)
    (joined answer script (n + 1) (length xs)))) here
    ∙ ap (option_map (λ more. payload ++ more)) (joined_is answer script byte (n + 1) xs reads.2)

reads_from : (cubes : List ShapeFields) (state : State) (memory : List (List ℕ)) (cube : ℕ)
    (xs : List RequestFields) (script before behind : List ItemFields)
    (taken first last : List Answer)
    → script ≡ before ++ (map item_of xs ++ behind) → taken ≡ first ++ (answers_to state xs ++ last)
    → length first ≡ length before → Mirrors cubes state memory → All (IsReadOf cube) xs →
    All (IsAccessOf (length cubes) (shape_at cubes)) xs
    → ReadsFrom (slice_get taken) script (slice_index (bytes_of memory cube)) (length before) xs
reads_from cubes state memory cube [] script before behind taken first last script_is taken_is same
    mirrors each valid = tt
reads_from cubes state memory cube (x ∷ xs) script before behind taken first last script_is taken_is
    same mirrors each valid =
    let one = All-head (IsReadOf cube) x xs each in
    let own_valid = All-head (IsAccessOf (length cubes) (shape_at cubes)) x xs valid in
    let single : All (IsReadOf cube) (x ∷ []) =
    All-cons (IsReadOf cube) x [] one (All-nil (IsReadOf cube)) in
    let single_valid : All (IsAccessOf (length cubes) (shape_at cubes)) (x ∷ []) =
    All-cons (IsAccessOf (length cubes) (shape_at cubes)) x [] own_valid
    (All-nil (IsAccessOf (length cubes) (shape_at cubes))) in
    let next = Mirrors-load cubes state memory cube (x ∷ []) single single_valid mirrors in
    let item = item_of x in
    let answer = answer_to state x in
    let script_next : script ≡ (before ++ item ∷ []) ++ (map item_of xs ++ behind) = script_is
    ∙ sym (append_assoc before (item ∷ []) (map item_of xs ++ behind)) in
    let taken_next : taken ≡ (first ++ answer ∷ []) ++ (answers_to (apply state x) xs ++ last) =
    taken_is ∙ sym (append_assoc first (answer ∷ []) (answers_to (apply state x) xs ++ last)) in
    let longer : length (before ++ item ∷ []) ≡ length before + 1 =
    length-append before (item ∷ []) in
    let more = reads_from cubes (apply state x) memory cube xs script (before ++ item ∷ []) behind
    taken (first ++ answer ∷ []) last script_next taken_next
    (length-append first (answer ∷ []) ∙ ap (λ n. n + 1) same ∙ sym longer) next
    (All-tail (IsReadOf cube) x xs each) (All-tail (IsAccessOf (length cubes) (shape_at cubes))
    x xs valid) in (
      ap (λ s. slice_get s (length before)) script_is
          ∙ get_after before item (map item_of xs ++ behind),
      ap (λ t. slice_get t (length before)) taken_is
          ∙ ap (slice_get (first ++ answer ∷ (answers_to (apply state x) xs ++ last))) (sym same)
          ∙ get_after first answer (answers_to (apply state x) xs ++ last)
          ∙ ap Some (read_answer cubes state memory cube x mirrors one own_valid),
      subst (λ n. ReadsFrom (slice_get taken) script (slice_index (bytes_of memory cube)) n xs)
          longer more,
    )

-- ---- one load

load_is : (cubes : List ShapeFields) (state : State) (memory : List (List ℕ)) (cube place size : ℕ)
    (script before behind : List ItemFields) (taken first last : List Answer)
    → AreCubes cubes → IsAccessIn cubes (load cube place size) → Mirrors cubes state memory
    → script ≡ before ++ (map item_of (load_requests cube place size) ++ behind) →
    taken ≡ first ++ (answers_to state (load_requests cube place size) ++ last) →
    length first ≡ length before
    → load_value (slice_get taken) script (record {
      first = length before;
      count =
          length (load_requests cube place size);
      skip = place % 16;
      length = size;
    }) ≡ Some
    (slice_range (bytes_of memory cube) place (place + size))
unfolding load_value
load_is cubes state memory cube place size script before behind taken first last are of mirrors
    script_is taken_is same =
    let xs = load_requests cube place size in
    let byte : ℕ → ℕ = slice_index (bytes_of memory cube) in
    let reads = load_reads cubes cube place size are of in
    let from = reads_from cubes state memory cube xs script before behind taken first last script_is
    taken_is same mirrors reads.each reads.valid in
    let d = down 16 place in
    let w = up 16 (place + size) - down 16 place in
    let more = w - (place % 16 + size) in
    let wide : w ≡ place % 16 + (size + more) = omega arith in
    let starts : d + place % 16 ≡ place = omega arith in
    let fits : place + size ≤ length (bytes_of memory cube) =
    omega (arith, mirrors.long cube of.0, of.3 no_shape) in
    let loaded : Load = record {
      first = length before;
      count = length xs;
      skip = place % 16;
      length = size;
    } in
    ap (option_map (cut loaded)) (joined_is (slice_get taken) script byte (length before) xs from)
    ∙ ap (λ l. Some (take size (drop (place % 16) l))) (flat_map-map read_addresses byte xs
    ∙ ap (map byte) reads.reads)
    ∙ ap Some (ap (take size) (drop-map byte (place % 16) (range_with_len d w))
    ∙ take-map byte size (drop (place % 16) (range_with_len d w))
    ∙ ap (λ n. map byte (take size (drop (place % 16) (range_with_len d n)))) wide
    ∙ ap (map byte) (part_of_range d (place % 16) size more
    ∙ ap (λ a. range_with_len a size) starts)
    ∙ sym (range_is (bytes_of memory cube) place size fits))

-- ---- all accesses

abbrev pub requests_all : List Access → List RequestFields
requests_all accesses = flat_map requests_of accesses

pub compiled_script : (compiled : CompiledFields) (rest : List Access) →
    (compiled_after compiled rest).script ≡ compiled.script ++ map item_of (requests_all rest)
unfolding compiled_after
compiled_script compiled [] = sym (append-nil compiled.script)
compiled_script compiled (access ∷ rest) =
    compiled_script (with_access compiled access) rest
    ∙ append_assoc compiled.script (map item_of (requests_of access))
    (map item_of (requests_all rest))
    ∙ ap (λ l. compiled.script ++ l)
    (sym (map-append item_of (requests_of access) (requests_all rest)))

-- the requests of each access have no error
pub valid_all : (cubes : List ShapeFields) (accesses : List Access) → AreCubes cubes →
    All (IsAccessIn cubes) accesses → All (IsAccessOf (length cubes) (shape_at cubes))
    (requests_all accesses)
valid_all cubes [] are all = All-nil (IsAccessOf (length cubes) (shape_at cubes))
valid_all cubes (load cube place size ∷ rest) are all =
    All-append (IsAccessOf (length cubes) (shape_at cubes)) (load_requests cube place size)
    (requests_all rest)
    (load_reads cubes cube place size are (All-head (IsAccessIn cubes) (load cube place size) rest
    all)).valid
    (valid_all cubes rest are (All-tail (IsAccessIn cubes) (load cube place size) rest all))
valid_all cubes (store cube place bytes ∷ rest) are all =
    All-append (IsAccessOf (length cubes) (shape_at cubes)) (store_requests cube place bytes)
    (requests_all rest)
    (store_writes cubes cube place bytes are (All-head (IsAccessIn cubes) (store cube place bytes)
    rest all)).valid
    (valid_all cubes rest are (All-tail (IsAccessIn cubes) (store cube place bytes) rest all))

-- the values so far, then those of the rest, are all; and the machine has the bytes of the trace
pub record IsCarriedOut (cubes : List ShapeFields) (compiled : CompiledFields) (state : State)
    (memory : List (List ℕ)) (rest : List Access) (script : List ItemFields) (taken : List Answer)
    : Type 0 where
  pub values : map (load_value (slice_get taken) script) (compiled_after compiled rest).loads
      ≡ map (load_value (slice_get taken) script) compiled.loads ++ map Some (values_of memory rest)
  pub mirrors : Mirrors cubes (state_by own state (requests_all rest)) (memory_after memory rest)

script_step : (before : List ItemFields) (access : Access) (rest : List Access) →
    before ++ map item_of (requests_all (access ∷ rest))
    ≡ (before ++ map item_of (requests_of access)) ++ map item_of (requests_all rest)
script_step before access rest =
    ap (λ l. before ++ l) (map-append item_of (requests_of access) (requests_all rest))
    ∙ sym (append_assoc before (map item_of (requests_of access)) (map item_of (requests_all rest)))

taken_step : (first : List Answer) (state : State) (access : Access) (rest : List Access) →
    first ++ answers_to state (requests_all (access ∷ rest))
    ≡ (first ++ answers_to state (requests_of access)) ++ answers_to
    (state_by own state (requests_of access)) (requests_all rest)
taken_step first state access rest =
    ap (λ l. first ++ l) (answers-append state (requests_of access) (requests_all rest))
    ∙ sym (append_assoc first (answers_to state (requests_of access))
    (answers_to (state_by own state (requests_of access)) (requests_all rest)))

length_step : (before : List ItemFields) (first : List Answer) (state : State) (access : Access) →
    length first ≡ length before → length (first ++ answers_to state (requests_of access))
    ≡ length (before ++ map item_of (requests_of access))
length_step before first state access same =
    length-append first (answers_to state (requests_of access))
    ∙ ap (λ n. n + length (answers_to state (requests_of access))) same
    ∙ ap (λ n. length before + n) (length-answers state (requests_of access)
    ∙ sym (length-map (requests_of access) item_of))
    ∙ sym (length-append before (map item_of (requests_of access)))

pub carried_out : (cubes : List ShapeFields) (compiled : CompiledFields) (state : State)
    (memory : List (List ℕ)) (rest : List Access) (script : List ItemFields)
    (taken first : List Answer)
    → AreCubes cubes → All (IsAccessIn cubes) rest → Mirrors cubes state memory →
    script ≡ compiled.script ++ map item_of (requests_all rest) →
    taken ≡ first ++ answers_to state (requests_all rest) → length first ≡ length compiled.script
    → IsCarriedOut cubes compiled state memory rest script taken
unfolding compiled_after memory_after values_of
carried_out cubes compiled state memory [] script taken first are all mirrors script_is taken_is
    same
    = record {
      values = sym (append-nil (map (load_value (slice_get taken) script) compiled.loads));
      mirrors = mirrors;
    }
carried_out cubes compiled state memory (load cube place size ∷ rest) script taken first are all
    mirrors script_is taken_is same =
    let access : Access = load cube place size in
    let of = All-head (IsAccessIn cubes) access rest all in
    let xs = load_requests cube place size in
    let reads = load_reads cubes cube place size are of in
    let value = load_value (slice_get taken) script in
    let loaded : Load = record {
      first = length compiled.script;
      count = length xs;
      skip =
          place % 16;
      length = size;
    } in
    let one : value loaded ≡ Some (slice_range (bytes_of memory cube) place (place + size)) =
    load_is cubes state memory cube place size script compiled.script
    (map item_of (requests_all rest)) taken first (answers_to (state_by own state xs)
    (requests_all rest)) are of mirrors
    (script_is ∙ ap (λ l. compiled.script ++ l) (map-append item_of xs (requests_all rest)))
    (taken_is ∙ ap (λ l. first ++ l) (answers-append state xs (requests_all rest))) same in
    let more = carried_out cubes (with_access compiled access) (state_by own state xs) memory rest
    script taken (first ++ answers_to state xs) are (All-tail (IsAccessIn cubes) access rest all)
    (Mirrors-load cubes state memory cube xs reads.each reads.valid mirrors)
    (script_is ∙ script_step compiled.script access rest) (taken_is
    ∙ taken_step first state access rest) (length_step compiled.script first state access same)
    in record {
      values = more.values ∙ ap (λ l. l ++ map Some (values_of memory rest))
          (map-append value compiled.loads (loaded ∷ []))
          ∙ append_assoc (map value compiled.loads) (value loaded ∷ [])
          (map Some (values_of memory rest))
          ∙ ap (λ v. map value compiled.loads ++ v ∷ map Some (values_of memory rest)) one;
      mirrors = subst (λ s. Mirrors cubes s (memory_after memory rest))
          (sym (state_by-append own state xs (requests_all rest))) more.mirrors;
    }
carried_out cubes compiled state memory (store cube place bytes ∷ rest) script taken first are all
    mirrors script_is taken_is same =
    let access : Access = store cube place bytes in
    let of = All-head (IsAccessIn cubes) access rest all in
    let xs = store_requests cube place bytes in
    let value = load_value (slice_get taken) script in
    let next = after memory access in
    let more = carried_out cubes (with_access compiled access) (state_by own state xs) next rest
    script taken (first ++ answers_to state xs) are (All-tail (IsAccessIn cubes) access rest all)
    (Mirrors-store cubes state memory cube place bytes are of mirrors)
    (script_is ∙ script_step compiled.script access rest) (taken_is
    ∙ taken_step first state access rest) (length_step compiled.script first state access same)
    in record {
      values = more.values ∙ ap (λ l. map value l ++ map Some (values_of next rest))
          (append-nil compiled.loads);
      mirrors = subst (λ s. Mirrors cubes s (memory_after next rest))
          (sym (state_by-append own state xs (requests_all rest))) more.mirrors;
    }
