-- The answer to an access depends on the accesses to its unit before it, and on nothing else.
use Rattle.std.proofs.Common.{◌≡◌, ◌<◌, ◌∙◌, ◌+◌, ℕ, Bool, true, false, List, [], ◌∷◌, ◌++◌, Option, Some, refl, sym, ap, arith}
use Rattle.std.specs.Prelude.{if◌then◌else◌, map, filter}
use Rattle.std.specs.List.{All}
use Rattle.std.proofs.lemmas.List.{ext_get_or, map-append}
use Rattle.std.proofs.lemmas.List.FromFn.{length-map-range_with_len, get_or-map-range_with_len}
use Rattle.std.proofs.lemmas.List.Elements.{All-head, All-tail, All-push}
use Rattle.hmc_codes.specs.Numbers.{upto}
use Rattle.hmc_codes.specs.Request.{RequestFields}
use Rattle.hmc_codes.specs.Shape.{ShapeFields}
use Rattle.hmc_codes.specs.declared.answer.Answer.{Answer}
use Rattle.hmc_codes.specs.declared.answer.Answer.TheVariants as answers
use Rattle.hmc_codes.specs.declared.unit.Unit.{Unit as RequestUnit}
use Rattle.hmc_hops.specs.Delivered.{IsPrefix}
use Rattle.hmc_journal.specs.Filters.{same_unit}
use Rattle.hmc_serial.specs.Actions.{action_of}
use Rattle.hmc_serial.specs.Machine.{State, apply, answer_to}
use Rattle.hmc_serial.specs.Unit.{unit_of}
use Rattle.hmc_serial.specs.declared.action.Action.{Action}
use Rattle.hmc_serial.specs.declared.action.Action.TheVariants.{Read, Write, ReadRegister, WriteRegister, Act, Work}
use Rattle.hmc_accesses.proofs.Histories.{After, after_units}
use Rattle.hmc_accesses.proofs.Order.{of_item, order_kept, Ways, HasTag, IsClassed}
use Rattle.hmc_accesses.proofs.Access.{IsAccessOf, Holds, Holds-apply, byte_in, touched, apply_bytes, expected, expected_by, answer_is}
use Rattle.hmc_accesses.proofs.Units.{reach, bank_at, same_bank, fits_block, unit_is_bank, other_unit, same_unit-is, same_unit-self}

-- a machine after some requests, the oldest first
abbrev pub state_by : {X : Type 0} → (X → RequestFields) → State → List X → State
state_by ask state [] = state
state_by ask state (x ∷ xs) = state_by ask (apply state (ask x)) xs

-- a byte after some requests
abbrev pub byte_by : {X : Type 0} → (X → RequestFields) → List X → (cube address old : ℕ) → ℕ
byte_by ask [] cube address old = old
byte_by ask (x ∷ xs) cube address old =
    byte_by ask xs cube address (touched (ask x) cube address old)

-- a thing that was asked, and its answer
pub record Reply (X : Type 0) : Type 0 where
  pub item : X
  pub answer : Answer

-- the answers to some requests
abbrev pub replies_by : {X : Type 0} → (X → RequestFields) → State → List X → List (Reply X)
replies_by ask state [] = []
replies_by ask state (x ∷ xs) = (record { item = x; answer = answer_to state (ask x) })
    ∷ replies_by ask (apply state (ask x)) xs

-- the request is an access
abbrev pub Accesses : {X : Type 0} → (X → RequestFields) → ℕ → (ℕ → ShapeFields) → X → Type 0
Accesses ask count shape_at x = IsAccessOf count shape_at (ask x)

pub Holds-by : {X : Type 0} (ask : X → RequestFields) (count : ℕ) (shape_at : ℕ → ShapeFields)
    (state : State) (xs : List X) → Holds count shape_at state →
    All (Accesses ask count shape_at) xs → Holds count shape_at (state_by ask state xs)
Holds-by ask count shape_at state [] holds all = holds
Holds-by ask count shape_at state (x ∷ xs) holds all =
    Holds-by ask count shape_at (apply state (ask x)) xs (Holds-apply count shape_at state
    (ask x) holds (All-head (Accesses ask count shape_at) x xs all))
    (All-tail (Accesses ask count shape_at) x xs all)

pub bytes_by : {X : Type 0} (ask : X → RequestFields) (count : ℕ) (shape_at : ℕ → ShapeFields)
    (state : State) (xs : List X) → Holds count shape_at state →
    All (Accesses ask count shape_at) xs → (c a : ℕ) →
    byte_in (state_by ask state xs) c a ≡ byte_by ask xs c a (byte_in state c a)
bytes_by ask count shape_at state [] holds all c a = refl
bytes_by ask count shape_at state (x ∷ xs) holds all c a =
    let first = All-head (Accesses ask count shape_at) x xs all in
    bytes_by ask count shape_at (apply state (ask x)) xs (Holds-apply count shape_at state
    (ask x) holds first) (All-tail (Accesses ask count shape_at) x xs all) c a
    ∙ ap (byte_by ask xs c a) (apply_bytes count shape_at state (ask x) holds first c a)

-- accesses to other units don't count
kept_or_left : {X : Type 0} (ask : X → RequestFields) (p : X → Bool) (x : X) (xs : List X)
    (c a old : ℕ) (b : Bool) → p x ≡ b → (p x ≡ false → touched (ask x) c a old ≡ old) →
    ((o : ℕ) → byte_by ask (filter p xs) c a o ≡ byte_by ask xs c a o) →
    byte_by ask (filter p (x ∷ xs)) c a old ≡ byte_by ask (x ∷ xs) c a old
kept_or_left ask p x xs c a old true is same more =
    ap (λ t. byte_by ask (if t then x ∷ filter p xs else filter p xs) c a old) is
    ∙ more (touched (ask x) c a old)
kept_or_left ask p x xs c a old false is same more =
    ap (λ t. byte_by ask (if t then x ∷ filter p xs else filter p xs) c a old) is ∙ more old
    ∙ ap (byte_by ask xs c a) (sym (same is))

pub of_unit_alone : {X : Type 0} (ask : X → RequestFields) (count : ℕ) (shape_at : ℕ → ShapeFields)
    (xs : List X) → All (Accesses ask count shape_at) xs → (c a old : ℕ) →
    byte_by ask (filter (λ x. same_unit (unit_of (shape_at (ask x).cube) (ask x))
    (bank_at shape_at c a)) xs) c a old ≡ byte_by ask xs c a old
of_unit_alone ask count shape_at [] all c a old = refl
of_unit_alone {X = X} ask count shape_at (x ∷ xs) all c a old =
    let p : X → Bool = λ y. same_unit (unit_of (shape_at (ask y).cube) (ask y))
    (bank_at shape_at c a) in
    kept_or_left ask p x xs c a old (p x) refl (other_unit shape_at (ask x) c a old
    (All-head (Accesses ask count shape_at) x xs all).access)
    (λ o. of_unit_alone ask count shape_at xs (All-tail (Accesses ask count shape_at) x xs all) c a
    o)

-- the answer sees the bytes that it reaches
expected_same : (action : Action) (request : RequestFields) (f g : ℕ → ℕ) →
    ((k : ℕ) → k < reach action request → f k ≡ g k) →
    expected action request f ≡ expected action request g
expected_same (Read size) request f g same =
    ap (answers.Read false) (ext_get_or 0 (map f (upto size)) (map g (upto size))
    (length-map-range_with_len f 0 size ∙ sym (length-map-range_with_len g 0 size))
    (λ i less. let inside : i < size = omega (arith, length-map-range_with_len f 0 size) in
    get_or-map-range_with_len f 0 size i i 0 inside (omega arith) ∙ same i inside
    ∙ sym (get_or-map-range_with_len g 0 size i i 0 inside (omega arith))))
expected_same Write request f g same = refl
expected_same ReadRegister request f g same = refl
expected_same WriteRegister request f g same = refl
expected_same (Act op) request f g same = refl
expected_same (Work code) request f g same = refl

pub expected_at : (action : Option Action) (access : Action) (request : RequestFields) (f g : ℕ → ℕ)
    → action ≡ Some access → ((k : ℕ) → k < reach access request → f k ≡ g k) →
    expected_by action request f ≡ expected_by action request g
expected_at action access request f g is same =
    ap (λ o. expected_by o request f) is ∙ expected_same access request f g same
    ∙ ap (λ o. expected_by o request g) (sym is)

-- the answer after some accesses, by the bytes that they leave of zeros
abbrev pub answer_by : {X : Type 0} → (X → RequestFields) → X → List X → Answer
answer_by ask x before = expected_by (action_of (ask x).command) (ask x)
    (λ k. byte_by ask before (ask x).cube ((ask x).address + k) 0)

-- all bytes are zero
abbrev pub IsZero : State → Type 0
IsZero state = (c a : ℕ) → byte_in state c a ≡ 0

-- the unit of a thing that is asked
abbrev pub unit_by : {X : Type 0} → (X → RequestFields) → (ℕ → ShapeFields) → X → RequestUnit
unit_by ask shape_at x = unit_of (shape_at (ask x).cube) (ask x)

abbrev pub in_unit_by : {X : Type 0} → (X → RequestFields) → (ℕ → ShapeFields) → RequestUnit → X →
    Bool
in_unit_by ask shape_at unit x = same_unit (unit_by ask shape_at x) unit

pub answered_by : {X : Type 0} (ask : X → RequestFields) (count : ℕ) (shape_at : ℕ → ShapeFields)
    (opening : State) (before : List X) (x : X) → Holds count shape_at opening → IsZero opening →
    All (Accesses ask count shape_at) before → Accesses ask count shape_at x →
    answer_to (state_by ask opening before) (ask x) ≡ answer_by ask x
    (filter (in_unit_by ask shape_at (unit_by ask shape_at x)) before)
answered_by ask count shape_at opening before x holds zero all of =
    let request = ask x in
    let cube = request.cube in
    let own = unit_by ask shape_at x in
    let here = of.access in
    answer_is count shape_at (state_by ask opening before) request
    (Holds-by ask count shape_at opening before holds all) of
    ∙ expected_at (action_of request.command) here.action request
    (λ k. byte_in (state_by ask opening before) cube (request.address + k))
    (λ k. byte_by ask (filter (in_unit_by ask shape_at own) before) cube (request.address + k)
    0) here.asks
    (λ k less.
    let a = request.address + k in
    let bank : bank_at shape_at cube a ≡ own =
    same_bank shape_at cube (reach here.action request) request.address a here.some_block
    (fits_block here.action (shape_at cube) request here.plain here.no_error) (omega arith)
    (omega arith)
    ∙ sym (unit_is_bank shape_at request here) in
    bytes_by ask count shape_at opening before holds all cube a
    ∙ ap (byte_by ask before cube a) (zero cube a)
    ∙ sym (of_unit_alone ask count shape_at before all cube a 0)
    ∙ ap (λ u. byte_by ask (filter (in_unit_by ask shape_at u) before) cube a 0) bank)

pub state_by-append : {X : Type 0} (ask : X → RequestFields) (state : State) (xs ys : List X) →
    state_by ask state (xs ++ ys) ≡ state_by ask (state_by ask state xs) ys
state_by-append ask state [] ys = refl
state_by-append ask state (x ∷ xs) ys = state_by-append ask (apply state (ask x)) xs ys

-- a thing with what was before it, answered
abbrev pub answered_after : {X : Type 0} → (X → RequestFields) → After X → Reply X
answered_after ask after = record {
  item = after.item;
  answer =
      answer_by ask after.item after.earlier;
}

replies_after : {X : Type 0} (ask : X → RequestFields) (count : ℕ) (shape_at : ℕ → ShapeFields)
    (opening : State) (before xs : List X) → Holds count shape_at opening → IsZero opening →
    All (Accesses ask count shape_at) before → All (Accesses ask count shape_at) xs →
    replies_by ask (state_by ask opening before) xs ≡ map (answered_after ask)
    (after_units (in_unit_by ask shape_at) (unit_by ask shape_at) before xs)
replies_after ask count shape_at opening before [] holds zero earlier all = refl
replies_after ask count shape_at opening before (x ∷ xs) holds zero earlier all =
    let P = Accesses ask count shape_at in
    let first = All-head P x xs all in
    let next : apply (state_by ask opening before) (ask x) ≡ state_by ask opening (before ++ x ∷ [])
    = sym (state_by-append ask opening before (x ∷ [])) in
    ap (λ a. (record { item = x; answer = a }) ∷ replies_by ask (apply (state_by ask opening before)
    (ask x)) xs) (answered_by ask count shape_at opening before x holds zero earlier first)
    ∙ ap (λ s. answered_after ask (record {
      item = x;
      earlier =
          filter (in_unit_by ask shape_at (unit_by ask shape_at x)) before;
    }) ∷ replies_by ask s xs)
    next
    ∙ ap (λ l. answered_after ask (record {
      item = x;
      earlier =
          filter (in_unit_by ask shape_at (unit_by ask shape_at x)) before;
    }) ∷ l)
    (replies_after ask count shape_at opening (before ++ x ∷ []) xs holds zero
    (All-push P before x earlier first) (All-tail P x xs all))

-- a test of things, for replies
abbrev pub of_reply : {X : Type 0} → (X → Bool) → Reply X → Bool
of_reply test reply = test reply.item

filter_answered : {X : Type 0} (ask : X → RequestFields) (p : X → Bool) (afters : List (After X)) →
    filter (of_reply p) (map (answered_after ask) afters) ≡ map (answered_after ask)
    (filter (of_item p) afters)
filter_answered ask p [] = refl
filter_answered {X = X} ask p (a ∷ afters) =
    elim (p a.item) as (λ b. (if b then answered_after ask a ∷ filter (of_reply p)
    (map (answered_after ask) afters) else filter (of_reply p)
    (map (answered_after ask) afters)) ≡ map (answered_after ask)
    (if b then a ∷ filter (of_item p) afters else filter (of_item p) afters)) [
      | true ↦ ap (λ l. answered_after ask a ∷ l) (filter_answered ask p afters)
      | false ↦ filter_answered ask p afters
    ]

pub prefix_map : {X Y : Type 0} (f : X → Y) (xs ys : List X) → IsPrefix xs ys →
    IsPrefix (map f xs) (map f ys)
prefix_map f xs ys prefix = (map f prefix.0, ap (map f) prefix.1 ∙ map-append f xs prefix.0)

-- Accesses that each unit performs in the order asked, and that are performed so under each tag,
-- are answered under each tag as if all had been performed in the order asked.
pub replies_kept : {X T : Type 0} (ask : X → RequestFields) (count : ℕ) (shape_at : ℕ → ShapeFields)
    (under : T → X → Bool) (opening : State) (asked done : List X) → Holds count shape_at opening →
    IsZero opening
    → All (Accesses ask count shape_at) asked → All (Accesses ask count shape_at) done →
    All (HasTag under) done → IsClassed under
    → ((u : RequestUnit) → IsPrefix (filter (in_unit_by ask shape_at u) done)
    (filter (in_unit_by ask shape_at u) asked)) →
    ((t : T) → IsPrefix (filter (under t) done) (filter (under t) asked))
    → (t : T) → IsPrefix (filter (of_reply (under t)) (replies_by ask opening done))
    (filter (of_reply (under t)) (replies_by ask opening asked))
replies_kept {X = X} ask count shape_at under opening asked done holds zero all_asked all_done
    tagged classed by_unit by_tag t =
    let in_unit = in_unit_by ask shape_at in
    let unit = unit_by ask shape_at in
    let ways : Ways in_unit unit under = record {
      units = λ c d x is_c is_d. sym (same_unit-is (unit x) c is_c) ∙ same_unit-is (unit x) d is_d;
      own = λ x. same_unit-self (unit x);
      tags = classed;
    } in
    let none : All (Accesses ask count shape_at) [] = λ k d less. absurd (omega arith) in
    let kept = order_kept in_unit unit under ways [] asked done tagged by_unit by_tag t in
    let mapped = prefix_map (answered_after ask)
    (filter (of_item (under t)) (after_units in_unit unit [] done))
    (filter (of_item (under t)) (after_units in_unit unit [] asked)) kept in
    let seen : (xs : List X) → All (Accesses ask count shape_at) xs →
    filter (of_reply (under t)) (replies_by ask opening xs) ≡ map (answered_after ask)
    (filter (of_item (under t)) (after_units in_unit unit [] xs)) =
    λ xs all. ap (filter (of_reply (under t))) (replies_after ask count shape_at opening [] xs holds
    zero none all) ∙ filter_answered ask (under t) (after_units in_unit unit [] xs) in
    let done_seen = seen done all_done in
    let asked_seen = seen asked all_asked in
    (mapped.0, asked_seen ∙ mapped.1 ∙ ap (λ l. l ++ mapped.0) (sym done_seen))
