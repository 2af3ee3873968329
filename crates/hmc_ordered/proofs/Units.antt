-- What is in order by cube is in order by unit.
use Rattle.std.proofs.Common.{◌≡◌, ◌∙◌, ◌==◌, ◌&&◌, ℕ, Bool, true, false, not, Option, Some, None, List, [], ◌∷◌, ◌++◌, refl, sym, ap, append_assoc, append-nil, eq-eqb}
use Rattle.hmc_codes.specs.Request.{RequestFields}
use Rattle.hmc_codes.specs.declared.unit.Unit.{Unit as RequestUnit}
use Rattle.hmc_packet.specs.Packet.{PacketFields}
use Rattle.hmc_packet.specs.Transactions.{request_in}
use Rattle.hmc_serial.specs.Machine.{State}
use Rattle.hmc_hops.specs.Flows.{item_if}
use Rattle.hmc_entries.specs.declared.entry.Entry.{Entry}
use Rattle.hmc_entries.specs.declared.entry.Entry.TheVariants.{Gave, Took, Executed, Retired, Shifted}
use Rattle.hmc_journal.specs.Choice.{append_if}
use Rattle.hmc_journal.specs.Delivered.{IsPrefix}
use Rattle.hmc_journal.specs.Filters.{TaggedRequest, given_to, executed_by, same_unit}
use Rattle.hmc_journal.specs.Queues.{front_of, contents, QueueId as queues}
use Rattle.hmc_journal.specs.Setup.{Topology, unit_in, unit_cube}
use Rattle.hmc_arrivals.specs.Arrivals.{is_inside, given_at}
use Rattle.hmc_ordered.specs.Ordered.{executed_at}
use Rattle.hmc_ordered.proofs.Machines.{unit_in_cube}
use Rattle.hmc_ordered.proofs.Placing.{arrive_if, placed}
use Rattle.hmc_ordered.proofs.Simulating.{unit_is}

-- each execution names the unit that its request is for
unfoldable pub NamesUnits : Topology → List Entry → Type 0
NamesUnits t [] = Unit {0}
NamesUnits t (Executed unit host tag request answer ∷ past) = (unit ≡ unit_in t request) × NamesUnits t past
NamesUnits t (_ ∷ past) = NamesUnits t past

-- of some requests those that are for a unit
for_unit : Topology → RequestUnit → List TaggedRequest → List TaggedRequest
for_unit t u [] = []
for_unit t u (x ∷ xs) = item_if (same_unit (unit_in t x.request) u) x ++ for_unit t u xs

for_unit-append : (t : Topology) (u : RequestUnit) (xs ys : List TaggedRequest) → for_unit t u (xs ++ ys) ≡ for_unit t u xs ++ for_unit t u ys
unfolding for_unit
for_unit-append t u [] ys = refl
for_unit-append t u (x ∷ xs) ys =
    ap (λ l. item_if (same_unit (unit_in t x.request) u) x ++ l) (for_unit-append t u xs ys)
    ∙ sym (append_assoc (item_if (same_unit (unit_in t x.request) u) x) (for_unit t u xs) (for_unit t u ys))

-- a request for a unit is one for its cube
in_cube : (t : Topology) (u : RequestUnit) (x : TaggedRequest) → same_unit (unit_in t x.request) u ≡ true → (x.request.cube == unit_cube u) ≡ true
in_cube t u x is = eq-eqb x.request.cube (unit_cube u) (sym (unit_in_cube t x.request) ∙ ap unit_cube (unit_is (unit_in t x.request) u is))

one_more : (t : Topology) (u : RequestUnit) (x : TaggedRequest) (b cube same : Bool) (list : List TaggedRequest) → (x.request.cube == unit_cube u) ≡ cube → same_unit (unit_in t x.request) u ≡ same
    → append_if (b && same) (x ∷ []) (for_unit t u list) ≡ for_unit t u (append_if (b && cube) (x ∷ []) list)
unfolding for_unit
one_more t u x false cube same list at is = refl
one_more t u x true true true list at is = sym (for_unit-append t u list (x ∷ []) ∙ ap (λ (b : Bool). for_unit t u list ++ (item_if b x ++ [])) is)
one_more t u x true true false list at is = sym (for_unit-append t u list (x ∷ []) ∙ ap (λ (b : Bool). for_unit t u list ++ (item_if b x ++ [])) is ∙ append-nil (for_unit t u list))
one_more t u x true false true list at is = let clash : true ≡ false = sym (in_cube t u x is) ∙ at in cc
one_more t u x true false false list at is = refl

-- the same, of two tests before
two_more : (t : Topology) (u : RequestUnit) (x : TaggedRequest) (a b : Bool) (list : List TaggedRequest)
    → append_if (a && (b && same_unit (unit_in t x.request) u)) (x ∷ []) (for_unit t u list) ≡ for_unit t u (append_if (a && (b && (x.request.cube == unit_cube u))) (x ∷ []) list)
two_more t u x true b list = one_more t u x b (x.request.cube == unit_cube u) (same_unit (unit_in t x.request) u) list refl refl
two_more t u x false b list = refl

given_for : (t : Topology) (h : ℕ) (u : RequestUnit) (j : List Entry) → given_to t h u j ≡ for_unit t u (given_at h (unit_cube u) j)
unfolding given_to given_at for_unit
given_for t h u [] = refl
given_for t h u (Gave host tag poisoned request ∷ j) =
    let x : TaggedRequest = record { tag = tag; request = request } in
    ap (append_if ((host == h) && (not poisoned && same_unit (unit_in t request) u)) (x ∷ [])) (given_for t h u j)
    ∙ two_more t u x (host == h) (not poisoned) (given_at h (unit_cube u) j)
given_for t h u (_ ∷ j) = given_for t h u j

executed_for : (t : Topology) (h : ℕ) (u : RequestUnit) (j : List Entry) → NamesUnits t j → executed_by h u j ≡ for_unit t u (executed_at h (unit_cube u) j)
unfolding executed_by executed_at for_unit NamesUnits
executed_for t h u [] names = refl
executed_for t h u (Executed unit host tag request answer ∷ j) names =
    let x : TaggedRequest = record { tag = tag; request = request } in
    ap (λ v. append_if ((host == h) && same_unit v u) (x ∷ []) (executed_by h u j)) names.0
    ∙ ap (append_if ((host == h) && same_unit (unit_in t request) u) (x ∷ [])) (executed_for t h u j names.1)
    ∙ one_more t u x (host == h) (request.cube == unit_cube u) (same_unit (unit_in t request) u) (executed_at h (unit_cube u) j) refl refl
executed_for t h u (_ ∷ j) names = executed_for t h u j names

pub by_units : (t : Topology) (h : ℕ) (u : RequestUnit) (j : List Entry) → NamesUnits t j → IsPrefix (executed_at h (unit_cube u) j) (given_at h (unit_cube u) j) → IsPrefix (executed_by h u j) (given_to t h u j)
by_units t h u j names p = (
  for_unit t u p.0,
  given_for t h u j ∙ ap (for_unit t u) p.1 ∙ for_unit-append t u (executed_at h (unit_cube u) j) p.0 ∙ ap (λ l. l ++ for_unit t u p.0) (sym (executed_for t h u j names)),
)

-- ---- the moved journal names its units

names_arrived : (b : Bool) (t : Topology) (o : State) (p : PacketFields) (found : Option RequestFields) (before : List Entry) → NamesUnits t before → NamesUnits t (arrive_if b t o p found before)
unfolding NamesUnits
names_arrived false t o p found before names = names
names_arrived true t o p None before names = names
names_arrived true t o p (Some request) before names = (refl, names)

pub names_placed : (t : Topology) (o : State) (j : List Entry) → NamesUnits t (placed t o j)
unfolding NamesUnits placed
names_placed t o [] = tt
names_placed t o (Gave host tag poisoned request ∷ j) = names_placed t o j
names_placed t o (Took host tag answer ∷ j) = names_placed t o j
names_placed t o (Retired slot ∷ j) = names_placed t o j
names_placed t o (Shifted cube port goal ∷ j) =
    names_arrived (is_inside goal) t o (front_of (contents t j (queues.Port cube port))) (request_in (front_of (contents t j (queues.Port cube port)))) (placed t o j) (names_placed t o j)
names_placed t o (_ ∷ j) = names_placed t o j
