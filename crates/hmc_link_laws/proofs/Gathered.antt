-- What a receiver has gathered inside a packet are the first flits of the packet's place.
use Rattle.std.proofs.Common.{◌≡◌, ◌∙◌, ◌≤◌, ◌<◌, ℕ, zero, suc, Bool, true, false, List, [], ◌∷◌, ◌++◌, length, map, get_or, Option, Some, None, refl, sym, ap, subst, arith, nat_lt, ltb-true, ltb-false}
use Rattle.std.specs.Prelude.{slice_index_or}
use Rattle.std.proofs.lemmas.List.{length-map, get_or_push}
use Rattle.hmc_codes.specs.Link.{LinkFields}
use Rattle.hmc_codes.specs.declared.profile.Profile.{Profile}
use Rattle.hmc_packet.specs.declared.view.Mode as outer_mode
use Rattle.hmc_packet.specs.Landings as receipts
use Rattle.hmc_numbers.specs.Direction.{Reached, Reached as far}
use Rattle.hmc_numbers.specs.Pair.{Half, Pair, pair_after}
use Rattle.hmc_numbers.specs.Weights.{Weight}
use Rattle.hmc_send.specs.Entries.{SenderEntry, Part, unfinished, places}
use Rattle.hmc_send.specs.LinkEntries.{LinkEntry, receiver_entries}
use Rattle.hmc_send.specs.LinkLines.{is_pending_changed}
use Rattle.hmc_send.specs.LinkSenders.{sender_entries}
use Rattle.hmc_send.specs.Places.{Place, place_at}
use Rattle.hmc_send.specs.declared.toward.Toward.{Toward}
use Rattle.hmc_send.specs.declared.toward.Toward.TheVariants.{Forth, Back}
use Rattle.hmc_wire.specs.EntryTurns.{weight}
use Rattle.hmc_wire.specs.FieldsAre.{half_on, half_after}
use Rattle.hmc_wire.specs.LinkLaws.{IsKept}
use Rattle.hmc_wire.proofs.ActionLaw.{Linked, both_linked}
use Rattle.hmc_wire.proofs.Actions.{SideOf, link_after}
use Rattle.hmc_wire.proofs.EntryTurns.{turns-same}
use Rattle.hmc_wire.proofs.GrammarLandings as inner
use Rattle.hmc_wire.proofs.Joins.{WayAt}
use Rattle.hmc_wire.proofs.Matches.{IsAt}
use Rattle.hmc_wire.proofs.PacketGrammar.{grammar}
use Rattle.hmc_wire.proofs.Places.{packet_of}
use Rattle.hmc_wire.proofs.Spelled.{fronts}
use Rattle.hmc_wire.proofs.Steps.{sent_of, front_in, steps_of, turns_by, step_turns}
use Rattle.hmc_wire.proofs.Turns.{pair-after, own-joins}
use Rattle.hmc_wire.proofs.Words.{mode_as}
use Rattle.hmc_link_laws.specs.Items.{flit_at_place, IsGatheredAs}
use Rattle.hmc_link_laws.proofs.RealRuns.{fronts-length}

fronts-at : (g : ℕ → List ℕ) (k i : ℕ) → i < k → get_or (fronts g k) i [] ≡ g i
fronts-at g zero i less = absurd (omega arith)
fronts-at g (suc k) i less = by_place (nat_lt i k) refl (fronts-at g k i)
  where
    size : length (fronts g k) ≡ k
    size = fronts-length g k

    before : (l : List (List ℕ)) (x : List ℕ) (j : ℕ) → j < length l → get_or (l ++ x ∷ []) j [] ≡ get_or l j []
    before [] x j lt = absurd (omega arith)
    before (y ∷ l) x zero lt = refl
    before (y ∷ l) x (suc j) lt = before l x j (omega arith)

    by_place : (here : Bool) → nat_lt i k ≡ here → (i < k → get_or (fronts g k) i [] ≡ g i) → get_or (fronts g k ++ g k ∷ []) i [] ≡ g i
    by_place true is known = let lt = ltb-true i k is in let long = size in before (fronts g k) (g k) i (omega arith) ∙ known lt
    by_place false is known =
        let past = ltb-false i k is in
        let last : i ≡ k = omega arith in
        ap (λ (j : ℕ). get_or (fronts g k ++ g k ∷ []) j []) (last ∙ sym size) ∙ get_or_push (fronts g k) (g k) [] (length (fronts g k)) refl ∙ ap g (sym last)

-- the flits of a place before its last are those that it sends
front-same : (q : Profile) (u : Option Part) (place : Place) (i : ℕ) → front_in q u (packet_of place) i ≡ flit_at_place q u place i
front-same q u (Place.known packet) i = refl
front-same q None (Place.awaited head flits numbers) i = refl
front-same q (Some part) (Place.awaited head flits numbers) i = refl

abbrev GatheredAs : Profile → List SenderEntry → (flits : List (List ℕ)) → Reached → Type 0
GatheredAs q t fs (far.inside n k) = (1 ≤ k) × (n ≤ length (places q t)) × (length fs ≡ k) × ((i : ℕ) → i < k → slice_index_or fs i [] ≡ flit_at_place q (unfinished t) (place_at (places q t) n) i)
GatheredAs q t fs x = Unit {0}

gathered-at : (q : Profile) (t : List SenderEntry) (ps : List Weight) (x : Reached) (m : outer_mode.Mode) (b : Bool) (fs : List (List ℕ)) → ps ≡ map weight (places q t) → IsAt (grammar q) (sent_of q 0 t) ps x (mode_as m) b fs → GatheredAs q t fs x
gathered-at q t ps far.training m b fs is at = tt
gathered-at q t ps far.aborting m b fs is at = tt
gathered-at q t ps far.between m b fs is at = tt
gathered-at q t ps (far.inside n k) m b fs is at =
    let g : ℕ → List ℕ = λ i. front_in q (unfinished t) (packet_of (place_at (places q t) n)) i in
    let count : length ps ≡ length (places q t) = ap (λ (ws : List Weight). length ws) is ∙ length-map (places q t) weight in
    let few = at.4 in (
      at.3,
      omega arith,
      ap (λ (l : List (List ℕ)). length l) at.2 ∙ fronts-length g k,
      λ i less. ap (λ (l : List (List ℕ)). slice_index_or l i []) at.2 ∙ fronts-at g k i less ∙ front-same q (unfinished t) (place_at (places q t) n) i,
    )
gathered-at q t ps far.spoilt m b fs is at = tt

side-gathered : (link : LinkFields) (d : Toward) (past : List LinkEntry) (own oth : SideOf (grammar link.profile)) → WayAt link d past own → Linked (grammar link.profile) (sent_of link.profile 0 (sender_entries link d past)) link.retry link.tokens own oth →
    GatheredAs link.profile (sender_entries link d past) (receipts.pending (receiver_entries d past)) own.half.direction.far
side-gathered link d past own oth is linked =
    let q = link.profile in
    let g = grammar q in
    let t = sender_entries link d past in
    let s = sent_of q 0 t in
    let w = own.half.direction in
    let mode_same : inner.mode g own.received ≡ mode_as (receipts.mode (receiver_entries d past)) = ap (inner.mode g) is.received ∙ sym is.mirrors.mode in
    let spoilt : inner.is_spoilt g own.received ≡ is_pending_changed d past = ap (inner.is_spoilt g) is.received ∙ is.spoilt in
    let pending : inner.pending g own.received ≡ receipts.pending (receiver_entries d past) = ap (inner.pending g) is.received ∙ sym is.mirrors.pending in
    gathered-at q t w.first w.far (receipts.mode (receiver_entries d past)) (is_pending_changed d past) (receipts.pending (receiver_entries d past)) is.sends.first
    (subst (λ m. IsAt g s w.first w.far m (is_pending_changed d past) (receipts.pending (receiver_entries d past))) mode_same
    (subst (λ (b : Bool). IsAt g s w.first w.far (inner.mode g own.received) b (receipts.pending (receiver_entries d past))) spoilt
    (subst (λ (l : List (List ℕ)). IsAt g s w.first w.far (inner.mode g own.received) (inner.is_spoilt g own.received) l) pending linked.matches.place)))

abbrev GatheredIn : LinkFields → Toward → List LinkEntry → Half → Type 0
GatheredIn link d past half = GatheredAs link.profile (sender_entries link d past) (receipts.pending (receiver_entries d past)) half.direction.far

steps-gathered : (link : LinkFields) (d : Toward) (past : List LinkEntry) → IsKept link past → GatheredIn link d past (half_on d (pair_after (step_turns link past)))
unfolding step_turns
steps-gathered link d past kept =
    let q = link.profile in
    let s = sent_of q 0 (sender_entries link Forth past) in
    let t = sent_of q 0 (sender_entries link Back past) in
    let l = link_after (grammar q) (steps_of link past) in
    let j = own-joins link past kept in
    let both = both_linked (grammar q) s t link.retry link.tokens (steps_of link past) kept.retry j.may in
    by_direction d (side-gathered link Forth past l.forth l.back j.forth both.forth) (side-gathered link Back past l.back l.forth j.back both.back)
  where
    by_direction : (x : Toward) → GatheredIn link Forth past (link_after (grammar link.profile) (steps_of link past)).forth.half → GatheredIn link Back past (link_after (grammar link.profile) (steps_of link past)).back.half →
        GatheredIn link x past (half_on x (pair_after (turns_by link.profile (steps_of link past))))
    by_direction Forth forth back = subst (λ (p : Pair). GatheredIn link Forth past p.forth) (sym (pair-after link.profile (steps_of link past))) forth
    by_direction Back forth back = subst (λ (p : Pair). GatheredIn link Back past p.back) (sym (pair-after link.profile (steps_of link past))) back

as-inside : (link : LinkFields) (d : Toward) (past : List LinkEntry) (x : Reached) → GatheredAs link.profile (sender_entries link d past) (receipts.pending (receiver_entries d past)) x → IsGatheredAs link d past x
as-inside link d past far.training is = tt
as-inside link d past far.aborting is = tt
as-inside link d past far.between is = tt
as-inside link d past (far.inside n k) is = record { some = is.0; begun = is.1; long = is.2; flits = is.3 }
as-inside link d past far.spoilt is = tt

pub gathered-as : (link : LinkFields) (d : Toward) (past : List LinkEntry) → IsKept link past → IsGatheredAs link d past (half_after link d past).direction.far
gathered-as link d past kept =
    as-inside link d past (half_after link d past).direction.far
    (subst (λ moves. GatheredIn link d past (half_on d (pair_after moves))) (turns-same link past kept) (steps-gathered link d past kept))
