-- A packet that came whole has all its flits.
use Rattle.std.proofs.Common.{◌≡◌, ◌≤◌, ◌+◌, ◌==◌, ◌&&◌, ◌∙◌, ℕ, Bool, true, false, nat_lt, if◌then◌else◌, None, List, [], ◌∷◌, ◌++◌, length, refl, sym, ap, subst, arith, eqb-true, length-append, ltb-false}
use Rattle.std.specs.Prelude.{slice_index_or}
use Rattle.hmc_codes.specs.declared.profile.Profile.{Profile}
use Rattle.hmc_packet.specs.declared.outcome.Outcome.TheVariants as outcomes
use Rattle.hmc_packet.specs.declared.view.Mode.{Mode}
use Rattle.hmc_packet.specs.Landings.{ReceiverEntry, mode, pending}
use Rattle.hmc_packet.specs.Parts.{lng_of}
use Rattle.hmc_packet.specs.Reading.{is_null, read_of}
use Rattle.hmc_packet.specs.Receptions.{LandingView, landing_view, reception_by, reception_of, mode_reception, good_reception, flits_reception, read_reception, unchecked, checked, lng_with, is_no_length}
use Rattle.hmc_packet.specs.declared.bad.Bad.TheVariants as bads
use Rattle.hmc_packet.specs.declared.reception.Reception.{Reception}
use Rattle.hmc_kept.specs.Pipes.{is_whole_outcome}
use Rattle.hmc_kept.proofs.Gathering.{NeedsGood, comes_in_good}

pub first_with : (flits : List (List ℕ)) (flit : List ℕ) → 1 ≤ length flits → lng_with flits flit ≡ lng_of (slice_index_or flits 0 [])
first_with [] flit some = absurd (omega arith)
first_with (first ∷ rest) flit some = refl

pub whole_flits : (q : Profile) (view : LandingView) (lng : ℕ) (flits : List (List ℕ)) (test : Bool) → nat_lt (length flits) lng ≡ test → is_whole_outcome (flits_reception q view lng flits).outcome ≡ true → lng ≤ length flits
whole_flits q view lng flits true less whole =
    let gone : is_whole_outcome (flits_reception q view lng flits).outcome ≡ false = ap (λ (t : Bool). is_whole_outcome (if t then unchecked outcomes.Gathered else read_reception q view (read_of q flits)).outcome) less in
    absurd (let clash : true ≡ false = sym whole ∙ gone in cc)
whole_flits q view lng flits false less whole = ltb-false (length flits) lng less

pub whole_good : (q : Profile) (view : LandingView) (flit : List ℕ) → 1 ≤ length view.pending → is_whole_outcome (good_reception q view flit).outcome ≡ true → lng_of (slice_index_or view.pending 0 []) ≤ length view.pending + 1
whole_good q view flit some whole =
    let apart : (length view.pending == 0) ≡ false = not_zero view.pending some in
    let flits = view.pending ++ flit ∷ [] in
    let same : good_reception q view flit ≡ flits_reception q view (lng_with view.pending flit) flits =
    ap (λ (t : Bool). if t && is_null flit then checked outcomes.Quiet None else if t && is_no_length (lng_of flit) then unchecked (outcomes.AbortedBad bads.Length) else flits_reception q view (lng_with view.pending flit) flits) apart in
    let long = length-append view.pending (flit ∷ []) in
    let most = whole_flits q view (lng_with view.pending flit) flits _ refl (sym (ap (λ (r : Reception). is_whole_outcome r.outcome) same) ∙ whole) in
    let first = first_with view.pending flit some in omega (arith, most, long, first)
  where
    not_zero : (flits : List (List ℕ)) → 1 ≤ length flits → (length flits == 0) ≡ false
    not_zero flits some = by_test (length flits == 0) refl
      where
        by_test : (test : Bool) → (length flits == 0) ≡ test → (length flits == 0) ≡ false
        by_test false is = is
        by_test true is = (let none = eqb-true (length flits) 0 is in absurd (omega arith))

-- a packet comes whole in Good alone
pub whole_needs : NeedsGood is_whole_outcome
whole_needs = record { trained = refl; quiet = refl; ran = λ kind. refl }

pub whole_mode : (m : Mode) (q : Profile) (view : LandingView) (flit : List ℕ) → 1 ≤ length view.pending → is_whole_outcome (mode_reception m q view flit).outcome ≡ true → lng_of (slice_index_or view.pending 0 []) ≤ length view.pending + 1
whole_mode m q view flit some whole =
    whole_good q view flit some (subst (λ (n : Mode). is_whole_outcome (mode_reception n q view flit).outcome ≡ true) (comes_in_good is_whole_outcome whole_needs m q view flit whole) whole)

pub whole_last : (q : Profile) (past : List ReceiverEntry) (flit : List ℕ) → 1 ≤ length (pending past) → is_whole_outcome (reception_of q past flit).outcome ≡ true → lng_of (slice_index_or (pending past) 0 []) ≤ length (pending past) + 1
unfolding reception_of reception_by landing_view
whole_last q past flit some whole = whole_mode (mode past) q (landing_view q past) flit some whole
