-- A landing whose outcome says that a packet was accepted accepts one, and each other one none.
use Rattle.std.proofs.Common.{◌≡◌, ◌+◌, ◌==◌, ◌&&◌, ℕ, Bool, true, false, Option, Some, None, List, [], ◌∷◌, ◌++◌, length, refl, ap}
use Rattle.std.specs.Prelude.{Result, Ok, Err, nat_lt, if◌then◌else◌}
use Rattle.hmc_codes.specs.declared.layout.Layout.{Layout}
use Rattle.hmc_codes.specs.declared.layout.Layout.TheVariants as layouts
use Rattle.hmc_codes.specs.declared.profile.Profile.{Profile}
use Rattle.hmc_codes.specs.Commands.{layout_of}
use Rattle.hmc_packet.specs.declared.bad.Bad.{Bad}
use Rattle.hmc_packet.specs.declared.bad.Bad.TheVariants as bads
use Rattle.hmc_packet.specs.declared.kind.Kind.{Kind}
use Rattle.hmc_packet.specs.declared.outcome.Outcome.{Outcome}
use Rattle.hmc_packet.specs.declared.outcome.Outcome.TheVariants.{Quiet, Trained, Gathered, Accepted, Poisoned, Repeat, AbortedBad, AbortedOrder, Ran}
use Rattle.hmc_packet.specs.declared.reception.Reception.{Reception}
use Rattle.hmc_packet.specs.declared.seen.Seen.{Seen}
use Rattle.hmc_packet.specs.declared.view.Mode.{Mode}
use Rattle.hmc_packet.specs.declared.view.Mode.TheVariants.{Train, Abort, Good}
use Rattle.hmc_packet.specs.Landings.{ReceiverEntry, pending, accepted_by, packets_in, whole_training, is_training}
use Rattle.hmc_packet.specs.Irtry.{kind_of, irtry_in}
use Rattle.hmc_packet.specs.Parts.{lng_of}
use Rattle.hmc_packet.specs.Reading.{is_null, read_of}
use Rattle.hmc_packet.specs.Receptions.{LandingView, landing_view, reception_by, reception_of, unchecked, checked, irtry_reception, abort_reception, is_next, is_repeat, packet_reception, read_reception, flits_reception, is_no_length, lng_with, good_reception, mode_reception, is_arrival}
use Rattle.hmc_journal.specs.Choice.{choose}

-- so many packets are accepted over these pending flits
abbrev pub IsCounted : Profile → (pending : List (List ℕ)) → (flit : List ℕ) → Outcome → Type 0
IsCounted q flits flit outcome = length (accepted_by q flits (ReceiverEntry.Land flit outcome)) ≡ choose (is_arrival outcome) 1 0

outcome_if : (q : Profile) (flits : List (List ℕ)) (flit : List ℕ) (test : Bool) (left right : Outcome) → IsCounted q flits flit left → IsCounted q flits flit right → IsCounted q flits flit (if test then left else right)
outcome_if q flits flit true left right one other = one
outcome_if q flits flit false left right one other = other

reception_if : (q : Profile) (flits : List (List ℕ)) (flit : List ℕ) (test : Bool) (left right : Reception) → IsCounted q flits flit left.outcome → IsCounted q flits flit right.outcome → IsCounted q flits flit (if test then left else right).outcome
reception_if q flits flit true left right one other = one
reception_if q flits flit false left right one other = other

irtry_counted : (q : Profile) (flits : List (List ℕ)) (flit : List ℕ) (before : ℕ) (kind : Kind) (rrp : ℕ) → IsCounted q flits flit (irtry_reception before kind rrp).outcome
irtry_counted q flits flit before kind rrp = outcome_if q flits flit _ (Ran kind) Quiet refl refl

packet_counted : (q : Profile) (view : LandingView) (flits : List (List ℕ)) (flit : List ℕ) (layout : Layout) (seen : Seen) → packets_in (read_of q (flits ++ flit ∷ [])) ≡ seen.packet ∷ [] → IsCounted q flits flit (packet_reception q view layout seen).outcome
packet_counted q view flits flit layouts.Null seen is = refl
packet_counted q view flits flit layouts.Irtry seen is = irtry_counted q flits flit (view.run (kind_of seen.packet.frp)) (kind_of seen.packet.frp) seen.rrp
packet_counted q view flits flit layouts.Pret seen is = refl
packet_counted q view flits flit _ seen is =
    outcome_if q flits flit (is_next q view seen.packet) (if seen.packet.poisoned then Poisoned else Accepted) (if is_repeat q view seen.packet then Repeat else AbortedOrder)
    (outcome_if q flits flit seen.packet.poisoned Poisoned Accepted (ap length is) (ap length is)) (outcome_if q flits flit (is_repeat q view seen.packet) Repeat AbortedOrder refl refl)

read_counted : (q : Profile) (view : LandingView) (flits : List (List ℕ)) (flit : List ℕ) (read : Result Seen Bad) → read_of q (flits ++ flit ∷ []) ≡ read → IsCounted q flits flit (read_reception q view read).outcome
read_counted q view flits flit (Err bad) is = refl
read_counted q view flits flit (Ok seen) is = packet_counted q view flits flit (layout_of seen.packet.command) seen (ap packets_in is)

abort_counted : (q : Profile) (view : LandingView) (flits : List (List ℕ)) (flit : List ℕ) (found : Option (Kind × ℕ)) → IsCounted q flits flit (abort_reception view found).outcome
abort_counted q view flits flit None = refl
abort_counted q view flits flit (Some irtry) = irtry_counted q flits flit (view.run irtry.0) irtry.0 irtry.1

good_counted : (q : Profile) (view : LandingView) (flit : List ℕ) → IsCounted q view.pending flit (good_reception q view flit).outcome
good_counted q view flit =
    let flits = view.pending ++ flit ∷ [] in
    let lng = lng_with view.pending flit in
    let read = read_of q flits in
    let whole = flits_reception q view lng flits in
    let short = is_no_length (lng_of flit) in
    let first = length view.pending == 0 in
    reception_if q view.pending flit (first && is_null flit) (checked Quiet None) (if first && short then unchecked (AbortedBad bads.Length) else whole) refl
    (reception_if q view.pending flit (first && short) (unchecked (AbortedBad bads.Length)) whole refl
    (reception_if q view.pending flit (nat_lt (length flits) lng) (unchecked Gathered) (read_reception q view read) refl
    (read_counted q view view.pending flit read refl)))

mode_counted : (q : Profile) (view : LandingView) (flit : List ℕ) (mode : Mode) → IsCounted q view.pending flit (mode_reception mode q view flit).outcome
mode_counted q view flit Train =
    reception_if q view.pending flit (is_training q flit) (checked (if view.training + 1 == whole_training then Trained else Quiet) None) (unchecked Quiet)
    (outcome_if q view.pending flit (view.training + 1 == whole_training) Trained Quiet refl refl) refl
mode_counted q view flit Abort = abort_counted q view view.pending flit (irtry_in q flit)
mode_counted q view flit Good = good_counted q view flit

pub accepts_counted : (q : Profile) (past : List ReceiverEntry) (flit : List ℕ) → IsCounted q (pending past) flit (reception_of q past flit).outcome
unfolding reception_of reception_by landing_view
accepts_counted q past flit = mode_counted q (landing_view q past) flit (landing_view q past).mode
