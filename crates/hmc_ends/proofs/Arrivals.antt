-- The packet that a landing accepts.
use Rattle.std.proofs.Common.{◌≡◌, ◌∙◌, ◌+◌, ℕ, Bool, true, false, List, [], ◌∷◌, ◌++◌, refl, sym, ap, Ok}
use Rattle.std.specs.Prelude.{◌==◌, if◌then◌else◌, Result}
use Rattle.hmc_codes.specs.declared.profile.Profile.{Profile}
use Rattle.hmc_packet.specs.declared.bad.Bad.{Bad}
use Rattle.hmc_packet.specs.declared.kind.Kind.{Kind}
use Rattle.hmc_packet.specs.declared.outcome.Outcome.{Outcome}
use Rattle.hmc_packet.specs.declared.outcome.Outcome.TheVariants.{Quiet, Trained, Gathered, Accepted, Poisoned, Repeat, AbortedBad, AbortedOrder, Ran}
use Rattle.hmc_packet.specs.declared.reception.Reception.{Reception}
use Rattle.hmc_packet.specs.declared.seen.Seen.{Seen}
use Rattle.hmc_packet.specs.Landings.{ReceiverEntry, pending, accepted, accepted_by, packets_in, whole_run}
use Rattle.hmc_packet.specs.Landings.ReceiverEntry.{Land}
use Rattle.hmc_packet.specs.Packet.{PacketFields}
use Rattle.hmc_packet.specs.Reading.{read_of}
use Rattle.hmc_packet.specs.Receptions.{LandingView, landing_view, reception_of, landed_with, is_arrival}
use Rattle.hmc_receive.specs.StandsFor.{latest, latest_of}
use Rattle.hmc_wire.proofs.LandingCases.{Case, case_of}
use Rattle.hmc_ends.specs.Landings.{arrived_packets}

no-irtry : (b : Bool) (kind : Kind) → is_arrival (if b then Ran kind else Quiet) ≡ false
no-irtry true kind = refl
no-irtry false kind = refl

by-case : (q : Profile) (r : LandingView) (flit : List ℕ) (x : Reception) → Case q r flit x → is_arrival x.outcome ≡ true → (seen : Seen) × (read_of q (r.pending ++ flit ∷ []) ≡ Ok seen)
by-case q r flit _ (Case.trained m a b) is = absurd cc
by-case q r flit _ (Case.trains m a b) is = absurd cc
by-case q r flit _ (Case.untrained m a) is = absurd cc
by-case q r flit _ (Case.aborting m a) is = absurd cc
by-case q r flit _ (Case.retried m irtry a) is = absurd (let clash : false ≡ true = sym (no-irtry (r.run irtry.0 + 1 == whole_run) irtry.0) ∙ is in cc)
by-case q r flit _ (Case.null m a b) is = absurd cc
by-case q r flit _ (Case.no_length m a b c) is = absurd cc
by-case q r flit _ (Case.gathered m a) is = absurd cc
by-case q r flit _ (Case.refused m a bad b) is = absurd cc
by-case q r flit _ (Case.whole m a seen read) is = (seen, read)

-- an accepted packet was read
read-it : (q : Profile) (past : List ReceiverEntry) (flit : List ℕ) → is_arrival (reception_of q past flit).outcome ≡ true → (seen : Seen) × (read_of q (pending past ++ flit ∷ []) ≡ Ok seen)
unfolding reception_of landing_view
read-it q past flit is = by-case q (landing_view q past) flit _ (case_of q (landing_view q past) flit) is

by-outcome : (q : Profile) (past : List ReceiverEntry) (flit : List ℕ) (o : Outcome) (before : PacketFields) → (is_arrival o ≡ true → (seen : Seen) × (read_of q (pending past ++ flit ∷ []) ≡ Ok seen)) →
    accepted_by q (pending past) (Land flit o) ≡ arrived_packets (landed_with o (latest_of before (accepted_by q (pending past) (Land flit o))))
by-outcome q past flit Quiet before read = refl
by-outcome q past flit Trained before read = refl
by-outcome q past flit Gathered before read = refl
by-outcome q past flit Accepted before read =
    let is = read refl in
    ap packets_in is.1 ∙ sym (ap (λ (r : Result Seen Bad). latest_of before (packets_in r) ∷ []) is.1)
by-outcome q past flit Poisoned before read =
    let is = read refl in
    ap packets_in is.1 ∙ sym (ap (λ (r : Result Seen Bad). latest_of before (packets_in r) ∷ []) is.1)
by-outcome q past flit Repeat before read = refl
by-outcome q past flit (AbortedBad bad) before read = refl
by-outcome q past flit AbortedOrder before read = refl
by-outcome q past flit (Ran kind) before read = refl

-- what was accepted with the landing
pub accepted-more : (q : Profile) (past : List ReceiverEntry) (flit : List ℕ) → let o = (reception_of q past flit).outcome in accepted q (Land flit o ∷ past) ≡ accepted q past ++ arrived_packets (landed_with o (latest q (Land flit o ∷ past)))
unfolding accepted latest
accepted-more q past flit =
    let o = (reception_of q past flit).outcome in
    ap (λ (l : List PacketFields). accepted q past ++ l) (by-outcome q past flit o (latest q past) (read-it q past flit))

-- what the landing accepts
pub accepted-same : (q : Profile) (past : List ReceiverEntry) (flit : List ℕ) → let o = (reception_of q past flit).outcome in accepted_by q (pending past) (Land flit o) ≡ arrived_packets (landed_with o (latest q (Land flit o ∷ past)))
unfolding latest
accepted-same q past flit = by-outcome q past flit (reception_of q past flit).outcome (latest q past) (read-it q past flit)
