-- The entries of a receiver and its landings by the grammar of packets agree. Used by Ways and
-- Joins.
use Rattle.std.proofs.Common.{◌≡◌, ◌∙◌, ◌+◌, ℕ, suc, Bool, true, false, List, [], ◌∷◌, ◌++◌, length, Option, Some, None, refl, sym, ap, subst, arith}
use Rattle.std.specs.Prelude.{◌==◌, if◌then◌else◌}
use Rattle.std.proofs.lemmas.List.Sums.{sum_by-cons}
use Rattle.hmc_codes.specs.Commands.{layout_of}
use Rattle.hmc_codes.specs.declared.layout.Layout.{Layout}
use Rattle.hmc_codes.specs.declared.layout.Layout.TheVariants as layouts
use Rattle.hmc_codes.specs.declared.profile.Profile.{Profile}
use Rattle.hmc_packet.specs.declared.bad.Bad.{Bad}
use Rattle.hmc_packet.specs.declared.kind.Kind as outer
use Rattle.hmc_packet.specs.declared.kind.Kind.TheVariants as outer_kinds
use Rattle.hmc_packet.specs.declared.outcome.Outcome as outer_outcome
use Rattle.hmc_packet.specs.declared.outcome.Outcome.TheVariants as out
use Rattle.hmc_packet.specs.declared.reception.Reception.{Reception}
use Rattle.hmc_packet.specs.declared.seen.Seen.{Seen}
use Rattle.hmc_packet.specs.declared.view.Mode as outer_mode
use Rattle.hmc_packet.specs.declared.view.Mode.TheVariants.{Train, Abort, Good}
use Rattle.hmc_packet.specs.Irtry.{kind_of, irtry_in}
use Rattle.hmc_packet.specs.Landings as receipts
use Rattle.hmc_packet.specs.Landings.{ReceiverEntry, whole_run, packets_in, accepted_by, is_of_kind, mode_after, gathered_after, trains, irtry_of_entry, is_training, flits_in}
use Rattle.hmc_packet.specs.Landings.ReceiverEntry.{Land, Unlock}
use Rattle.hmc_packet.specs.Packet.{PacketFields, flits_of}
use Rattle.hmc_packet.specs.Reading.{read_of}
use Rattle.hmc_packet.specs.Receptions.{LandingView, landing_view, reception_of, reception_by, is_next, is_repeat, packet_reception}
use Rattle.hmc_wire.proofs.LandingCases.{Case, Case as case, case_of}
use Rattle.hmc_wire.proofs.Grammar.{Read as reads}
use Rattle.hmc_wire.proofs.GrammarLandings.{Mode, Landings, Landing as lands, mode_at, mode_by, pending_by, run_by, training_by, taken_by, is_of, is_steady}
use Rattle.hmc_wire.proofs.GrammarLandings as inner
use Rattle.hmc_wire.proofs.GrammarCounted.{counted}
use Rattle.hmc_wire.proofs.Words.{kind_as, mode_as, outcome_as}
use Rattle.hmc_wire.proofs.PacketGrammar.{read_as, read_by, alone, grammar}
use Rattle.hmc_wire.proofs.Readings.{Alike, Same, alone-same, steady-same, landing-same, pair_of}

pub record Mirrors (q : Profile) (rs : List ReceiverEntry) (ls : Landings (grammar q)) : Type 0 where
  pub mode : mode_as (receipts.mode rs) ≡ inner.mode (grammar q) ls
  pub pending : receipts.pending rs ≡ inner.pending (grammar q) ls
  pub run : (k : outer.Kind) → receipts.run q k rs ≡ inner.run (grammar q) (kind_as k) ls
  pub trained : receipts.training q rs ≡ inner.trained_count (grammar q) ls
  pub accepted : receipts.accepted q rs ≡ inner.accepted_in (grammar q) ls

pub flits-same : (q : Profile) (ps : List PacketFields) → flits_in ps ≡ inner.flits_of (grammar q) ps
flits-same q [] = refl
flits-same q (p ∷ ps) = sum_by-cons flits_of p ps ∙ ap (λ (n : ℕ). flits_of p + n) (flits-same q ps)

pub alike : (q : Profile) (rs : List ReceiverEntry) (ls : Landings (grammar q)) → Mirrors q rs ls → Alike q (landing_view q rs) ls
unfolding landing_view
alike q rs ls m = record {
  mode = m.mode;
  trained = m.trained;
  run = m.run;
  flits = ap flits_in m.accepted ∙ flits-same q (inner.accepted_in (grammar q) ls);
  packets = ap (λ (ps : List PacketFields). length ps) m.accepted;
  pending = m.pending;
}

-- the landing after these entries
pub mirrored : (q : Profile) (rs : List ReceiverEntry) (ls : Landings (grammar q)) (flit : List ℕ) → Mirrors q rs ls →
    Same (reception_of q rs flit) (inner.outcome (grammar q) ls flit) (counted (grammar q) ls flit) (inner.checks (grammar q) (inner.mode (grammar q) ls) ls flit)
unfolding reception_of
mirrored q rs ls flit m = landing-same q (landing_view q rs) ls flit (alike q rs ls m)

pub mirrors-none : (q : Profile) → Mirrors q [] []
unfolding receipts.mode receipts.pending receipts.run receipts.training receipts.accepted
mirrors-none q = record { mode = refl; pending = refl; run = λ k. refl; trained = refl; accepted = refl }

-- one landing more

mode-after : (m : outer_mode.Mode) (flit : List ℕ) (o : outer_outcome.Outcome) → mode_as (mode_after m (Land flit o)) ≡ mode_by (outcome_as o) (mode_as m)
mode-after Train flit out.Quiet = refl
mode-after Abort flit out.Quiet = refl
mode-after Good flit out.Quiet = refl
mode-after Train flit out.Trained = refl
mode-after Abort flit out.Trained = refl
mode-after Good flit out.Trained = refl
mode-after Train flit out.Gathered = refl
mode-after Abort flit out.Gathered = refl
mode-after Good flit out.Gathered = refl
mode-after Train flit out.Accepted = refl
mode-after Abort flit out.Accepted = refl
mode-after Good flit out.Accepted = refl
mode-after Train flit out.Poisoned = refl
mode-after Abort flit out.Poisoned = refl
mode-after Good flit out.Poisoned = refl
mode-after Train flit out.Repeat = refl
mode-after Abort flit out.Repeat = refl
mode-after Good flit out.Repeat = refl
mode-after Train flit (out.AbortedBad bad) = refl
mode-after Abort flit (out.AbortedBad bad) = refl
mode-after Good flit (out.AbortedBad bad) = refl
mode-after Train flit out.AbortedOrder = refl
mode-after Abort flit out.AbortedOrder = refl
mode-after Good flit out.AbortedOrder = refl
mode-after Train flit (out.Ran outer_kinds.Start) = refl
mode-after Abort flit (out.Ran outer_kinds.Start) = refl
mode-after Good flit (out.Ran outer_kinds.Start) = refl
mode-after Train flit (out.Ran outer_kinds.Clear) = refl
mode-after Abort flit (out.Ran outer_kinds.Clear) = refl
mode-after Good flit (out.Ran outer_kinds.Clear) = refl

pending-after : (before : List (List ℕ)) (flit : List ℕ) (o : outer_outcome.Outcome) → gathered_after before (Land flit o) ≡ pending_by (outcome_as o) before flit
pending-after before flit out.Gathered = refl
pending-after before flit _ = refl

-- a run that goes on or ends
count_if : (b : Bool) (n : ℕ) → (if b then suc n else 0) ≡ (if b then n + 1 else 0)
count_if true n = omega arith
count_if false n = refl

same-kind : (k l : outer.Kind) → receipts.same_kind l k ≡ inner.same_kind (kind_as k) (kind_as l)
same-kind outer_kinds.Start outer_kinds.Start = refl
same-kind outer_kinds.Start outer_kinds.Clear = refl
same-kind outer_kinds.Clear outer_kinds.Start = refl
same-kind outer_kinds.Clear outer_kinds.Clear = refl

of-kind : (k : outer.Kind) (o : Option (outer.Kind × ℕ)) → is_of_kind k o ≡ is_of (kind_as k) (pair_of o)
of-kind k None = refl
of-kind k (Some irtry) = same-kind k irtry.0

counted-by : (q : Profile) (k : outer.Kind) (flit : List ℕ) (n : ℕ) → (if is_of_kind k (irtry_in q flit) then suc n else 0) ≡ (if is_of (kind_as k) (alone q flit) then n + 1 else 0)
counted-by q k flit n =
    count_if (is_of_kind k (irtry_in q flit)) n
    ∙ ap (λ (b : Bool). if b then n + 1 else 0) (of-kind k (irtry_in q flit) ∙ ap (is_of (kind_as k)) (sym (alone-same q flit)))

run-after : (q : Profile) (k : outer.Kind) (flit : List ℕ) (o : outer_outcome.Outcome) (n : ℕ) → (if is_of_kind k (irtry_of_entry q (Land flit o)) then suc n else 0) ≡ run_by (outcome_as o) (is_of (kind_as k) (alone q flit)) n
run-after q k flit out.Quiet n = counted-by q k flit n
run-after q k flit (out.Ran kind) n = counted-by q k flit n
run-after q k flit _ n = refl

trained-after : (q : Profile) (flit : List ℕ) (o : outer_outcome.Outcome) (n : ℕ) → (if trains q (Land flit o) then suc n else 0) ≡ training_by (outcome_as o) (is_steady (grammar q) flit) n
trained-after q flit out.Quiet n = count_if (is_training q flit) n ∙ ap (λ (b : Bool). if b then n + 1 else 0) (steady-same q flit)
trained-after q flit _ n = refl

-- what a landing accepts
IsTaken : Profile → LandingView → List ℕ → outer_outcome.Outcome → Type 0
IsTaken q r flit o = accepted_by q r.pending (Land flit o) ≡ taken_by (outcome_as o) (read_as (read_of q (r.pending ++ flit ∷ [])))

taken-retry : (q : Profile) (r : LandingView) (flit : List ℕ) (b : Bool) (k : outer.Kind) → IsTaken q r flit (if b then out.Ran k else out.Quiet)
unfolding IsTaken
taken-retry q r flit true k = refl
taken-retry q r flit false k = refl

taken-order : (q : Profile) (r : LandingView) (flit : List ℕ) (a b c : Bool) (p : PacketFields) (rrp : ℕ) → read_as (read_of q (r.pending ++ flit ∷ [])) ≡ reads.packet p rrp → packets_in (read_of q (r.pending ++ flit ∷ [])) ≡ p ∷ [] →
    IsTaken q r flit (if a then (if b then out.Poisoned else out.Accepted) else if c then out.Repeat else out.AbortedOrder)
unfolding IsTaken
taken-order q r flit true true c p rrp e f = f ∙ ap inner.packets_in (sym e)
taken-order q r flit true false c p rrp e f = f ∙ ap inner.packets_in (sym e)
taken-order q r flit false b true p rrp e f = refl
taken-order q r flit false b false p rrp e f = refl

taken-layout : (q : Profile) (r : LandingView) (flit : List ℕ) (l : Layout) (seen : Seen) → read_as (read_of q (r.pending ++ flit ∷ [])) ≡ read_by l seen.packet seen.rrp → packets_in (read_of q (r.pending ++ flit ∷ [])) ≡ seen.packet ∷ [] →
    IsTaken q r flit (packet_reception q r l seen).outcome
unfolding IsTaken
taken-layout q r flit layouts.Null seen e f = refl
taken-layout q r flit layouts.Irtry seen e f = taken-retry q r flit (r.run (kind_of seen.packet.frp) + 1 == whole_run) (kind_of seen.packet.frp)
taken-layout q r flit layouts.Pret seen e f = refl
taken-layout q r flit _ seen e f = taken-order q r flit (is_next q r seen.packet) seen.packet.poisoned (is_repeat q r seen.packet) seen.packet seen.rrp e f

taken-case : (q : Profile) (r : LandingView) (flit : List ℕ) (l : Reception) → Case q r flit l → IsTaken q r flit l.outcome
unfolding IsTaken
taken-case q r flit l (case.trained m a b) = refl
taken-case q r flit l (case.trains m a b) = refl
taken-case q r flit l (case.untrained m a) = refl
taken-case q r flit l (case.aborting m e) = refl
taken-case q r flit l (case.retried m irtry e) = taken-retry q r flit (r.run irtry.0 + 1 == whole_run) irtry.0
taken-case q r flit l (case.null m p n) = refl
taken-case q r flit l (case.no_length m p n b) = refl
taken-case q r flit l (case.gathered m b) = refl
taken-case q r flit l (case.refused m b bad e) = refl
taken-case q r flit l (case.whole m b seen e) = taken-layout q r flit (layout_of seen.packet.command) seen (ap read_as e) (ap packets_in e)

taken-at : (q : Profile) (rs : List ReceiverEntry) (flit : List ℕ) →
    accepted_by q (receipts.pending rs) (Land flit (reception_of q rs flit).outcome) ≡ taken_by (outcome_as (reception_of q rs flit).outcome) (read_as (read_of q (receipts.pending rs ++ flit ∷ [])))
unfolding IsTaken reception_of landing_view
taken-at q rs flit = taken-case q (landing_view q rs) flit (reception_by q (landing_view q rs) flit) (case_of q (landing_view q rs) flit)

-- a lawful landing more
pub mirrors-landed : (q : Profile) (rs : List ReceiverEntry) (ls : Landings (grammar q)) (c : Bool) (flit : List ℕ) (o : outer_outcome.Outcome) → Mirrors q rs ls → o ≡ (reception_of q rs flit).outcome →
    Mirrors q (Land flit o ∷ rs) (lands.landed c flit (outcome_as o) ∷ ls)
unfolding receipts.mode receipts.pending receipts.run receipts.training receipts.accepted
mirrors-landed q rs ls c flit o m is = record {
  mode = mode-after (receipts.mode rs) flit o ∙ ap (mode_by (outcome_as o)) m.mode;
  pending = pending-after (receipts.pending rs) flit o ∙ ap (λ (fs : List (List ℕ)). pending_by (outcome_as o) fs flit) m.pending;
  run = λ k. run-after q k flit o (receipts.run q k rs) ∙ ap (run_by (outcome_as o) (is_of (kind_as k) (alone q flit))) (m.run k);
  trained = trained-after q flit o (receipts.training q rs) ∙ ap (training_by (outcome_as o) (is_steady (grammar q) flit)) m.trained;
  accepted =
      let t : accepted_by q (receipts.pending rs) (Land flit o) ≡ taken_by (outcome_as o) (read_as (read_of q (receipts.pending rs ++ flit ∷ []))) =
      subst (λ (x : outer_outcome.Outcome). accepted_by q (receipts.pending rs) (Land flit x) ≡ taken_by (outcome_as x) (read_as (read_of q (receipts.pending rs ++ flit ∷ [])))) (sym is) (taken-at q rs flit) in
      (λ i. m.accepted i ++ t i) ∙ ap (λ (fs : List (List ℕ)). inner.accepted_in (grammar q) ls ++ taken_by (outcome_as o) (read_as (read_of q (fs ++ flit ∷ [])))) m.pending;
}

unlocked-after : (m : outer_mode.Mode) → mode_as (mode_after m Unlock) ≡ mode_at {F = List ℕ} {B = Bad} (mode_as m) lands.unlocked
unlocked-after Train = refl
unlocked-after Abort = refl
unlocked-after Good = refl

pub mirrors-unlocked : (q : Profile) (rs : List ReceiverEntry) (ls : Landings (grammar q)) → Mirrors q rs ls → Mirrors q (Unlock ∷ rs) (lands.unlocked ∷ ls)
unfolding receipts.mode receipts.pending receipts.run receipts.training receipts.accepted
mirrors-unlocked q rs ls m = record {
  mode = unlocked-after (receipts.mode rs) ∙ ap (λ (n : Mode). mode_at {F = List ℕ} {B = Bad} n lands.unlocked) m.mode;
  pending = refl;
  run = λ k. refl;
  trained = refl;
  accepted = ap (λ (ps : List PacketFields). ps ++ []) m.accepted;
}
