-- What the landings of a receiver are for the numbers of its direction: a definition of
-- ActionLaw's invariant.
use Rattle.std.specs.Prelude.{◌≡◌, ℕ, zero, suc, ◌≤◌, Bool, true, false, List, [], ◌∷◌, ◌++◌, length, Option, Some, None}
use Rattle.hmc_numbers.specs.Weights.{Weight, size, flits_to}
use Rattle.hmc_numbers.specs.Direction.{Reached, Reached as far, Direction}
use Rattle.hmc_numbers.specs.Events.{Reading, Event}
use Rattle.hmc_numbers.specs.Events.Reading.{plain, as_start, as_clear}
use Rattle.hmc_numbers.specs.Events.Event.{drops, trains, opens, passes, gathers, accepts, repeats, spoils, breaks}
use Rattle.hmc_wire.proofs.Grammar.{Kind, Grammar}
use Rattle.hmc_wire.proofs.Grammar.Kind.{start, clear}
use Rattle.hmc_wire.proofs.GrammarLandings.{Mode, Outcome, Landings, mode, pending, is_spoilt, run, accepted_in, flits_of}
use Rattle.hmc_wire.proofs.GrammarLandings.Mode.{training, abort, good}
use Rattle.hmc_wire.proofs.GrammarLandings.Outcome.{trained, gathered, accepted, poisoned, repeated, aborted, disordered, ran}
use Rattle.hmc_wire.proofs.Spelled.{Sent, fronts}

abbrev pub reading_of : Option (Kind × ℕ) → Reading
reading_of None = plain
reading_of (Some (start, r)) = as_start
reading_of (Some (clear, r)) = as_clear

-- the event of a landing
abbrev pub gathers_or_spoils : (touched changed : Bool) → Event
gathers_or_spoils true c = spoils c
gathers_or_spoils false c = gathers

abbrev pub event_of : {B : Type 0} → Mode → (touched changed : Bool) → Reading → Outcome B → Event
event_of training t c reading trained = trains
event_of training t c reading o = drops reading
event_of abort t c reading (ran clear) = opens
event_of abort t c reading o = drops reading
event_of good t c reading gathered = gathers_or_spoils t c
event_of good t c reading (aborted b) = breaks c
event_of good t c reading disordered = breaks c
event_of good t c reading accepted = accepts
event_of good t c reading poisoned = accepts
event_of good t c reading repeated = repeats
event_of good t c reading o = passes reading

-- the receiver's mode, and what is pending
abbrev pub IsAt : (G : Grammar) → Sent G → List Weight → Reached → Mode → (spoilt : Bool) → List G.Flit → Type 0
IsAt G s ps far.training m b fs = (m ≡ training) × (b ≡ false) × (fs ≡ [])
IsAt G s ps far.aborting m b fs = (m ≡ abort) × (b ≡ false) × (fs ≡ [])
IsAt G s ps far.between m b fs = (m ≡ good) × (b ≡ false) × (fs ≡ [])
IsAt G s ps (far.inside n k) m b fs = (m ≡ good) × (b ≡ false) × (fs ≡ fronts (s.front n) k) × (1 ≤ k) × (n ≤ length ps) × (G.lng (s.front n 0) ≡ size ps n)
IsAt G s ps far.spoilt m b fs = (m ≡ good) × (b ≡ true)

-- the first n packets
abbrev pub packets_to : {P : Type 0} → (ℕ → P) → ℕ → List P
packets_to g zero = []
packets_to g (suc n) = packets_to g n ++ g (suc n) ∷ []

pub record Matches (G : Grammar) (s : Sent G) (w : Direction) (past : Landings G) : Type 0 where
  pub place : IsAt G s w.first w.far (mode G past) (is_spoilt G past) (pending G past)
  pub clear_run : run G clear past ≡ w.clear_run
  pub start_run : run G start past ≡ w.start_run
  pub packets : accepted_in G past ≡ packets_to s.packet w.accepted
  pub count : length (accepted_in G past) ≡ w.accepted
  pub flits : flits_of G (accepted_in G past) ≡ flits_to w.first w.accepted
