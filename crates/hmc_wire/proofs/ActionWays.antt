-- What a send and a landing change in a direction with its flits. Used by ActionLaw and Ways.
use Rattle.std.proofs.Common.{◌≡◌, ℕ, [], ◌∷◌, ◌++◌, Bool, true, false, refl}
use Rattle.hmc_numbers.specs.Direction.{Direction, rest}
use Rattle.hmc_numbers.specs.Events.{Reading, Event, happens}
use Rattle.hmc_numbers.specs.Events.Event.{rests, sends_filler, sends_clear, begins, begins_through, begins_again, goes_on, acknowledges, unlocks}
use Rattle.hmc_numbers.specs.May.{May}
use Rattle.hmc_numbers.specs.Pair.{Half, Way as ways, way}
use Rattle.hmc_numbers.specs.Turns.{MayHere}
use Rattle.hmc_wire.proofs.GrammarLandings.{Mode, Outcome}
use Rattle.hmc_wire.proofs.GrammarLandings.Mode.{training, abort, good}
use Rattle.hmc_wire.proofs.GrammarLandings.Outcome.{trained, gathered, ran}
use Rattle.hmc_wire.proofs.Grammar.{Kind as kinds}
use Rattle.hmc_wire.proofs.Matches.{event_of}
use Rattle.hmc_wire.proofs.Actions.{item_of}

pub record Sends (w : Direction) (e : Event) : Type 0 where
  pub line : (happens w e).line ≡ w.line ++ item_of w e ∷ []
  pub far : (happens w e).far ≡ w.far
  pub accepted : (happens w e).accepted ≡ w.accepted
  pub clear_run : (happens w e).clear_run ≡ w.clear_run
  pub start_run : (happens w e).start_run ≡ w.start_run

pub sends : (w : Direction) (e : Event) → way e ≡ ways.sends → Sends w e
sends w (sends_filler f) q = record { line = refl; far = refl; accepted = refl; clear_run = refl; start_run = refl }
sends w sends_clear q = record { line = refl; far = refl; accepted = refl; clear_run = refl; start_run = refl }
sends w (begins s) q = record { line = refl; far = refl; accepted = refl; clear_run = refl; start_run = refl }
sends w begins_again q = record { line = refl; far = refl; accepted = refl; clear_run = refl; start_run = refl }
sends w goes_on q = record { line = refl; far = refl; accepted = refl; clear_run = refl; start_run = refl }
sends w e q = absurd (cc q)

pub lands_line : (w : Direction) (e : Event) → way e ≡ ways.lands → ((happens w e).line ≡ rest w.line) × ((happens w e).first ≡ w.first)
lands_line w rests q = absurd (cc q)
lands_line w (sends_filler f) q = absurd (cc q)
lands_line w sends_clear q = absurd (cc q)
lands_line w (begins s) q = absurd (cc q)
lands_line w (begins_through s) q = absurd (cc q)
lands_line w begins_again q = absurd (cc q)
lands_line w goes_on q = absurd (cc q)
lands_line w (acknowledges n) q = absurd (cc q)
lands_line w unlocks q = absurd (cc q)
lands_line w e q = (refl, refl)

pub lands_here : (r adv : ℕ) (own other : Half) (e : Event) → way e ≡ ways.lands → May r own.direction e → MayHere r adv own other e
lands_here r adv own other rests q m = absurd (cc q)
lands_here r adv own other (sends_filler f) q m = absurd (cc q)
lands_here r adv own other sends_clear q m = absurd (cc q)
lands_here r adv own other (begins s) q m = absurd (cc q)
lands_here r adv own other (begins_through s) q m = absurd (cc q)
lands_here r adv own other begins_again q m = absurd (cc q)
lands_here r adv own other goes_on q m = absurd (cc q)
lands_here r adv own other (acknowledges n) q m = absurd (cc q)
lands_here r adv own other unlocks q m = absurd (cc q)
lands_here r adv own other e q m = m

-- each landing's event is one of a landing
pub event_lands : {B : Type 0} → (m : Mode) (b c : Bool) (reading : Reading) (o : Outcome B) → way (event_of m b c reading o) ≡ ways.lands
event_lands training b c reading trained = refl
event_lands training b c reading o = refl
event_lands abort b c reading (ran kinds.clear) = refl
event_lands abort b c reading (ran kinds.start) = refl
event_lands abort b c reading o = refl
event_lands good true c reading gathered = refl
event_lands good false c reading gathered = refl
event_lands good b c reading o = refl
