-- A link as two directions with their flits: what is done to it, and when it may be done.
-- ActionLaw proves what holds then.
use Rattle.std.specs.Prelude.{◌≡◌, ℕ, ◌-◌, ◌≤◌, Bool, true, false, ◌||◌, List, [], ◌∷◌, ◌++◌, Option, Some, None}
use Rattle.hmc_numbers.specs.Weights.{Weight, size}
use Rattle.hmc_numbers.specs.Direction.{Item, Direction}
use Rattle.hmc_numbers.specs.Direction.Filler.{null}
use Rattle.hmc_numbers.specs.Direction.Item.{filler, clear, part}
use Rattle.hmc_numbers.specs.Events.{Event, happens, begun_new, begun_again}
use Rattle.hmc_numbers.specs.Events.Event.{rests, sends_filler, sends_clear, begins, begins_through, begins_again, goes_on, unlocks}
use Rattle.hmc_numbers.specs.Pair.{Half, Move, Move as moving, Way as ways, way, half_opening, own_after, other_after}
use Rattle.hmc_numbers.specs.Tokens.{used_tokens}
use Rattle.hmc_numbers.specs.Turns.{MayHere}
use Rattle.hmc_wire.proofs.Grammar.{Grammar}
use Rattle.hmc_wire.proofs.GrammarLandings.{Landing, Landing as landing, Landings, mode, is_spoilt, outcome, checks}
use Rattle.hmc_wire.proofs.Spelled.{Sent}
use Rattle.hmc_wire.proofs.Matches.{reading_of, event_of}
use Rattle.hmc_wire.proofs.GrammarCounted.{counted}
use Rattle.hmc_wire.proofs.Marked.{Mark}

-- a direction with the flits on its line and its receiver's entries
pub record Side (F B : Type 0) : Type 0 where
  pub half : Half
  pub flits : List F
  pub received : List (Landing F B)

abbrev pub SideOf : Grammar → Type 0
SideOf G = Side G.Flit G.Bad

pub record Link (F B : Type 0) : Type 0 where
  pub forth : Side F B
  pub back : Side F B

abbrev pub LinkOf : Grammar → Type 0
LinkOf G = Link G.Flit G.Bad

pub data Action (F : Type 0) : Type 0 where
  sends : Event → F → Action F
  starves : Action F
  pipes : Weight → Action F  -- a cut-through packet is begun
  lands : (changed : Bool) → F → Action F
  unlocks_receiver : Action F
  moves : ℕ → Action F  -- a packet of so many flits leaves the buffer

pub data Step (F : Type 0) : Type 0 where
  forth : Action F → Step F
  back : Action F → Step F

abbrev pub side_opening : (G : Grammar) → SideOf G
side_opening G = record { half = half_opening; flits = []; received = [] }

abbrev pub link_opening : (G : Grammar) → LinkOf G
link_opening G = record { forth = side_opening G; back = side_opening G }

-- the item that a send adds
abbrev pub next_item : Direction → Item
next_item w = part w.last (size w.first w.last - w.left) (w.left - 1)

abbrev pub item_of : Direction → Event → Item
item_of w (sends_filler f) = filler f
item_of w sends_clear = clear
item_of w (begins s) = next_item (begun_new w s)
item_of w begins_again = next_item (begun_again w)
item_of w goes_on = next_item w
item_of w e = filler null

abbrev pub landing_event : (G : Grammar) → Landings G → (changed : Bool) → G.Flit → Event
landing_event G past c f = event_of (mode G past) (c || is_spoilt G past) c (reading_of (G.alone f)) (outcome G past f)

abbrev pub counts_or_does : Option ℕ → Event → Move
counts_or_does None e = moving.does e
counts_or_does (Some q) e = moving.counts e

-- the move of an action
abbrev pub move_of : (G : Grammar) → SideOf G → Action G.Flit → Move
move_of G d (sends e f) = moving.does e
move_of G d starves = moving.does rests
move_of G d (pipes p) = moving.does (begins_through p)
move_of G d (lands c f) = counts_or_does (counted G d.received f) (landing_event G d.received c f)
move_of G d unlocks_receiver = moving.does unlocks
move_of G d (moves k) = moving.moves k

abbrev pub rest_of : {F : Type 0} → List F → List F
rest_of [] = []
rest_of (f ∷ fs) = fs

abbrev pub flits_after : {F : Type 0} → List F → Action F → List F
flits_after fs (sends e f) = fs ++ f ∷ []
flits_after fs (lands c f) = rest_of fs
flits_after fs a = fs

abbrev pub received_after : (G : Grammar) → Landings G → Action G.Flit → Landings G
received_after G past (lands c f) = landing.landed c f (outcome G past f) ∷ past
received_after G past unlocks_receiver = landing.unlocked ∷ past
received_after G past a = past

abbrev pub own_side : (G : Grammar) → (own other : SideOf G) → Action G.Flit → SideOf G
own_side G d o a = record { half = own_after d.half o.half.direction.accepted (move_of G d a); flits = flits_after d.flits a; received = received_after G d.received a }

abbrev pub other_side : (G : Grammar) → (own other : SideOf G) → Action G.Flit → SideOf G
other_side G d o a = record { half = other_after d.half o.half (move_of G d a); flits = o.flits; received = o.received }

abbrev pub stepped : (G : Grammar) → LinkOf G → Step G.Flit → LinkOf G
stepped G l (forth a) = record { forth = own_side G l.forth l.back a; back = other_side G l.forth l.back a }
stepped G l (back a) = record { forth = other_side G l.back l.forth a; back = own_side G l.back l.forth a }

-- When an action may come

-- the front flit lands as it is or changed, and no check succeeds over what is changed
pub record MayLand (G : Grammar) (d : SideOf G) (changed : Bool) (f : G.Flit) : Type 0 where
  pub sent : G.Flit
  pub others : List G.Flit
  pub line : d.flits ≡ sent ∷ others
  pub same : changed ≡ false → f ≡ sent
  pub sound : (changed || is_spoilt G d.received) ≡ true → checks G (mode G d.received) d.received f ≡ false

-- a flit is sent that is spelled as what it is
pub record MaySend (G : Grammar) (s : Sent G) (retry advertised : ℕ) (own other : Half) (e : Event) (f : G.Flit) : Type 0 where
  pub adds : way e ≡ ways.sends
  pub may : MayHere retry advertised own other e
  pub mark : Mark G s (happens own.direction e).first other.direction.first (item_of own.direction e) other.direction.accepted f

abbrev pub MayAct : (G : Grammar) → Sent G → (retry advertised : ℕ) → (own other : SideOf G) → Action G.Flit → Type 0
MayAct G s r adv d o (sends e f) = MaySend G s r adv d.half o.half e f
MayAct G s r adv d o starves = Unit {0}
MayAct G s r adv d o (pipes p) = MayHere r adv d.half o.half (begins_through p)
MayAct G s r adv d o (lands c f) = MayLand G d c f
MayAct G s r adv d o unlocks_receiver = Unit {0}
MayAct G s r adv d o (moves k) = k ≤ used_tokens d.half

abbrev pub MayStep : (G : Grammar) → (forth back : Sent G) → (retry advertised : ℕ) → LinkOf G → Step G.Flit → Type 0
MayStep G s t r adv l (forth a) = MayAct G s r adv l.forth l.back a
MayStep G s t r adv l (back a) = MayAct G t r adv l.back l.forth a

abbrev pub link_after : (G : Grammar) → List (Step G.Flit) → LinkOf G
link_after G [] = link_opening G
link_after G (e ∷ past) = stepped G (link_after G past) e

abbrev pub MaySteps : (G : Grammar) → (forth back : Sent G) → (retry advertised : ℕ) → List (Step G.Flit) → Type 0
MaySteps G s t r adv [] = Unit {0}
MaySteps G s t r adv (e ∷ past) = MayStep G s t r adv (link_after G past) e × MaySteps G s t r adv past
