-- What is known of a landing, and what comes of it: the statement that LandLanded proves.
use Rattle.std.specs.Prelude.{◌≡◌, ℕ, Bool, true, false, ◌||◌, List, ◌∷◌}
use Rattle.hmc_numbers.specs.Direction.{Item, Direction}
use Rattle.hmc_numbers.specs.Events.{Event, happens}
use Rattle.hmc_numbers.specs.May.{May}
use Rattle.hmc_numbers.specs.DirectionLaws.{DirectionLaws}
use Rattle.hmc_wire.proofs.Grammar.{Grammar}
use Rattle.hmc_wire.proofs.GrammarLandings.{Mode, Outcome, Landings, mode, is_spoilt, checks}
use Rattle.hmc_wire.proofs.GrammarLandings.Landing.{landed}
use Rattle.hmc_wire.proofs.GrammarLandings.Outcome.{disordered}
use Rattle.hmc_wire.proofs.Spelled.{Sent, Spelled}
use Rattle.hmc_wire.proofs.Matches.{Matches, event_of, reading_of}

-- The front of the line lands as f: as it was sent, or changed. No check succeeds over a changed
-- flit.
pub record Lands (G : Grammar) (s : Sent G) (retry : ℕ) (w : Direction) (past : Landings G) (x : Item) (xs : List Item) (changed : Bool) (f : G.Flit) : Type 0 where
  pub laws : DirectionLaws G.profile retry w
  pub matches : Matches G s w past
  pub line : w.line ≡ x ∷ xs
  pub spelled : changed ≡ false → Spelled G s w.first x f
  pub sound : (changed || is_spoilt G past) ≡ true → checks G (mode G past) past f ≡ false

-- a packet never comes out of order
abbrev pub IsOrdered : {B : Type 0} → Outcome B → Type 0
IsOrdered disordered = ⊥
IsOrdered o = Unit {0}

-- what comes of it: an event of the numbers that may come, with the same landings
pub record Done (G : Grammar) (s : Sent G) (retry : ℕ) (w : Direction) (past : Landings G) (changed : Bool) (f : G.Flit) (o : Outcome G.Bad) (e : Event) : Type 0 where
  pub may : May retry w e
  pub ordered : IsOrdered o
  pub matches : Matches G s (happens w e) (landed changed f o ∷ past)

-- the event of a landing in a mode
abbrev pub DoneIn : (G : Grammar) → Sent G → (retry : ℕ) → Direction → (past : Landings G) → (changed spoilt : Bool) → (f : G.Flit) → Outcome G.Bad → Mode → Type 0
DoneIn G s r w past c b f o m = Done G s r w past c f o (event_of m (c || b) c (reading_of (G.alone f)) o)
