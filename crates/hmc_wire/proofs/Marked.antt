-- The flits on a line are what its items say, each with the return pointer of its stamp: a
-- definition of ActionLaw's invariant.
use Rattle.std.specs.Prelude.{ℕ, List, [], ◌∷◌}
use Rattle.hmc_numbers.specs.Weights.{Weight}
use Rattle.hmc_numbers.specs.Pointers.{pointer}
use Rattle.hmc_numbers.specs.Direction.{Item}
use Rattle.hmc_wire.proofs.Grammar.{Grammar}
use Rattle.hmc_wire.proofs.Spelled.{Sent, Spelled}
use Rattle.hmc_wire.proofs.GrammarCounted.{Carries}

-- a flit of a direction whose packets are `first`, sent where the other direction's packets are
-- `other` and t of them were accepted
pub record Mark (G : Grammar) (s : Sent G) (first other : List Weight) (x : Item) (t : ℕ) (f : G.Flit) : Type 0 where
  pub spelled : Spelled G s first x f
  pub carries : Carries G s (pointer G.profile other t) x f

abbrev pub Marked : (G : Grammar) → Sent G → (first other : List Weight) → List Item → List ℕ → List G.Flit → Type 0
Marked G s ps qs [] [] [] = Unit {0}
Marked G s ps qs (x ∷ xs) (t ∷ ts) (f ∷ fs) = Mark G s ps qs x t f × Marked G s ps qs xs ts fs
Marked G s ps qs xs ts fs = ⊥
