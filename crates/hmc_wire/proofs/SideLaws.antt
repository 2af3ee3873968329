-- What holds of a link with its flits after all that may be done to it: the statement that
-- SideLawsHold proves.
use Rattle.std.specs.Prelude.{◌≡◌, ℕ, ◌≤◌, Bool, List, ◌∷◌, Some}
use Rattle.hmc_numbers.specs.Pointers.{pointer}
use Rattle.hmc_numbers.specs.Direction.{begun}
use Rattle.hmc_numbers.specs.PairLaws.{HalfLaws}
use Rattle.hmc_wire.proofs.Grammar.{Grammar}
use Rattle.hmc_wire.proofs.GrammarLandings.{accepted_in, outcome}
use Rattle.hmc_wire.proofs.Spelled.{Sent}
use Rattle.hmc_wire.proofs.Matches.{packets_to}
use Rattle.hmc_wire.proofs.Lands.{IsOrdered}
use Rattle.hmc_wire.proofs.GrammarCounted.{counted}
use Rattle.hmc_wire.proofs.Actions.{SideOf, LinkOf, MayLand}

-- A counted return pointer is that of the packets which were accepted when it was sent: at least as
-- many as are acknowledged, and at most as many as are accepted. No other packet that is kept has it.
pub record IsKnown (G : Grammar) (own other : SideOf G) (rrp : ℕ) : Type 0 where
  pub stamp : ℕ
  pub stamps : List ℕ
  pub front : own.half.stamps ≡ stamp ∷ stamps
  pub is : rrp ≡ pointer G.profile other.half.direction.first stamp
  pub least : other.half.direction.acked ≤ stamp
  pub most : stamp ≤ other.half.direction.accepted
  pub alone : (j : ℕ) → other.half.direction.acked ≤ j → j ≤ begun other.half.direction → pointer G.profile other.half.direction.first j ≡ rrp → j ≡ stamp

pub record SideLaws (G : Grammar) (s : Sent G) (retry advertised : ℕ) (own other : SideOf G) : Type 0 where
  pub half : HalfLaws G.profile retry advertised own.half other.half
  -- what is accepted are the first packets that were begun, in order
  pub accepted : accepted_in G own.received ≡ packets_to s.packet own.half.direction.accepted
  -- no packet comes out of order
  pub ordered : (changed : Bool) (f : G.Flit) → MayLand G own changed f → IsOrdered (outcome G own.received f)
  pub known : (changed : Bool) (f : G.Flit) (rrp : ℕ) → MayLand G own changed f → counted G own.received f ≡ Some rrp → IsKnown G own other rrp

pub record LinkLaws (G : Grammar) (s t : Sent G) (retry advertised : ℕ) (l : LinkOf G) : Type 0 where
  pub forth : SideLaws G s retry advertised l.forth l.back
  pub back : SideLaws G t retry advertised l.back l.forth
