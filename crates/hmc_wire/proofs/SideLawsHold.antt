-- The laws of a link with its flits (SideLaws). Used by LawsHold and TokenFacts.
use Rattle.std.proofs.Common.{◌≡◌, ℕ, ◌≤◌, List, ◌∷◌, Bool, ◌∙◌, subst, arith}
use Rattle.std.specs.Prelude.{Some}
use Rattle.hmc_codes.specs.Profile.{window_of}
use Rattle.hmc_numbers.specs.Pointers.{pointer}
use Rattle.hmc_numbers.specs.PairLaws.{Rising}
use Rattle.hmc_numbers.proofs.DirectionLaws.{order_laws}
use Rattle.hmc_numbers.proofs.Rising.{rising_bounds}
use Rattle.hmc_numbers.proofs.PairLaws.{half_laws}
use Rattle.hmc_wire.proofs.Grammar.{Grammar}
use Rattle.hmc_wire.proofs.Spelled.{Sent}
use Rattle.hmc_wire.proofs.GrammarCounted.{counted}
use Rattle.hmc_wire.proofs.LandCounted.{counted_is}
use Rattle.hmc_wire.proofs.Actions.{SideOf, Step, MayLand, link_after, MaySteps}
use Rattle.hmc_wire.proofs.SideLaws.{IsKnown, SideLaws, LinkLaws}
use Rattle.hmc_wire.proofs.ActionLaw.{Linked, facts, landing_done, both_linked}

rising_at : (low high t : ℕ) (ss ts : List ℕ) → ss ≡ t ∷ ts → Rising low ss high → (low ≤ t) × (t ≤ high)
rising_at low high t ss ts e h = let z : Rising low (t ∷ ts) high = subst (λ y. Rising low y high) e h in (z.0, rising_bounds t high ts z.1)

known : (G : Grammar) (s t : Sent G) (r adv : ℕ) (d o : SideOf G) → r ≤ window_of G.profile → Linked G s r adv d o → Linked G t r adv o d → (c : Bool) (f : G.Flit) (q : ℕ) → MayLand G d c f → counted G d.received f ≡ Some q → IsKnown G d o q
known G s t r adv d o b k i c f q m e =
    let z = facts G s r adv d o c f b k m in
    let p = (counted_is G s r d.half.direction d.received z.front.0 z.front.1.0 c f z.front.1.1 (pointer G.profile o.half.direction.first z.stamp.0) q z.stamp.1.1.1 e).1 in
    let w = rising_at o.half.direction.acked o.half.direction.accepted z.stamp.0 d.half.stamps z.stamp.1.0 z.stamp.1.1.0 k.joined.stamps in
    let l = order_laws G.profile r o.half.direction b i.joined.order i.joined.trained in
    record {
      stamp = z.stamp.0;
      stamps = z.stamp.1.0;
      front = z.stamp.1.1.0;
      is = p;
      least = w.0;
      most = w.1;
      alone = λ j a u h. l.apart j z.stamp.0 a u w.0 (omega (arith, w.1, l.accepted)) (h ∙ p);
    }

side_laws : (G : Grammar) (s t : Sent G) (r adv : ℕ) (d o : SideOf G) → r ≤ window_of G.profile → Linked G s r adv d o → Linked G t r adv o d → SideLaws G s r adv d o
side_laws G s t r adv d o b k i = record {
  half = half_laws G.profile r adv d.half o.half b k.joined i.joined;
  accepted = k.matches.packets;
  ordered = λ c f m. (landing_done G s r adv d o c f (facts G s r adv d o c f b k m)).ordered;
  known = known G s t r adv d o b k i;
}

pub link_laws : (G : Grammar) (s t : Sent G) (r adv : ℕ) (past : List (Step G.Flit)) → r ≤ window_of G.profile → MaySteps G s t r adv past → LinkLaws G s t r adv (link_after G past)
link_laws G s t r adv past b m =
    let k = both_linked G s t r adv past b m in
    let l = link_after G past in
    record { forth = side_laws G s t r adv l.forth l.back b k.forth k.back; back = side_laws G t s r adv l.back l.forth b k.back k.forth }
