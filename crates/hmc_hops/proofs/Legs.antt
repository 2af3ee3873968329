-- A route comes one hop nearer with each direction, so it passes each cube once.
use Rattle.std.proofs.Common.{◌≡◌, ◌∙◌, ◌+◌, ℕ, zero, suc, Option, Some, None, refl, sym, ap, subst, arith}
use Rattle.hmc_routes.specs.Route.{Goal}
use Rattle.hmc_hops.specs.Map.{Map, IsMap, End, after, after_end, leg, hops_at}
use Rattle.hmc_hops.specs.Map.End.{Host, Cube}

-- a direction is followed by another where it ends at a cube
pub record Follows (m : Map) (goal : Goal) (d e : ℕ) : Type 0 where
  pub cube : ℕ
  pub ends : m.end_of d ≡ Cube cube
  pub next : m.next goal cube ≡ Some e

follows_end : (m : Map) (goal : Goal) (d e : ℕ) (end : End) → m.end_of d ≡ end → after_end m goal end ≡ Some e → Follows m goal d e
follows_end m goal d e (Host h) ends is = cc
follows_end m goal d e (Cube c) ends is = record { cube = c; ends = ends; next = is }

pub follows : (m : Map) (goal : Goal) (d e : ℕ) → after m goal (Some d) ≡ Some e → Follows m goal d e
follows m goal d e is = follows_end m goal d e (m.end_of d) refl is

pub follow : (m : Map) (goal : Goal) (d e : ℕ) → Follows m goal d e → after m goal (Some d) ≡ Some e
follow m goal d e f = ap (after_end m goal) f.ends ∙ f.next

pub one_nearer : (m : Map) (goal : Goal) (d e : ℕ) → IsMap m → Follows m goal d e → hops_at m goal (m.end_of d) ≡ suc (hops_at m goal (m.end_of e))
one_nearer m goal d e map f = ap (hops_at m goal) f.ends ∙ ap suc (map.nearer goal f.cube e f.next)

-- the leg before
pub before_leg : (m : Map) (goal : Goal) (o : Option ℕ) (e : ℕ) → after m goal o ≡ Some e → (d : ℕ) × (o ≡ Some d) × Follows m goal d e
before_leg m goal None e is = cc
before_leg m goal (Some d) e is = (d, refl, follows m goal d e is)

pub hops_leg : (m : Map) (goal : Goal) (first i d : ℕ) → IsMap m → leg m goal (Some first) i ≡ Some d → hops_at m goal (m.end_of d) + i ≡ hops_at m goal (m.end_of first)
unfolding leg
hops_leg m goal first zero d map is = let e : first ≡ d = cc in subst (λ (x : ℕ). hops_at m goal (m.end_of x) + 0 ≡ hops_at m goal (m.end_of first)) e (omega arith)
hops_leg m goal first (suc i) e map is =
    let b = before_leg m goal (leg m goal (Some first) i) e is in
    let up : hops_at m goal (m.end_of b.0) + i ≡ hops_at m goal (m.end_of first) = hops_leg m goal first i b.0 map b.1 in
    let near : hops_at m goal (m.end_of b.0) ≡ suc (hops_at m goal (m.end_of e)) = one_nearer m goal b.0 e map b.2 in
    omega arith

-- two legs that end as far from the goal are one
pub one_leg : (m : Map) (goal : Goal) (first i j d e : ℕ) → IsMap m → leg m goal (Some first) i ≡ Some d → leg m goal (Some first) j ≡ Some e
    → hops_at m goal (m.end_of d) ≡ hops_at m goal (m.end_of e) → d ≡ e
one_leg m goal first i j d e map here there far =
    let a : hops_at m goal (m.end_of d) + i ≡ hops_at m goal (m.end_of first) = hops_leg m goal first i d map here in
    let b : hops_at m goal (m.end_of e) + j ≡ hops_at m goal (m.end_of first) = hops_leg m goal first j e map there in
    let same : i ≡ j = omega arith in
    let is : Some d ≡ Some e = sym here ∙ ap (leg m goal (Some first)) same ∙ there in cc

-- a route without a first direction has none
pub no_leg : (m : Map) (goal : Goal) (i d : ℕ) → leg m goal None i ≡ Some d → ⊥
unfolding leg
no_leg m goal zero d is = cc
no_leg m goal (suc i) d is = by (leg m goal None i) is (no_leg m goal i)
  where
    by : (o : Option ℕ) → after m goal o ≡ Some d → ((k : ℕ) → o ≡ Some k → ⊥) → ⊥
    by None is none = cc
    by (Some k) is none = none k refl
