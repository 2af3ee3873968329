-- The links and the cubes hold what is under way, and all these sums are exact.
use Rattle.std.proofs.Common.{◌≡◌, ◌∙◌, ◌<◌, ◌≤◌, ◌+◌, ◌-◌, ◌^◌, ℕ, false, List, Option, length, sum_by, min, sym, ap, subst, arith}
use Rattle.std.proofs.lemmas.Grind.{common_steps}
use Rattle.std.specs.List.{All}
use Rattle.hmc_units.specs.Unit.{UnitFields}
use Rattle.hmc_cube.specs.Cube.{CubeFields, held_in_cube}
use Rattle.hmc_cube.specs.Parts.{AreParts}
use Rattle.hmc_link.specs.Held.{held_on}
use Rattle.hmc_entries.specs.declared.entry.Entry.{Entry}
use Rattle.hmc_journal.specs.Lawful.{has_passed}
use Rattle.hmc_journal.specs.Setup.{Setup}
use Rattle.hmc_journal.specs.UnderWay.{under_way}
use Rattle.hmc_net.specs.NetState.{NetParts, net_of, no_cube}
use Rattle.hmc_net.specs.Stands.{StandsFor}
use Rattle.hmc_net.proofs.HeldIs.{held_is}
use Rattle.hmc_net.proofs.network.Network.under_way.Goals as goal

added : (links cubes sum r l k : ℕ) → l ≤ 320000 → k ≤ 2 ^ 24 → links ≡ l → cubes ≡ k →
    sum ≡ min (links + cubes) (2 ^ 64 - 1) → (sum < 2 ^ 32 → r ≡ sum) → r ≡ l + k
added links cubes sum r l k few less e f g narrow = narrow (omega (arith, s, few, less)) ∙ s
  where
    s : sum ≡ l + k
    s = grind (arith, common_steps)

answer : {B : Type 0} (slots : B → List (Option UnitFields)) (x y : NetParts B) (setup : Setup)
    (past : List Entry) (l m : List CubeFields) (links cubes sum r : ℕ) →
    x ≡ y → StandsFor (net_of slots y) setup past → has_passed past ≡ false →
    l ≡ x.cubes → All AreParts l → m ≡ x.cubes →
    (sum_by held_on x.links < 2 ^ 64 → links ≡ sum_by held_on x.links) →
    (length m ≤ 8 → (cubes ≡ sum_by held_in_cube m) × (cubes ≤ 2 ^ 24)) →
    sum ≡ min (links + cubes) (2 ^ 64 - 1) → (sum < 2 ^ 32 → r ≡ sum) →
    r ≡ under_way setup.topology past
answer {B = B} slots x y setup past l m links cubes sum r e stands off here parts there of_links
    of_cubes add narrow =
    let is =
    held_is setup past (net_of slots x)
    (subst (λ (z : NetParts B). StandsFor (net_of slots z) setup past) (sym e) stands) off
    (λ c less. subst (All AreParts) here parts c no_cube less) in
    let q = of_cubes (subst (λ (s : List CubeFields). length s ≤ 8) (sym there) is.cubes) in
    let k = q.0 ∙ ap (sum_by held_in_cube) there in
    added links cubes sum r (sum_by held_on x.links) (sum_by held_in_cube x.cubes) is.links
    (by_equal _ _ k q.1) (of_links (below _ is.links)) k add narrow ∙ sym is.value
  where
    below : (a : ℕ) → a ≤ 320000 → a < 2 ^ 64
    below a le = omega (arith, le)

    by_equal : (a b : ℕ) → a ≡ b → a ≤ 2 ^ 24 → b ≤ 2 ^ 24
    by_equal a b f le = omega (arith, f, le)

pub returns : goal.returns
returns g c = λ setup past stands off.
    answer g.B.Workbench.slots _ c.args.self.now setup past c.deref.result.now c.deref-2.result.now
    c.held-links.result c.held_in-cubes.result c.saturating_add.result c.narrow.result
    c.self.view_is stands off c.deref.ensures.value c.are_cubes.ensures c.deref-2.ensures.value
    c.held-links.ensures c.held_in-cubes.ensures c.saturating_add.ensures c.narrow.ensures
