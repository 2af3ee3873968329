-- Each of the units is named, and there are at most eight.
use Rattle.std.proofs.Common.{◌≡◌, ◌∙◌, true, length, map, arith, rules}
use Rattle.std.specs.Prelude.{nat_le}
use Rattle.std.specs.Cmp.Derive.{both_true}
use Rattle.std.proofs.lemmas.Bool.Decides.{nat_tests}
use Rattle.hmc_c.specs.Units.{slots_of}
use Rattle.hmc_c.proofs.Named.{all_named, in_slot}
use Rattle.hmc_c.proofs.units.bench_of.Goals as goal

pub returns-in_ok-new-in-Some-clause-some : goal.returns-in_ok-new-in-Some-clause-some
returns-in_ok-new-in-Some-clause-some c =
    let named : map in_slot c.in-Some.made.items ≡ slots_of c.args.units.now = search rules in
    let few : nat_le (length c.args.units.now) 8 ≡ true = grind (arith, nat_tests) in
    (both_true few (all_named c.in-Some.made.items c.args.units.now named), c.in_ok-new-in-Some.ensures ∙ named)
