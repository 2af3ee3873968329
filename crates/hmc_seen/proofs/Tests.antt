-- What tests of units and tags say.
use Rattle.std.proofs.Common.{◌≡◌, ◌∙◌, ℕ, true, Option, Some, None, refl, ap}
use Rattle.std.specs.Prelude.{◌==◌, ◌&&◌}
use Rattle.std.proofs.lemmas.Bool.{eq-eqb, eqb-true, and_parts}
use Rattle.hmc_codes.specs.declared.unit.Unit.{Unit as RequestUnit}
use Rattle.hmc_codes.specs.declared.unit.Unit.TheVariants as units
use Rattle.hmc_journal.specs.Filters.{same_unit, same_tag}

pub same_self : (u : RequestUnit) → same_unit u u ≡ true
same_self (units.Bank c v b) = ap (λ x. x && ((v == v) && (b == b))) (eq-eqb c c refl)
    ∙ ap (λ x. x && (b == b)) (eq-eqb v v refl) ∙ eq-eqb b b refl
same_self (units.Registers c) = eq-eqb c c refl

pub same_is : (u v : RequestUnit) → same_unit u v ≡ true → u ≡ v
same_is (units.Bank c v b) (units.Bank d w a) is =
    let one = and_parts (c == d) ((v == w) && (b == a)) is in
    let two = and_parts (v == w) (b == a) one.1 in
    ap (λ n. units.Bank n v b) (eqb-true c d one.0)
    ∙ ap (λ n. units.Bank d n b) (eqb-true v w two.0)
    ∙ ap (units.Bank d w) (eqb-true b a two.1)
same_is (units.Bank c v b) (units.Registers d) is = absurd (cc)
same_is (units.Registers c) (units.Bank d w a) is = absurd (cc)
same_is (units.Registers c) (units.Registers d) is = ap units.Registers (eqb-true c d is)

pub tag_is : (tag : Option ℕ) (t : ℕ) → same_tag tag t ≡ true → tag ≡ Some t
tag_is None t e = absurd (cc)
tag_is (Some s) t e = ap Some (eqb-true s t e)
