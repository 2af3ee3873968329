use Rattle.std.proofs.Common.{◌∙◌, sym, ap, Vec, Global, get_or, arith}
use Rattle.hmc_case.proofs.InTurnLemmas.{in_turn-ok, in_turn-err, in_turn-end, Gains-length}
use Rattle.hmc_case.specs.Cubes.{next_cube, cubes_of}
use Rattle.hmc_case.specs.Setup.{CubeSetupFields}
use Rattle.toml.specs.View.{view, array_view}
use Rattle.hmc_case.proofs.cube.cubes_of.Goals as goal

pub returns-in-Err-clause-value : goal.returns-in-Err-clause-value
returns-in-Err-clause-value c =
    in_turn-err (λ (cubes : Vec CubeSetupFields Global). cubes.items) (next_cube c.args.profile) c.args.values.now.items c.values.value-index c.value-item.result c.values.cubes.items c.read_cube.new.cubes.items c.in-Err.fault (cubes_of c.args.profile (array_view c.args.values.now))
    (omega arith) (c.value-item.is ∙ ap (λ vs. get_or vs c.values.value-index c.value-item.result) c.deref-value-items.ensures.value) c.in-Err.ensures.value c.values.invariant.so_far

pub values-preserved : goal.values-preserved
values-preserved c =
    let read = next_cube c.args.profile c.values.cubes.items (view c.value-item.result) in
    let longer = Gains-length c.values.cubes.items c.read_cube.new.cubes.items c.in_default.field-0 read c.in_default.ensures.value in
    let next = in_turn-ok (next_cube c.args.profile) c.args.values.now.items c.values.value-index c.value-item.result c.values.cubes.items c.read_cube.new.cubes.items c.in_default.field-0 (omega arith) (c.value-item.is ∙ ap (λ vs. get_or vs c.values.value-index c.value-item.result) c.deref-value-items.ensures.value) c.in_default.ensures.value in
    record {
      count = omega (arith, longer);
      within = c.in_default.ensures.within c.values.invariant.within;
      so_far = sym next ∙ c.values.invariant.so_far;
    }

pub returns-clause-value : goal.returns-clause-value
returns-clause-value c = sym c.values.invariant.so_far ∙ in_turn-end (next_cube c.args.profile) c.args.values.now.items c.values.value-index c.values.cubes.items (omega arith)
