use Rattle.std.proofs.Common.{◌≡◌, ◌∙◌, ◌++◌, ◌∷◌, [], refl, ap}
use Rattle.std.proofs.lemmas.Slice.{pushed}
use Rattle.std.proofs.lemmas.List.Elements.{All-same, All-push}
use Rattle.hmc_serial.specs.Cube.{IsCube}
use Rattle.hmc_serial.proofs.MachineLemmas.{one_more_cube, machine_made}
use Rattle.hmc_serial.proofs.plain.Plain.new.Goals as goal

pub loop-number-preserved : goal.loop-number-preserved
loop-number-preserved c =
    let cubes = c.loop-number.cubes.items in
    let made : c.push.new.self.items ≡ cubes ++ c.in_ok-cube.cube ∷ [] = pushed (c.in_ok-cube.cube ∷ []) refl c.in_ok-push.was c.push.ensures.items in (
      made ∙ ap (λ x. cubes ++ x ∷ []) c.in_ok-cube.ensures
          ∙ one_more_cube c.args.shapes.now cubes c.loop-number.number c.index-shapes-number.result c.loop-number-test.true c.index-shapes-number.is c.loop-number.invariant.0,
      All-same IsCube _ _ made (All-push IsCube cubes c.in_ok-cube.cube c.loop-number.invariant.1 c.invariant.ensures),
    )

pub invariant_of-result : goal.invariant_of-result
invariant_of-result c =
    (machine_made c.args.shapes.now c.loop-number.cubes.items c.loop-number.number c.loop-number-test.false c.requires.some c.requires.few c.loop-number.invariant.0 c.loop-number.invariant.1).1

pub returns : goal.returns
returns c =
    (machine_made c.args.shapes.now c.loop-number.cubes.items c.loop-number.number c.loop-number-test.false c.requires.some c.requires.few c.loop-number.invariant.0 c.loop-number.invariant.1).0
