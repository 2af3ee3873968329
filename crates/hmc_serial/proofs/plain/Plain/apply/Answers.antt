use Rattle.std.proofs.Common.{◌<◌, ◌∙◌, ap, length, arith}
use Rattle.std.proofs.lemmas.List.{length-set}
use Rattle.std.proofs.lemmas.List.Elements.{All-set}
use Rattle.hmc_serial.specs.Cube.{IsCube}
use Rattle.hmc_serial.specs.Machine.{apply, answer_to, machine_of}
use Rattle.hmc_serial.proofs.MachineLemmas.{applied, answered}
use Rattle.hmc_serial.proofs.plain.Plain.apply.Goals as goal

pub returns-clause-state : goal.returns-clause-state
returns-clause-state g c =
    let slots = g.B.Workbench.slots c.args.bench.now in
    let there : c.from.result < length c.self.inside.cubes.items = omega (arith, c.from.ensures, ap (λ r. r.cube) c.request.view_is, ap length c.self.view_is, c.requires) in
    applied c.self.inside.cubes.items slots _ _ c.args.request.now c.from.result c.index_mut-cube.result.now c.perform-answer.new.self c.request.view_is c.from.ensures there c.index_mut-cube.ensures.value c.perform-answer.ensures.cube c.perform-answer.ensures.slots
    ∙ ap (λ cubes. apply (machine_of cubes slots) c.args.request.now) c.self.view_is

pub returns-clause-answer : goal.returns-clause-answer
returns-clause-answer g c =
    let slots = g.B.Workbench.slots c.args.bench.now in
    let there : c.from.result < length c.self.inside.cubes.items = omega (arith, c.from.ensures, ap (λ r. r.cube) c.request.view_is, ap length c.self.view_is, c.requires) in
    answered c.self.inside.cubes.items slots _ c.args.request.now c.from.result c.index_mut-cube.result.now c.perform-answer.result c.request.view_is c.from.ensures there c.index_mut-cube.ensures.value c.perform-answer.ensures.answer
    ∙ ap (λ cubes. answer_to (machine_of cubes slots) c.args.request.now) c.self.view_is

pub invariant_of-self : goal.invariant_of-self
invariant_of-self g c =
    let long = length-set c.self.inside.cubes.items c.from.result c.perform-answer.new.self in
    record {
      some_cubes = omega (arith, long, c.self.invariant.some_cubes);
      few_cubes = omega (arith, long, c.self.invariant.few_cubes);
      cubes = All-set IsCube c.self.inside.cubes.items c.from.result c.perform-answer.new.self c.invariant.ensures c.self.invariant.cubes;
    }
