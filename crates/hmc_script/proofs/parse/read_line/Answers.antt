use Rattle.hmc_script.proofs.ScriptLemmas.{after_nothing, after_fence}
use Rattle.hmc_script.proofs.parse.read_line.Goals as goal

pub returns-in-Ok-Nothing-clause-value : goal.returns-in-Ok-Nothing-clause-value
returns-in-Ok-Nothing-clause-value c =
    let states = rw c.in-Ok-Nothing.field-0-is at c.in-Ok-Nothing.ensures.value c.args.cubes in
    after_nothing c.args.hosts c.args.cubes c.args.number _ c.args.line.now states

pub returns-in-Ok-Fence-clause-value : goal.returns-in-Ok-Fence-clause-value
returns-in-Ok-Fence-clause-value c =
    let states = rw c.in-Ok-Fence.field-0-is at c.in-Ok-Fence.ensures.value c.args.cubes in
    after_fence c.args.hosts c.args.cubes c.args.number c.in-Ok-Fence.host c.from.result (record { items = c.args.script.now; fences = c.args.fences.now }) c.args.line.now states c.from.ensures
