-- Rounds are those at their place.
use Rattle.std.proofs.Common.{◌∙◌, ◌<◌, ◌-◌, List, length, slice_get, subst, ap}
use Rattle.hmc_schedule.specs.declared.step.Step.{Step}
use Rattle.hmc_schedule.proofs.HeldLemmas.{held_rounds, held_within}
use Rattle.hmc_schedule.proofs.written.step_of.Goals as goal

pub bounds-many-place : goal.bounds-many-place
bounds-many-place c =
    held_within c.args.kept.now c.args.many.now c.args.segment.held c.in-Many.place c.in-Many.is c.requires.held

pub step_of_rounds-requires-clause-rounds : goal.step_of_rounds-requires-clause-rounds
step_of_rounds-requires-clause-rounds c =
    (held_rounds c.args.kept.now c.args.many.now c.args.segment.held c.in-Many.place _ c.in-Many.is c.requires.held).are

pub step_of_rounds-requires-clause-inside : goal.step_of_rounds-requires-clause-inside
step_of_rounds-requires-clause-inside c =
    subst (λ (l : List Step). c.args.at - c.args.segment.start < length l)
    (held_rounds c.args.kept.now c.args.many.now c.args.segment.held c.in-Many.place _ c.in-Many.is c.requires.held).steps c.requires.inside

pub returns-in-Many : goal.returns-in-Many
returns-in-Many c =
    ap (λ (l : List Step). slice_get l (c.args.at - c.args.segment.start))
    (held_rounds c.args.kept.now c.args.many.now c.args.segment.held c.in-Many.place _ c.in-Many.is c.requires.held).steps
    ∙ c.step_of_rounds.ensures
