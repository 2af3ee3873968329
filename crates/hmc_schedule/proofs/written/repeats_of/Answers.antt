-- Rounds are those at their place.
use Rattle.std.proofs.Common.{◌<◌, ◌-◌, List, length, subst, sym}
use Rattle.hmc_schedule.specs.declared.step.Step.{Step}
use Rattle.hmc_schedule.specs.StepsLeft.{HoldRepeats}
use Rattle.hmc_schedule.proofs.HeldLemmas.{held_rounds, held_within}
use Rattle.hmc_schedule.proofs.written.repeats_of.Goals as goal

pub bounds-many-place : goal.bounds-many-place
bounds-many-place c =
    held_within c.args.kept.now c.args.many.now c.args.segment.held c.in-Many.place c.in-Many.is c.requires.held

pub repeats_of_rounds-requires-clause-rounds : goal.repeats_of_rounds-requires-clause-rounds
repeats_of_rounds-requires-clause-rounds c =
    (held_rounds c.args.kept.now c.args.many.now c.args.segment.held c.in-Many.place _ c.in-Many.is c.requires.held).are

pub repeats_of_rounds-requires-clause-inside : goal.repeats_of_rounds-requires-clause-inside
repeats_of_rounds-requires-clause-inside c =
    subst (λ (l : List Step). c.args.at - c.args.segment.start < length l)
    (held_rounds c.args.kept.now c.args.many.now c.args.segment.held c.in-Many.place _ c.in-Many.is c.requires.held).steps c.requires.inside

pub returns-in-Many-clause-hold : goal.returns-in-Many-clause-hold
returns-in-Many-clause-hold c some =
    subst (λ (l : List Step). HoldRepeats l c.args.kept.now (c.args.at - c.args.segment.start) c.repeats_of_rounds.result)
    (sym (held_rounds c.args.kept.now c.args.many.now c.args.segment.held c.in-Many.place _ c.in-Many.is c.requires.held).steps) (c.repeats_of_rounds.ensures.hold some)
