-- Rounds are those at their place.
use Rattle.std.proofs.Common.{◌∙◌, sym}
use Rattle.hmc_schedule.proofs.HeldLemmas.{held_rounds, held_within}
use Rattle.hmc_schedule.proofs.rounds_left.line_of.Goals as goal

pub bounds-many-place : goal.bounds-many-place
bounds-many-place c =
    held_within c.args.kept.now c.args.many.now c.args.held.now c.in-Many.place c.in-Many.is c.requires

pub line_of_rounds-requires : goal.line_of_rounds-requires
line_of_rounds-requires c =
    (held_rounds c.args.kept.now c.args.many.now c.args.held.now c.in-Many.place _ c.in-Many.is c.requires).are

pub returns-in-Many-clause-steps : goal.returns-in-Many-clause-steps
returns-in-Many-clause-steps c =
    c.line_of_rounds.ensures.steps ∙ sym (held_rounds c.args.kept.now c.args.many.now c.args.held.now c.in-Many.place _ c.in-Many.is c.requires).steps
