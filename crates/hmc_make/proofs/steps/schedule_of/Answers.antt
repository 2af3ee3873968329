use Rattle.std.proofs.Common.{Some}
use Rattle.hmc_make.specs.Steps.{mask}
use Rattle.hmc_make.proofs.StepsLemmas.{first_room, second_room, steps_are}
use Rattle.hmc_make.proofs.steps.schedule_of.Goals as goal

pub rounds-requires-clause-room : goal.rounds-requires-clause-room
rounds-requires-clause-room c =
    first_room c.args.cubes c.in_ok-plan.plan c.new-schedule.result c.requires.some c.requires.few c.in_ok-plan.ensures c.new-schedule.ensures

pub rounds-requires-2-clause-room : goal.rounds-requires-2-clause-room
rounds-requires-2-clause-room c =
    second_room c.args.cubes c.in_ok-plan.plan c.new-schedule.result c.rounds.new.self (Some (record { every = 2003; mask = mask; count = 0 })) c.requires.some c.requires.few c.in_ok-plan.ensures c.new-schedule.ensures c.in_ok-rounds.ensures.ok

pub returns-clause-steps : goal.returns-clause-steps
returns-clause-steps c =
    steps_are c.in_ok-plan.plan _ c.new-schedule.result c.rounds.new.self c.rounds-2.new.self c.in_ok-plan.ensures c.new-schedule.ensures c.in_ok-rounds.ensures.ok c.in_ok-rounds-2.ensures.ok
