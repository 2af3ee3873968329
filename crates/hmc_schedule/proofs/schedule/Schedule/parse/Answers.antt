use Rattle.std.proofs.Common.{◌∙◌, sym, ap}
use Rattle.hmc_text.proofs.InTurnLemmas.{next_good}
use Rattle.hmc_schedule.proofs.NoiseLemmas.{round_lands}
use Rattle.hmc_schedule.proofs.ParseLemmas.{schedule_of-ok, first_fault}
use Rattle.hmc_schedule.specs.Plan.{PlanFields}
use Rattle.hmc_schedule.specs.Noise.{lands_of}
use Rattle.hmc_schedule.specs.Schedule.{after_line}
use Rattle.hmc_schedule.proofs.schedule.Schedule.parse.Goals as goal

pub lines-preserved : goal.lines-preserved
lines-preserved c =
    let next = next_good (after_line c.args.plan.now) c.lines.left c.next_line.new.self (c.in-Some.number, c.in-Some.line) _ _ c.in-Some.ensures c.in_default-read_line.ensures.value in
    record {
      round = rw c.in_default-read_line.ensures.kept c.lines.invariant.round;
      rest = next ∙ c.lines.invariant.rest;
      read = c.in_default-read_line.ensures.read;
    }

pub returns-in-Err-clause-exact : goal.returns-in-Err-clause-exact
returns-in-Err-clause-exact c =
    first_fault c.args.plan.now c.args.text.now c.lines.left c.next_line.new.self (c.in-Some.number, c.in-Some.line) _ c.in-Err.fault c.in-Some.ensures c.in-Err.ensures.value c.lines.invariant.rest

pub returns-clause-exact : goal.returns-clause-exact
returns-clause-exact c =
    rw c.of.ensures.steps (schedule_of-ok c.args.plan.now c.args.text.now c.lines.left _ c.in_default.ensures.0 c.lines.invariant.rest)

pub returns-clause-within : goal.returns-clause-within
returns-clause-within c = rw c.of.ensures.steps (λ k d small. (c.lines.invariant.read.works k d small).within)

pub returns-clause-masks : goal.returns-clause-masks
returns-clause-masks c = rw c.of.ensures.steps (λ k d small. (c.lines.invariant.read.works k d small).mask)

pub keep-requires : goal.keep-requires
keep-requires c =
    rw (c.deref.ensures.value, c.in_ok-steps.ensures) (round_lands c.args.plan.now ∙ ap (λ (p : PlanFields). lands_of p.directions) (sym c.plan.view_is))

pub of-requires : goal.of-requires
of-requires c = λ k d small. (c.lines.invariant.read.works k d small).mask
