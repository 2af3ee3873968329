-- Kinds of steps with more numbers than one have readers of their own.
use Rattle.hmc_schedule.specs.Meaning.{step_of}
use Rattle.hmc_schedule.proofs.meaning.step.Goals as goal

pub returns-in-Land-clause-value : goal.returns-in-Land-clause-value
unfolding step_of
returns-in-Land-clause-value c = rw c.in-Land.is c.land.ensures.value

pub returns-in-Land-clause-within : goal.returns-in-Land-clause-within
returns-in-Land-clause-within c = c.land.ensures.within

pub returns-in-Land-clause-mask : goal.returns-in-Land-clause-mask
returns-in-Land-clause-mask c = c.land.ensures.mask

pub returns-in-Shift-clause-value : goal.returns-in-Shift-clause-value
unfolding step_of
returns-in-Shift-clause-value c = rw c.in-Shift.is c.shift.ensures.value

pub returns-in-Shift-clause-within : goal.returns-in-Shift-clause-within
returns-in-Shift-clause-within c = c.shift.ensures.within

pub returns-in-Shift-clause-mask : goal.returns-in-Shift-clause-mask
returns-in-Shift-clause-mask c = c.shift.ensures.mask

pub returns-in-Spread-clause-value : goal.returns-in-Spread-clause-value
unfolding step_of
returns-in-Spread-clause-value c = rw c.in-Spread.is c.spread.ensures.value

pub returns-in-Spread-clause-within : goal.returns-in-Spread-clause-within
returns-in-Spread-clause-within c = c.spread.ensures.within

pub returns-in-Spread-clause-mask : goal.returns-in-Spread-clause-mask
returns-in-Spread-clause-mask c = c.spread.ensures.mask

pub returns-in-Bank-clause-value : goal.returns-in-Bank-clause-value
unfolding step_of
returns-in-Bank-clause-value c = rw c.in-Bank.is c.bank.ensures.value

pub returns-in-Bank-clause-within : goal.returns-in-Bank-clause-within
returns-in-Bank-clause-within c = c.bank.ensures.within

pub returns-in-Bank-clause-mask : goal.returns-in-Bank-clause-mask
returns-in-Bank-clause-mask c = c.bank.ensures.mask

pub returns-in-Lift-clause-value : goal.returns-in-Lift-clause-value
unfolding step_of
returns-in-Lift-clause-value c = rw c.in-Lift.is c.lift.ensures.value

pub returns-in-Lift-clause-within : goal.returns-in-Lift-clause-within
returns-in-Lift-clause-within c = c.lift.ensures.within

pub returns-in-Lift-clause-mask : goal.returns-in-Lift-clause-mask
returns-in-Lift-clause-mask c = c.lift.ensures.mask

pub returns-in-Through-clause-value : goal.returns-in-Through-clause-value
unfolding step_of
returns-in-Through-clause-value c = rw c.in-Through.is c.through.ensures.value

pub returns-in-Through-clause-within : goal.returns-in-Through-clause-within
returns-in-Through-clause-within c = c.through.ensures.within

pub returns-in-Through-clause-mask : goal.returns-in-Through-clause-mask
returns-in-Through-clause-mask c = c.through.ensures.mask
