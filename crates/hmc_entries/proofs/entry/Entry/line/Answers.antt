-- The text was empty, so it is the line.
use Rattle.hmc_entries.specs.Lines.{line_of}
use Rattle.hmc_entries.proofs.OwnLine.{whole, short}
use Rattle.hmc_entries.proofs.entry.Entry.line.Goals as goal

pub returns-in-Gave-clause-text : goal.returns-in-Gave-clause-text
unfolding line_of
returns-in-Gave-clause-text c = rw c.in-Gave.is (whole _ _ _ c.requires.empty c.gave_line.ensures.text)

pub returns-in-Gave-clause-short : goal.returns-in-Gave-clause-short
unfolding line_of
returns-in-Gave-clause-short c = rw c.in-Gave.is (short _ _ _ c.requires.empty c.gave_line.ensures.text c.gave_line.ensures.short)

pub returns-in-Sent-clause-text : goal.returns-in-Sent-clause-text
unfolding line_of
returns-in-Sent-clause-text c = rw c.in-Sent.is (whole _ _ _ c.requires.empty c.sent_line.ensures.text)

pub returns-in-Sent-clause-short : goal.returns-in-Sent-clause-short
unfolding line_of
returns-in-Sent-clause-short c = rw c.in-Sent.is (short _ _ _ c.requires.empty c.sent_line.ensures.text c.sent_line.ensures.short)

pub returns-in-Landed-clause-text : goal.returns-in-Landed-clause-text
unfolding line_of
returns-in-Landed-clause-text c = rw c.in-Landed.is (whole _ _ _ c.requires.empty c.landed_line.ensures.text)

pub returns-in-Landed-clause-short : goal.returns-in-Landed-clause-short
unfolding line_of
returns-in-Landed-clause-short c = rw c.in-Landed.is (short _ _ _ c.requires.empty c.landed_line.ensures.text c.landed_line.ensures.short)

pub returns-in-Shifted-clause-text : goal.returns-in-Shifted-clause-text
unfolding line_of
returns-in-Shifted-clause-text c = rw c.in-Shifted.is (whole _ _ _ c.requires.empty c.shifted_line.ensures.text)

pub returns-in-Shifted-clause-short : goal.returns-in-Shifted-clause-short
unfolding line_of
returns-in-Shifted-clause-short c = rw c.in-Shifted.is (short _ _ _ c.requires.empty c.shifted_line.ensures.text c.shifted_line.ensures.short)

pub returns-in-Dropped-clause-text : goal.returns-in-Dropped-clause-text
unfolding line_of
returns-in-Dropped-clause-text c = rw c.in-Dropped.is (whole _ _ _ c.requires.empty c.dropped_line.ensures.text)

pub returns-in-Dropped-clause-short : goal.returns-in-Dropped-clause-short
unfolding line_of
returns-in-Dropped-clause-short c = rw c.in-Dropped.is (short _ _ _ c.requires.empty c.dropped_line.ensures.text c.dropped_line.ensures.short)

pub returns-in-Spread-clause-text : goal.returns-in-Spread-clause-text
unfolding line_of
returns-in-Spread-clause-text c = rw c.in-Spread.is (whole _ _ _ c.requires.empty c.spread_line.ensures.text)

pub returns-in-Spread-clause-short : goal.returns-in-Spread-clause-short
unfolding line_of
returns-in-Spread-clause-short c = rw c.in-Spread.is (short _ _ _ c.requires.empty c.spread_line.ensures.text c.spread_line.ensures.short)

pub returns-in-Executed-clause-text : goal.returns-in-Executed-clause-text
unfolding line_of
returns-in-Executed-clause-text c = rw c.in-Executed.is (whole _ _ _ c.requires.empty c.executed_line.ensures.text)

pub returns-in-Executed-clause-short : goal.returns-in-Executed-clause-short
unfolding line_of
returns-in-Executed-clause-short c = rw c.in-Executed.is (short _ _ _ c.requires.empty c.executed_line.ensures.text c.executed_line.ensures.short)

pub returns-in-Lifted-clause-text : goal.returns-in-Lifted-clause-text
unfolding line_of
returns-in-Lifted-clause-text c = rw c.in-Lifted.is (whole _ _ _ c.requires.empty c.lifted_line.ensures.text)

pub returns-in-Lifted-clause-short : goal.returns-in-Lifted-clause-short
unfolding line_of
returns-in-Lifted-clause-short c = rw c.in-Lifted.is (short _ _ _ c.requires.empty c.lifted_line.ensures.text c.lifted_line.ensures.short)

pub returns-in-Took-clause-text : goal.returns-in-Took-clause-text
unfolding line_of
returns-in-Took-clause-text c = rw c.in-Took.is (whole _ _ _ c.requires.empty c.took_line.ensures.text)

pub returns-in-Took-clause-short : goal.returns-in-Took-clause-short
unfolding line_of
returns-in-Took-clause-short c = rw c.in-Took.is (short _ _ _ c.requires.empty c.took_line.ensures.text c.took_line.ensures.short)

pub returns-in-Discarded-clause-text : goal.returns-in-Discarded-clause-text
unfolding line_of
returns-in-Discarded-clause-text c = rw c.in-Discarded.is (whole _ _ _ c.requires.empty c.discarded_line.ensures.text)

pub returns-in-Discarded-clause-short : goal.returns-in-Discarded-clause-short
unfolding line_of
returns-in-Discarded-clause-short c = rw c.in-Discarded.is (short _ _ _ c.requires.empty c.discarded_line.ensures.text c.discarded_line.ensures.short)

pub returns-in-Through-clause-text : goal.returns-in-Through-clause-text
unfolding line_of
returns-in-Through-clause-text c = rw c.in-Through.is (whole _ _ _ c.requires.empty c.through_line.ensures.text)

pub returns-in-Through-clause-short : goal.returns-in-Through-clause-short
unfolding line_of
returns-in-Through-clause-short c = rw c.in-Through.is (short _ _ _ c.requires.empty c.through_line.ensures.text c.through_line.ensures.short)

pub returns-in-Unlocked-clause-text : goal.returns-in-Unlocked-clause-text
unfolding line_of
returns-in-Unlocked-clause-text c = rw c.in-Unlocked.is (whole _ _ _ c.requires.empty c.unlocked_line.ensures.text)

pub returns-in-Unlocked-clause-short : goal.returns-in-Unlocked-clause-short
unfolding line_of
returns-in-Unlocked-clause-short c = rw c.in-Unlocked.is (short _ _ _ c.requires.empty c.unlocked_line.ensures.text c.unlocked_line.ensures.short)

pub returns-in-Retired-clause-text : goal.returns-in-Retired-clause-text
unfolding line_of
returns-in-Retired-clause-text c = rw c.in-Retired.is (whole _ _ _ c.requires.empty c.retired_line.ensures.text)

pub returns-in-Retired-clause-short : goal.returns-in-Retired-clause-short
unfolding line_of
returns-in-Retired-clause-short c = rw c.in-Retired.is (short _ _ _ c.requires.empty c.retired_line.ensures.text c.retired_line.ensures.short)

pub returns-in-Passed-clause-text : goal.returns-in-Passed-clause-text
unfolding line_of
returns-in-Passed-clause-text c = rw c.in-Passed.is (whole _ _ _ c.requires.empty c.passed_line.ensures.text)

pub returns-in-Passed-clause-short : goal.returns-in-Passed-clause-short
unfolding line_of
returns-in-Passed-clause-short c = rw c.in-Passed.is (short _ _ _ c.requires.empty c.passed_line.ensures.text c.passed_line.ensures.short)
