-- By what they have in common.
use Rattle.hmc_check.proofs.Comparing.{line_follows, line_parts}
use Rattle.hmc_check.proofs.compare.after_line.Goals as goal

pub returns-then-common-due-clause-follows : goal.returns-then-common-due-clause-follows
returns-then-common-due-clause-follows c = λ text later come. line_parts text _ _ _ later _ _ come c.common_len-common.ensures.value c.if-common-due.true c.differs_line.ensures

pub returns-clause-follows : goal.returns-clause-follows
returns-clause-follows c = λ text later come. line_follows text _ _ _ later _ _ come c.common_len-common.ensures.value c.if-common-due.false c.split_at.ensures.back
