-- What is gathered is what the report goes on with, or the report differs.
use Rattle.std.proofs.Common.{◌∙◌}
use Rattle.hmc_check.proofs.Following.{text_come}
use Rattle.hmc_check.proofs.checker.compare_text.Goals as goal

pub returns-in-Ok-clause-follows : goal.returns-in-Ok-clause-follows
returns-in-Ok-clause-follows c = λ text later come.
    c.in-Ok.ensures.follows text later (text_come _ _ _ _ _ later come (c.as_bytes.ensures.value ∙ c.as_str.ensures.value))

pub returns-in-Err-clause-follows : goal.returns-in-Err-clause-follows
returns-in-Err-clause-follows c = λ text later come.
    c.in-Err.ensures.follows text later (text_come _ _ _ _ _ later come (c.as_bytes.ensures.value ∙ c.as_str.ensures.value))
