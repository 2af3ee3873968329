-- One line more; or one by which they differ.
use Rattle.std.proofs.Common.{◌∙◌}
use Rattle.std.specs.List.{concat}
use Rattle.hmc_check.proofs.Following.{final_come}
use Rattle.hmc_check.proofs.checker.follow_final.Goals as goal

pub returns-in-Err-clause-follows : goal.returns-in-Err-clause-follows
returns-in-Err-clause-follows g c = λ text come.
    c.in-Err.ensures.follows text (concat c.next.new.self) (final_come text _ _ _ _ _ _ (c.lines.invariant.come text come) c.in-Some.ensures.line (c.as_bytes.ensures.value ∙ c.as_str.ensures.value))
