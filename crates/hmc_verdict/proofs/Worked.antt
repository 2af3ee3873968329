-- Definitions computed: the line that is due for the first fault of a case and a log.
use Rattle.std.proofs.Common.{◌≡◌, [], ◌∷◌, codes, refl}
use Rattle.std.specs.Fmt.{digits}
use Rattle.hmc_case.specs.declared.fault.CaseKind.TheVariants as case_kinds
use Rattle.hmc_case.specs.declared.fault.Section.TheVariants as sections
use Rattle.hmc_case.specs.Line.{bad_line as case_line}
use Rattle.hmc_codes.specs.Text.{line}
use Rattle.hmc_log.specs.Fault.{bad_line as log_line, no_text_line}
use Rattle.hmc_log.specs.declared.fault.LogKind.TheVariants as log_kinds
use Rattle.hmc_verdict.specs.Subject.{line_due}
use Rattle.hmc_verdict.specs.declared.fault.SubjectFault.TheVariants as faults

-- each fault has its own line, and none is due where memory ran out
lines_due :
    line_due faults.Memory ∷ line_due (faults.Case sections.Net 0 case_kinds.Capacity) ∷
    line_due faults.NoText ∷ line_due (faults.Log 3 log_kinds.Tag) ∷ [] ≡
    [] ∷ line (codes "bad" ∷ codes "net" ∷ codes "0" ∷ codes "capacity" ∷ []) ∷
    line (codes "bad" ∷ codes "log" ∷ codes "0" ∷ codes "text" ∷ []) ∷
    line (codes "bad" ∷ codes "log" ∷ codes "3" ∷ codes "tag" ∷ []) ∷ []
unfolding case_line log_line no_text_line digits
lines_due = refl
