-- What an execution did, by the parts of the place that it is written into.
use Rattle.hmc_codes.specs.Request.{RequestFields}
use Rattle.hmc_codes.specs.declared.answer.Answer.{Answer}
use Rattle.hmc_vault.specs.declared.execute.Executed.{Executed}
use Rattle.hmc_vault.specs.declared.execute.Executed.TheVariants.{Empty, Full, Ran}
use Rattle.hmc_vault.specs.declared.execution.ExecutionKind.{ExecutionKind}
use Rattle.hmc_vault.specs.declared.execution.ExecutionKind.TheVariants as kinds

abbrev pub executed_of : ExecutionKind → RequestFields → Answer → Executed
executed_of kinds.Empty request answer = Empty
executed_of kinds.Full request answer = Full
executed_of (kinds.Ran host tag) request answer = Ran host tag request answer

-- what was done, without the request and the answer
abbrev pub kind_of : Executed → ExecutionKind
kind_of Empty = kinds.Empty
kind_of Full = kinds.Full
kind_of (Ran host tag request answer) = kinds.Ran host tag
