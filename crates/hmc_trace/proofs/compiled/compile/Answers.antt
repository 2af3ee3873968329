-- What is made in memory is the script of the trace.
use Rattle.std.proofs.Common.{subst}
use Rattle.hmc_text.specs.InTurn.{Answers}
use Rattle.hmc_trace.proofs.Promised.{performed_by}
use Rattle.hmc_trace.proofs.Simulating.{made_is_compiled}
use Rattle.hmc_trace.proofs.compiled.compile.Goals as goal

pub returns-clause-text : goal.returns-clause-text
returns-clause-text c = subst (λ read. Answers (λ compiled. compiled) c.make.result read)
    (made_is_compiled c.args.text.now) c.make.ensures

pub returns-clause-performed : goal.returns-clause-performed
returns-clause-performed c = λ trace slots read.
    performed_by c.make.result c.args.text.now trace slots
    (subst (λ r. Answers (λ compiled. compiled) c.make.result r)
    (made_is_compiled c.args.text.now) c.make.ensures) read
