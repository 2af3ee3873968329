-- The line that was written is that of the fault.
use Rattle.std.proofs.Common.{◌≡◌, ◌∙◌, ap, IfSome, Err, subst}
use Rattle.hmc_case.specs.Case.{case_of}
use Rattle.hmc_case.specs.Reading.{fault_of}
use Rattle.hmc_case.specs.declared.fault.CaseFault.{CaseFault}
use Rattle.hmc_replay.proofs.Answering.{refused_with, same_fault}
use Rattle.hmc_replay.proofs.run.read_case.Goals as goal

pub returns-in-Err-Bad : goal.returns-in-Err-Bad
returns-in-Err-Bad g c =
    let exact = subst (λ (told : CaseFault). IfSome (fault_of told)
    (λ fault. case_of c.args.input.now ≡ Err fault)) c.in-Err-Bad.field-0-is
    c.in-Err-Bad.ensures.exact in
    refused_with g.O.Sink.shows c.args.sink.now c.refuse.new.sink c.args.input.now _
    (Err c.refuse.result)
    (exact ∙ ap Err
    (same_fault _ _ _ _ _ _ c.in-Err-Bad.section-is c.in-Err-Bad.line-is c.in-Err-Bad.kind-is))
    c.refuse.ensures
