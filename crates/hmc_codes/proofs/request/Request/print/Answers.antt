use Rattle.hmc_codes.proofs.Words.{request_after}
use Rattle.hmc_codes.proofs.request.Request.print.Goals as goal

pub returns-clause-text : goal.returns-clause-text
returns-clause-text g c =
    request_after _ _ _ c.args.self.now c.push_bare.ensures.text c.push_operand.ensures.text
