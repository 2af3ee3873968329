use Rattle.std.proofs.Common.{refl}
use Rattle.hmc_link_laws.proofs.Choosing.{code-least, code-is_due, code-most}
use Rattle.hmc_link_laws.proofs.sends.one_code_returns_most.Goals as goal

pub returns-clause-code : goal.returns-clause-code
returns-clause-code c = λ profile s packet. refl

pub returns-clause-least : goal.returns-clause-least
returns-clause-least c = code-least

pub returns-clause-is_due : goal.returns-clause-is_due
returns-clause-is_due c = code-is_due

pub returns-clause-greatest : goal.returns-clause-greatest
returns-clause-greatest c = code-most
