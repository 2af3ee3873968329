use Rattle.std.proofs.Common.{sym}
use Rattle.hmc_host.proofs.GiveLemmas.{says_hindrance}
use Rattle.hmc_host.proofs.host.Host.hindrance.Goals as goal

pub returns : goal.returns
returns c =
    rw (← c.self.view_is, c.hindrance_by.ensures, c.outline.ensures) (sym (says_hindrance _ c.args.room))
