use Rattle.std.proofs.Common.{◌≡◌, ◌∙◌, ◌-◌}
use Rattle.hmc_tokens.specs.Account.{tokens_of_code}
use Rattle.hmc_tokens.proofs.account.Account.pay.Goals as goal

pub returns-clause-left : goal.returns-clause-left
returns-clause-left c =
    let account = c.args.self.now in
    let paid : c.from.result ≡ tokens_of_code c.rtc_for-code.result =
    c.from.ensures ∙ c.rtc_tokens.ensures in
    λ i. record account { due = account.due - paid i }
