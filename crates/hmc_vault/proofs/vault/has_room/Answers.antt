-- Each packet costs a queue 1.
use Rattle.std.proofs.Common.{◌∙◌, ap}
use Rattle.std.specs.Prelude.{nat_lt, length}
use Rattle.hmc_tokens.specs.Queue.{packets_of, all_cost_one}
use Rattle.hmc_vault.proofs.vault.has_room.Goals as goal

pub returns : goal.returns
returns c =
    ap (λ n. nat_lt n c.size.result) (c.used.ensures ∙ all_cost_one (packets_of c.args.queue.now))
    ∙ ap (nat_lt (length (packets_of c.args.queue.now))) c.size.ensures
