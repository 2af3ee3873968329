-- Each packet costs a queue 1.
use Rattle.std.proofs.Common.{sym, ◌∙◌}
use Rattle.hmc_codes.specs.Commands.{is_posted}
use Rattle.hmc_tokens.specs.Queue.{packets_of, size_of}
use Rattle.hmc_vault.proofs.ExecuteLemmas.{waits}
use Rattle.hmc_vault.proofs.execute.command_waits.Goals as goal

pub returns-then-not-posted : goal.returns-then-not-posted
returns-then-not-posted c =
    waits (packets_of c.args.answers.now) c.size.result c.used.result (size_of c.args.answers.now) (is_posted c.args.command)
    (sym c.posted.ensures ∙ (cc)) c.size.ensures c.used.ensures
