use Rattle.std.proofs.Common.{◌∙◌, sym, ℕ, List}
use Rattle.std.specs.Borrow.{Bor}
use Rattle.hmc_script.proofs.PayloadLemmas.{empty_fits}
use Rattle.hmc_script.proofs.payload.payload_word.Goals as goal

pub returns-then-payload_len-eq0-clause-fits : goal.returns-then-payload_len-eq0-clause-fits
returns-then-payload_len-eq0-clause-fits c =
    empty_fits (λ (p : Bor (List ℕ)). p.now) c.args.command c.no_payload.result (sym c.payload_len.ensures ∙ c.if-payload_len-eq0.true) c.no_payload.ensures.empty
