use Rattle.std.proofs.Common.{◌∙◌, sym, ℕ, List}
use Rattle.std.specs.Borrow.{Bor}
use Rattle.hmc_script.proofs.PayloadLemmas.{payload_len_of-le, payload_of_another, payload_of_mdwr}
use Rattle.hmc_script.proofs.payload.operand.Goals as goal

pub hex_bytes-requires : goal.hex_bytes-requires
hex_bytes-requires c = rw c.payload_len.ensures (payload_len_of-le c.args.command)

pub returns-then-is_mdwr-clause-fits : goal.returns-then-is_mdwr-clause-fits
returns-then-is_mdwr-clause-fits c =
    payload_of_mdwr (λ (p : Bor (List ℕ)). p.now) c.args.command c.value_payload.result (c.is_mdwr.ensures.only c.if-is_mdwr.true) c.value_payload.ensures.fits

pub returns-else-is_mdwr-clause-fits : goal.returns-else-is_mdwr-clause-fits
returns-else-is_mdwr-clause-fits c =
    payload_of_another (λ (p : Bor (List ℕ)). p.now) c.args.command c.hex_bytes.result (sym c.is_mdwr.ensures.value ∙ c.if-is_mdwr.false) (rw c.payload_len.ensures at c.hex_bytes.ensures.length) c.hex_bytes.ensures.bytes
