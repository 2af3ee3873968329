-- Of an mdwr the value and zeros, else all bytes.
use Rattle.std.proofs.Common.{◌∙◌, arith, ap, subst}
use Rattle.hmc_codes.specs.Bytes.{IsBytes}
use Rattle.hmc_codes.specs.Commands.{payload_len_of}
use Rattle.hmc_script.proofs.PayloadLemmas.{payload_len_of-le, len_of_mdwr}
use Rattle.hmc_c.proofs.Payloads.{value_fits}
use Rattle.hmc_c.proofs.requests.payload_by.Goals as goal

pub value_of-requires : goal.value_of-requires
value_of-requires c = c.requires ∙ ap payload_len_of (c.is_mdwr.ensures.only c.if-is_mdwr.true) ∙ len_of_mdwr

pub made-requires-else-is_mdwr : goal.made-requires-else-is_mdwr
made-requires-else-is_mdwr c = omega (arith, c.requires, payload_len_of-le c.args.command)

pub returns-then-is_mdwr-clause-fits : goal.returns-then-is_mdwr-clause-fits
returns-then-is_mdwr-clause-fits c =
    value_fits c.args.command c.args.bytes.now (c.is_mdwr.ensures.only c.if-is_mdwr.true) c.requires (subst IsBytes c.value_of.ensures c.made.ensures.bytes)
