use Rattle.std.proofs.Common.{◌∙◌, arith}
use Rattle.hmc_make.proofs.RequestLemmas.{length-drawn, drawn-are}
use Rattle.hmc_make.proofs.request.draw_request.Goals as goal

pub invariant_of-result : goal.invariant_of-result
invariant_of-result c =
    let payload = c.payload_of-payload.ensures ∙ c.deref.ensures.0 ∙ c.draw_bytes-bytes.ensures.bytes in
    record {
      asks = c.command_of-command.ensures.asks;
      cube = omega (arith, c.from.ensures);
      address = omega (arith, c.from-address.ensures);
      payload = length-drawn _ _ _ payload ∙ omega (arith, c.payload_len.ensures, c.command_of-command.ensures.whole);
      bytes = drawn-are _ _ _ payload;
      zeros = λ is. absurd (c.command_of-command.ensures.other is);
    }
