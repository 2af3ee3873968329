-- The numbers passed the tests.
use Rattle.std.proofs.Common.{◌≡◌, ◌∙◌, true, sym, ap}
use Rattle.hmc_codes.specs.Commands.{layout_of}
use Rattle.hmc_codes.specs.declared.layout.Layout.{Layout}
use Rattle.hmc_codec.specs.Plain.{is_filled, is_in_range, is_laid_out}
use Rattle.hmc_codec.proofs.Packets.{packet_is, three}
use Rattle.hmc_codec.proofs.spelling.packet_with.Goals as goal

pub invariant_of-result : goal.invariant_of-result
invariant_of-result c =
    let plain = c.args.plain.now in
    let command = c.args.command in
    let payload = c.args.payload.now in
    let range : is_in_range plain ≡ true = sym c.is_in_range.ensures ∙ c.if-not-is_in_range.false in
    let laid : is_laid_out (layout_of command) plain ≡ true =
    ap (λ (layout : Layout). is_laid_out layout plain) (sym c.layout.ensures)
    ∙ sym c.is_laid_out.ensures ∙ c.if-not-is_laid_out.false in
    let filled : is_filled command payload ≡ true = sym c.is_filled.ensures ∙ c.if-not-is_filled.false in
    packet_is plain command payload c.as_slice.ensures.are_bytes
    (three (is_in_range plain) (is_laid_out (layout_of command) plain) (is_filled command payload) range laid filled)
