use Rattle.std.proofs.Common.{◌∙◌, sym, ap, Some}
use Rattle.hmc_codes.specs.declared.layout.Layout.TheVariants as layouts
use Rattle.hmc_packet.specs.Irtry.{kind_of}
use Rattle.hmc_packet.specs.Tail.{tail_of, tail_is_clean}
use Rattle.hmc_packet.specs.declared.tail.Tail.{Tail}
use Rattle.hmc_packet.proofs.AloneLemmas.{irtry_in-unclean, irtry_in-unchecked, irtry_in-tail}
use Rattle.hmc_packet.proofs.alone.irtry_by_tail.Goals as goal

pub returns-then-not-is_clean : goal.returns-then-not-is_clean
returns-then-not-is_clean c =
    sym (irtry_in-unclean c.args.profile c.args.flit.now c.requires (ap (tail_is_clean c.args.profile layouts.Irtry) (sym c.tail_in-word.ensures) ∙ sym c.if-not-is_clean.ensures))

pub returns-then-not-is_checked : goal.returns-then-not-is_checked
returns-then-not-is_checked c =
    sym (irtry_in-unchecked c.args.profile c.args.flit.now c.requires (ap (tail_is_clean c.args.profile layouts.Irtry) (sym c.tail_in-word.ensures) ∙ sym c.if-not-is_clean.ensures) (sym c.if-not-is_checked.ensures))

pub returns : goal.returns
returns c =
    let tail = c.unpack-tail.ensures ∙ ap (tail_of c.args.profile layouts.Irtry) c.tail_in-word.ensures in
    let kind = c.of_pointer.ensures ∙ ap (λ (t : Tail). kind_of t.frp) tail in
    (λ i. Some (kind i, (tail i).rrp))
    ∙ sym (irtry_in-tail c.args.profile c.args.flit.now c.requires (ap (tail_is_clean c.args.profile layouts.Irtry) (sym c.tail_in-word.ensures) ∙ sym c.if-not-is_clean.ensures) (sym c.if-not-is_checked.ensures))
