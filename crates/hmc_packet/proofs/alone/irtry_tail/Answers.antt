use Rattle.std.proofs.Common.{◌∙◌, ap, ℕ}
use Rattle.hmc_codes.specs.Table.{table_line}
use Rattle.hmc_codes.specs.declared.layout.Layout.TheVariants as layouts
use Rattle.hmc_packet.specs.Draft.{tail_of_packet}
use Rattle.hmc_packet.specs.Spelling.{half_bytes}
use Rattle.hmc_packet.specs.Tail.{tail_word}
use Rattle.hmc_packet.proofs.alone.irtry_tail.Goals as goal

pub returns : goal.returns
unfolding tail_of_packet table_line
returns c =
    ap half_bytes (c.pack.ensures ∙ ap (λ (n : ℕ). tail_word c.args.profile layouts.Irtry (record { rrp = c.args.rrp; frp = n; seq = 0; slid = 0; errstat = 0; rtc = 0 })) c.pointer.ensures)
