use Rattle.std.proofs.Common.{◌∙◌, ◌≤◌, ◌-◌, ◌*◌, length, drop, sym, arith}
use Rattle.std.proofs.lemmas.List.{take-take}
use Rattle.hmc_packet.specs.Spelling.{word_bytes}
use Rattle.hmc_packet.proofs.PartLemmas.{length-word_bytes}
use Rattle.hmc_packet.proofs.DraftLemmas.{first_eight, later_eight}
use Rattle.hmc_packet.proofs.draft.eight_bytes.Goals as goal

pub returns-then-at-eq0 : goal.returns-then-at-eq0
returns-then-at-eq0 c =
    c.bytes_of_word.ensures ∙ sym (first_eight (word_bytes c.args.header) c.args.payload.now c.args.at (length-word_bytes c.args.header) c.if-at-eq0.true)

pub returns : goal.returns
returns c =
    let bytes = c.args.payload.now in
    let some : 1 ≤ c.args.at = omega (arith, c.if-at-eq0.false) in
    c.copy_from_slice.ensures.after
    ∙ take-take 8 (length bytes - 8 * (c.args.at - 1)) (drop (8 * (c.args.at - 1)) bytes) (omega (arith, c.requires))
    ∙ sym (later_eight (word_bytes c.args.header) bytes c.args.at (length-word_bytes c.args.header) some)
