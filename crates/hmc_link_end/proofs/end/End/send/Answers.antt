use Rattle.std.proofs.Common.{◌∙◌, Bool, ap, sym}
use Rattle.hmc_send.specs.Choice.{choice}
use Rattle.hmc_ends.specs.Answers.{link_sent}
use Rattle.hmc_ends.specs.Parts.{view_by}
use Rattle.hmc_ends.proofs.SendNext.{full-is}
use Rattle.hmc_link_end.proofs.end.End.send.Goals as goal

pub returns-clause-answer : goal.returns-clause-answer
returns-clause-answer g c link p s =
    let full = sym c.is_full.ensures ∙ c.if-is_full.false in
    c.send_next.ensures.answer link p s ∙ ap (λ (b : Bool). link_sent b (choice link.profile (view_by link p c.args.feed))) (sym full ∙ full-is link c.args.self.now p s)

pub returns-clause-stands : goal.returns-clause-stands
returns-clause-stands g c link d past kept s = c.send_next.ensures.stands link d past kept s

pub returns-clause-idle : goal.returns-clause-idle
returns-clause-idle g c none = c.send_next.ensures.idle none

pub returns-then-is_full-clause-answer : goal.returns-then-is_full-clause-answer
returns-then-is_full-clause-answer g c link p s =
    ap (λ (b : Bool). link_sent b (choice link.profile (view_by link p c.args.feed))) (sym c.if-is_full.true ∙ c.is_full.ensures ∙ full-is link c.args.self.now p s)

pub returns-then-is_full-clause-stands : goal.returns-then-is_full-clause-stands
returns-then-is_full-clause-stands g c link d past kept s = s
