use Rattle.std.proofs.Common.{◌∙◌, sym}
use Rattle.hmc_host.proofs.WaitingLemmas.{is_left, dropped_turns, dropped_stays}
use Rattle.hmc_host.proofs.waiting.Waiting.drop_first.Goals as goal

pub returns-then-self-len : goal.returns-then-self-len
returns-then-self-len c =
    let i = c.self.inside in
    (dropped_turns i.front i.at i.back c.args.self.now _ _ c.self.invariant c.self.view_is (is_left i.front i.at i.back c.args.self.now c.self.invariant c.self.view_is c.requires) (c.if-self-len.true ∙ c.len.ensures) c.turn.ensures.front c.turn.ensures.back).1

pub returns-else-self-len : goal.returns-else-self-len
returns-else-self-len c =
    let i = c.self.inside in
    (dropped_stays i.front i.at i.back c.args.self.now c.self.invariant c.self.view_is (is_left i.front i.at i.back c.args.self.now c.self.invariant c.self.view_is c.requires) (λ same. c.if-self-len.false (same ∙ sym c.len.ensures))).1
