-- Its flits have tokens and room.
use Rattle.std.proofs.Common.{◌∙◌, ◌<◌, ◌≤◌, ◌&&◌, ℕ, Bool, ap, subst, sym}
use Rattle.std.specs.Prelude.{nat_le}
use Rattle.std.proofs.lemmas.Bool.{le-leb, lt-leb}
use Rattle.hmc_retry.specs.RetryBuffer.{room_of}
use Rattle.hmc_send.proofs.state.State.may_begin.Goals as goal

pub returns-then-from-account : goal.returns-then-from-account
returns-then-from-account c =
    let flits = c.args.flits in
    let held = c.args.account.now.held in
    (λ i. nat_le (c.from-then-from-account.ensures i) (c.room.ensures i))
    ∙ ap (λ (b : Bool). b && nat_le flits (room_of c.args.self.now.retry))
    (sym (le-leb flits held (subst (λ (n : ℕ). n ≤ held) c.from.ensures
    c.if-from-account.true)))

pub returns-else-from-account : goal.returns-else-from-account
returns-else-from-account c =
    let flits = c.args.flits in
    let held = c.args.account.now.held in
    lt-leb c.from.result held c.if-from-account.false
    ∙ ap (λ (b : Bool). b && nat_le flits (room_of c.args.self.now.retry))
    (sym (lt-leb flits held (subst (λ (n : ℕ). held < n) c.from.ensures
    c.if-from-account.false)))
