use Rattle.std.proofs.Common.{◌≡◌, ◌∙◌, ℕ, ◌<◌, false, ap, sym, subst}
use Rattle.hmc_packet.specs.declared.feed.Feed.TheVariants.{Waiting}
use Rattle.hmc_tokens.specs.Account.{code_for}
use Rattle.hmc_tokens.specs.declared.account.Account.{Account}
use Rattle.hmc_send.specs.Choice.{may_take}
use Rattle.hmc_send.specs.Given.{given_of}
use Rattle.hmc_send.specs.Sender.{view_held}
use Rattle.hmc_send.proofs.FirstLemmas.{takes-front, takes-none, first-new, first-tret, first-closed, first-none}
use Rattle.hmc_send.proofs.state.State.first_time.Goals.{then-self+else-may_return, in-Some+else-may_begin, in_default, else-self}
use Rattle.hmc_send.proofs.KeptLemmas.{code-few}
use Rattle.hmc_send.proofs.state.State.first_time.Goals as goal

pub begin_new-flit-requires-clause-rtc : goal.begin_new-flit-requires-clause-rtc
begin_new-flit-requires-clause-rtc g c = subst (λ (n : ℕ). n < 8) (sym c.pay-rtc.ensures.code) (code-few _)

pub begin_new-flit-requires-then-may_return-clause-rtc :
    goal.begin_new-flit-requires-then-may_return-clause-rtc
begin_new-flit-requires-then-may_return-clause-rtc g c = subst (λ (n : ℕ). n < 8) (sym c.pay-rtc-then-may_return.ensures.code) (code-few _)

pub returns-then-may_begin-clause-flit : goal.returns-then-may_begin-clause-flit
returns-then-may_begin-clause-flit g c =
    let held = c.args.self.now in
    let given = given_of c.args.own (g.Q.Intake.packets c.args.queue.now) c.args.account.now Waiting in
    first-new held.profile held given c.in-Some.front.now c.pay-rtc.result c.begin_new-flit.result c.if-self.true c.in-Some.ensures (takes-front held given c.in-Some.front.now c.flits.result _ c.requires.nothing c.in-Some.ensures c.flits.ensures.value c.if-may_begin.ensures)
    (c.pay-rtc.ensures.code ∙ ap (λ (a : Account). code_for a.due) c.spend.ensures) c.begin_new-flit.ensures.flit

pub returns-then-may_return-clause-flit : goal.returns-then-may_return-clause-flit
returns-then-may_return-clause-flit g c =
    let held = c.args.self.now in
    let given = given_of c.args.own (g.Q.Intake.packets c.args.queue.now) c.args.account.now Waiting in
    let takes : may_take (view_held held given) given.front ≡ false = elim c.match-front_ref.branch [
      | in-Some+else-may_begin w ↦ takes-front held given w.in-Some.front.now w.flits.result false c.requires.nothing w.in-Some.ensures w.flits.ensures.value w.if-may_begin.ensures
      | in_default w ↦ takes-none held given w.in_default.ensures
    ] in
    first-tret held.profile held given c.tret.result c.pay-rtc-then-may_return.result c.begin_new-flit-then-may_return.result c.requires.nothing c.if-self.true takes c.if-may_return.ensures c.pay-rtc-then-may_return.ensures.code c.tret.ensures c.begin_new-flit-then-may_return.ensures.flit

pub returns-clause-flit : goal.returns-clause-flit
returns-clause-flit g c =
    let held = c.args.self.now in
    let given = given_of c.args.own (g.Q.Intake.packets c.args.queue.now) c.args.account.now Waiting in
    elim c.if-self.branch [
      | then-self+else-may_return w ↦
          let takes : may_take (view_held held given) given.front ≡ false = elim w.match-front_ref.branch [
            | in-Some+else-may_begin v ↦ takes-front held given v.in-Some.front.now v.flits.result false c.requires.nothing v.in-Some.ensures v.flits.ensures.value v.if-may_begin.ensures
            | in_default v ↦ takes-none held given v.in_default.ensures
          ] in
          first-none held.profile held given c.pointer_or_null.result c.requires.nothing w.if-self.true takes w.if-may_return.ensures c.pointer_or_null.ensures.flit
      | else-self w ↦ first-closed held.profile held given c.pointer_or_null.result w.if-self.false c.pointer_or_null.ensures.flit
    ]
