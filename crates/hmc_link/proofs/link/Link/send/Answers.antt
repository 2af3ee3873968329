use Rattle.std.proofs.Common.{refl, ◌≡◌, ◌∙◌, sym, ap, subst}
use Rattle.hmc_link.proofs.Numbers.{numbers-kept}
use Rattle.hmc_send.specs.IsSender.{IsFed}
use Rattle.hmc_send.specs.Choice.{choice}
use Rattle.hmc_send.specs.LinkCalls.{LinkCall, is_full, view_in}
use Rattle.hmc_send.specs.declared.toward.Toward.{Toward}
use Rattle.hmc_send.specs.declared.toward.Toward.TheVariants.{Forth, Back}
use Rattle.hmc_ends.specs.End.{EndFields}
use Rattle.hmc_link.specs.Held.{LinkHeld}
use Rattle.hmc_link.proofs.Joins.{step-forth, step-back, keep-forth, keep-back, sends-forth, sends-back}
use Rattle.hmc_ends.specs.Parts.{parts_of}
use Rattle.hmc_link.specs.StandsFor.{LinkStandsFor}
use Rattle.hmc_ends.proofs.SendNext.{send-steps, answer-is}
use Rattle.hmc_link_laws.specs.Lists.{list_after_send}
use Rattle.hmc_link_laws.proofs.CallLists.{other-list, send-list}
use Rattle.hmc_link_laws.proofs.LinkWires.{wire-is}
use Rattle.hmc_ends.specs.Answers.{after_call, link_sent}
use Rattle.hmc_link.proofs.link.Link.send.Goals as goal

pub invariant_of-self : goal.invariant_of-self
invariant_of-self g c = keep-forth (LinkCall.send Forth c.args.feed) _ _
    (send-steps Forth c.self.inside.a c.self.inside.b c.send.new.self c.args.feed c.send.result
    (subst (λ (e : EndFields). IsFed e.sender.under_way c.args.feed) (sends-forth c.args.toward _ c.args.self.now c.in-Forth.is c.self.view_is) c.requires.feed) c.feed_is_bytes.ensures c.send.ensures.answer c.send.ensures.stands)
    (numbers-kept (LinkCall.send Forth c.args.feed) _ _ refl refl refl) c.self.invariant

pub invariant_of-self-in-Back : goal.invariant_of-self-in-Back
invariant_of-self-in-Back g c = keep-back (LinkCall.send Back c.args.feed) _ _
    (send-steps Back c.self.inside.b c.self.inside.a c.send-in-Back.new.self c.args.feed c.send-in-Back.result
    (subst (λ (e : EndFields). IsFed e.sender.under_way c.args.feed) (sends-back c.args.toward _ c.args.self.now c.in-Back.is c.self.view_is) c.requires.feed) c.feed_is_bytes.ensures c.send-in-Back.ensures.answer c.send-in-Back.ensures.stands)
    (numbers-kept (LinkCall.send Back c.args.feed) _ _ refl refl refl) c.self.invariant

pub returns-in-Forth-clause-answer : goal.returns-in-Forth-clause-answer
returns-in-Forth-clause-answer g c link past s =
    let old = subst (λ (h : LinkHeld). LinkStandsFor link h past) (sym c.self.view_is) s in
    subst (λ (d : Toward). c.send.result ≡ link_sent (is_full link d past) (choice link.profile (view_in link d past c.args.feed))) (sym c.in-Forth.is)
    (c.send.ensures.answer link (parts_of link Forth past) old.a ∙ answer-is link Forth past c.args.feed)

pub returns-in-Back-clause-answer : goal.returns-in-Back-clause-answer
returns-in-Back-clause-answer g c link past s =
    let old = subst (λ (h : LinkHeld). LinkStandsFor link h past) (sym c.self.view_is) s in
    subst (λ (d : Toward). c.send-in-Back.result ≡ link_sent (is_full link d past) (choice link.profile (view_in link d past c.args.feed))) (sym c.in-Back.is)
    (c.send-in-Back.ensures.answer link (parts_of link Back past) old.b ∙ answer-is link Back past c.args.feed)

pub returns-in-Forth-clause-stands : goal.returns-in-Forth-clause-stands
returns-in-Forth-clause-stands g c = step-forth (λ (d : Toward). LinkCall.send d c.args.feed) c.args.toward c.args.self.now _ _ c.in-Forth.is c.self.view_is
    (send-steps Forth c.self.inside.a c.self.inside.b c.send.new.self c.args.feed c.send.result
    (subst (λ (e : EndFields). IsFed e.sender.under_way c.args.feed) (sends-forth c.args.toward _ c.args.self.now c.in-Forth.is c.self.view_is) c.requires.feed) c.feed_is_bytes.ensures c.send.ensures.answer c.send.ensures.stands)
    (numbers-kept (LinkCall.send Forth c.args.feed) _ _ refl refl refl)

pub returns-in-Back-clause-stands : goal.returns-in-Back-clause-stands
returns-in-Back-clause-stands g c = step-back (λ (d : Toward). LinkCall.send d c.args.feed) c.args.toward c.args.self.now _ _ c.in-Back.is c.self.view_is
    (send-steps Back c.self.inside.b c.self.inside.a c.send-in-Back.new.self c.args.feed c.send-in-Back.result
    (subst (λ (e : EndFields). IsFed e.sender.under_way c.args.feed) (sends-back c.args.toward _ c.args.self.now c.in-Back.is c.self.view_is) c.requires.feed) c.feed_is_bytes.ensures c.send-in-Back.ensures.answer c.send-in-Back.ensures.stands)
    (numbers-kept (LinkCall.send Back c.args.feed) _ _ refl refl refl)

pub returns-in-Forth-clause-idle : goal.returns-in-Forth-clause-idle
returns-in-Forth-clause-idle g c none =
    ap (λ (e : EndFields). record { a = e; b = c.self.inside.b; going = c.self.inside.going; forth = c.self.inside.forth; back = c.self.inside.back }) (c.send.ensures.idle none) ∙ c.self.view_is

pub returns-in-Back-clause-idle : goal.returns-in-Back-clause-idle
returns-in-Back-clause-idle g c none =
    ap (λ (e : EndFields). record { a = c.self.inside.a; b = e; going = c.self.inside.going; forth = c.self.inside.forth; back = c.self.inside.back }) (c.send-in-Back.ensures.idle none) ∙ c.self.view_is

pub returns-in-Forth-clause-list : goal.returns-in-Forth-clause-list
returns-in-Forth-clause-list g c link past s =
    send-list link c.args.toward past c.args.feed (returns-in-Forth-clause-stands g c link past s).kept
    ∙ ap (list_after_send link c.args.toward past c.args.feed) (sym (returns-in-Forth-clause-answer g c link past s))

pub returns-in-Forth-clause-other : goal.returns-in-Forth-clause-other
returns-in-Forth-clause-other g c link past s = other-list link past (LinkCall.send c.args.toward c.args.feed)

pub returns-in-Back-clause-list : goal.returns-in-Back-clause-list
returns-in-Back-clause-list g c link past s =
    send-list link c.args.toward past c.args.feed (returns-in-Back-clause-stands g c link past s).kept
    ∙ ap (list_after_send link c.args.toward past c.args.feed) (sym (returns-in-Back-clause-answer g c link past s))

pub returns-in-Back-clause-other : goal.returns-in-Back-clause-other
returns-in-Back-clause-other g c link past s = other-list link past (LinkCall.send c.args.toward c.args.feed)

pub returns-in-Forth-clause-whole : goal.returns-in-Forth-clause-whole
returns-in-Forth-clause-whole g c link past s =
    wire-is link c.args.toward (after_call link past (LinkCall.send c.args.toward c.args.feed)) (returns-in-Forth-clause-stands g c link past s).kept

pub returns-in-Back-clause-whole : goal.returns-in-Back-clause-whole
returns-in-Back-clause-whole g c link past s =
    wire-is link c.args.toward (after_call link past (LinkCall.send c.args.toward c.args.feed)) (returns-in-Back-clause-stands g c link past s).kept
