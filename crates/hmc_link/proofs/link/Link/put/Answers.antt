use Rattle.std.proofs.Common.{◌≡◌, [], ◌∷◌, ◌++◌, refl, subst, sym}
use Rattle.hmc_ends.specs.Answers.{after_call}
use Rattle.hmc_link.specs.Held.{LinkHeld}
use Rattle.hmc_ends.specs.List.{handed_list, listed_packet}
use Rattle.hmc_link.specs.StandsFor.{LinkStandsFor}
use Rattle.hmc_link.proofs.ListCalls.{hand-list}
use Rattle.hmc_link.proofs.Numbers.{hand-numbers-forth, hand-numbers-back, hand-fits-forth, hand-fits-back}
use Rattle.hmc_send.specs.LinkCalls.{LinkCall}
use Rattle.hmc_send.specs.declared.toward.Toward.{Toward}
use Rattle.hmc_send.specs.declared.toward.Toward.TheVariants.{Forth, Back}
use Rattle.hmc_link.proofs.Calls.{hand-from}
use Rattle.hmc_link.proofs.Joins.{forth-both, back-both, step-forth, step-back, keep-forth, keep-back, sends-forth, sends-back}
use Rattle.hmc_link_laws.proofs.CallLists.{other-list}
use Rattle.hmc_link.proofs.link.Link.put.Goals as goal

pub invariant_of-self : goal.invariant_of-self
invariant_of-self g c = keep-forth (LinkCall.hand Forth c.args.packet.now) _ _
    (hand-from Forth c.args.toward c.args.self.now c.self.inside.a c.self.inside.b c.put.new.self c.args.packet.now (sends-forth c.args.toward _ c.args.self.now c.in-Forth.is c.self.view_is) c.put.ensures c.requires.room c.requires.fit c.invariant.ensures)
    (hand-numbers-forth c.args.toward c.args.self.now _ _ c.args.packet.now (sends-forth c.args.toward _ c.args.self.now c.in-Forth.is c.self.view_is) c.requires.room c.requires.fit refl refl)
    c.self.invariant

pub invariant_of-self-in-Back : goal.invariant_of-self-in-Back
invariant_of-self-in-Back g c = keep-back (LinkCall.hand Back c.args.packet.now) _ _
    (hand-from Back c.args.toward c.args.self.now c.self.inside.b c.self.inside.a c.put-in-Back.new.self c.args.packet.now (sends-back c.args.toward _ c.args.self.now c.in-Back.is c.self.view_is) c.put-in-Back.ensures c.requires.room c.requires.fit c.invariant.ensures)
    (hand-numbers-back c.args.toward c.args.self.now _ _ c.args.packet.now (sends-back c.args.toward _ c.args.self.now c.in-Back.is c.self.view_is) c.requires.room c.requires.fit refl refl)
    c.self.invariant

pub returns-in-Forth-clause-stands : goal.returns-in-Forth-clause-stands
returns-in-Forth-clause-stands g c = step-forth (λ (d : Toward). LinkCall.hand d c.args.packet.now) c.args.toward c.args.self.now _ _ c.in-Forth.is c.self.view_is
    (hand-from Forth c.args.toward c.args.self.now c.self.inside.a c.self.inside.b c.put.new.self c.args.packet.now (sends-forth c.args.toward _ c.args.self.now c.in-Forth.is c.self.view_is) c.put.ensures c.requires.room c.requires.fit c.invariant.ensures)
    (hand-numbers-forth c.args.toward c.args.self.now _ _ c.args.packet.now (sends-forth c.args.toward _ c.args.self.now c.in-Forth.is c.self.view_is) c.requires.room c.requires.fit refl refl)

pub returns-in-Back-clause-stands : goal.returns-in-Back-clause-stands
returns-in-Back-clause-stands g c = step-back (λ (d : Toward). LinkCall.hand d c.args.packet.now) c.args.toward c.args.self.now _ _ c.in-Back.is c.self.view_is
    (hand-from Back c.args.toward c.args.self.now c.self.inside.b c.self.inside.a c.put-in-Back.new.self c.args.packet.now (sends-back c.args.toward _ c.args.self.now c.in-Back.is c.self.view_is) c.put-in-Back.ensures c.requires.room c.requires.fit c.invariant.ensures)
    (hand-numbers-back c.args.toward c.args.self.now _ _ c.args.packet.now (sends-back c.args.toward _ c.args.self.now c.in-Back.is c.self.view_is) c.requires.room c.requires.fit refl refl)

pub overflow_add-self : goal.overflow_add-self
overflow_add-self g c = hand-fits-forth c.args.toward c.args.self.now _ (sends-forth c.args.toward _ c.args.self.now c.in-Forth.is c.self.view_is) c.self.view_is c.self.invariant c.requires.going c.requires.room

pub overflow_add-self-in-Back : goal.overflow_add-self-in-Back
overflow_add-self-in-Back g c = hand-fits-back c.args.toward c.args.self.now _ (sends-back c.args.toward _ c.args.self.now c.in-Back.is c.self.view_is) c.self.view_is c.self.invariant c.requires.going c.requires.room

pub returns-in-Forth-clause-list : goal.returns-in-Forth-clause-list
returns-in-Forth-clause-list g c link past s =
    let old = subst (λ (h : LinkHeld). LinkStandsFor link h past) (sym c.self.view_is) s in
    subst (λ (d : Toward). handed_list link d (after_call link past (LinkCall.hand d c.args.packet.now)) ≡ handed_list link d past ++ listed_packet c.args.packet.now ∷ []) (sym c.in-Forth.is)
    (hand-list Forth c.args.toward c.args.self.now c.self.inside.a c.self.inside.b c.put.new.self c.args.packet.now (sends-forth c.args.toward _ c.args.self.now c.in-Forth.is c.self.view_is) c.requires.room c.requires.fit
    (hand-from Forth c.args.toward c.args.self.now c.self.inside.a c.self.inside.b c.put.new.self c.args.packet.now (sends-forth c.args.toward _ c.args.self.now c.in-Forth.is c.self.view_is) c.put.ensures c.requires.room c.requires.fit c.invariant.ensures)
    link past (forth-both link _ past old))

pub returns-in-Back-clause-list : goal.returns-in-Back-clause-list
returns-in-Back-clause-list g c link past s =
    let old = subst (λ (h : LinkHeld). LinkStandsFor link h past) (sym c.self.view_is) s in
    subst (λ (d : Toward). handed_list link d (after_call link past (LinkCall.hand d c.args.packet.now)) ≡ handed_list link d past ++ listed_packet c.args.packet.now ∷ []) (sym c.in-Back.is)
    (hand-list Back c.args.toward c.args.self.now c.self.inside.b c.self.inside.a c.put-in-Back.new.self c.args.packet.now (sends-back c.args.toward _ c.args.self.now c.in-Back.is c.self.view_is) c.requires.room c.requires.fit
    (hand-from Back c.args.toward c.args.self.now c.self.inside.b c.self.inside.a c.put-in-Back.new.self c.args.packet.now (sends-back c.args.toward _ c.args.self.now c.in-Back.is c.self.view_is) c.put-in-Back.ensures c.requires.room c.requires.fit c.invariant.ensures)
    link past (back-both link _ past old))

pub returns-in-Forth-clause-other : goal.returns-in-Forth-clause-other
returns-in-Forth-clause-other g c link past s = other-list link past (LinkCall.hand c.args.toward c.args.packet.now)

pub returns-in-Back-clause-other : goal.returns-in-Back-clause-other
returns-in-Back-clause-other g c link past s = other-list link past (LinkCall.hand c.args.toward c.args.packet.now)
