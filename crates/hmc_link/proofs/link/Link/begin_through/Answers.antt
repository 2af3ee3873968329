use Rattle.std.proofs.Common.{◌≡◌, [], ◌∷◌, ◌++◌, refl, subst, sym}
use Rattle.hmc_ends.specs.Answers.{after_call}
use Rattle.hmc_link.specs.Held.{LinkHeld}
use Rattle.hmc_ends.specs.List.{handed_list, listed_open}
use Rattle.hmc_link.specs.StandsFor.{LinkStandsFor}
use Rattle.hmc_link.proofs.ListCalls.{begin-list}
use Rattle.hmc_link.proofs.Numbers.{begin-numbers-forth, begin-numbers-back, begin-fits-forth, begin-fits-back}
use Rattle.hmc_send.specs.LinkCalls.{LinkCall}
use Rattle.hmc_send.specs.declared.toward.Toward.{Toward}
use Rattle.hmc_send.specs.declared.toward.Toward.TheVariants.{Forth, Back}
use Rattle.hmc_link.proofs.Joins.{forth-both, back-both, step-forth, step-back, keep-forth, keep-back, sends-forth, sends-back}
use Rattle.hmc_link.proofs.LinkThroughs.{begin-from, can-forth, can-back}
use Rattle.hmc_link_laws.proofs.CallLists.{other-list}
use Rattle.hmc_link.proofs.link.Link.begin_through.Goals as goal

pub begin_through-requires : goal.begin_through-requires
begin_through-requires g c = can-forth c.args.toward c.args.self.now _ c.args.head c.args.flits (sends-forth c.args.toward _ c.args.self.now c.in-Forth.is c.self.view_is) c.self.view_is c.self.invariant c.requires.going c.requires.ready c.requires.named

pub invariant_of-self : goal.invariant_of-self
invariant_of-self g c = keep-forth (LinkCall.begin Forth c.args.head c.args.flits) _ _
    (begin-from Forth c.args.toward c.args.self.now c.self.inside.a c.self.inside.b c.begin_through.new.self c.args.head c.args.flits (sends-forth c.args.toward _ c.args.self.now c.in-Forth.is c.self.view_is) c.flit_is_bytes.ensures c.requires.ready c.requires.named c.begin_through.ensures)
    (begin-numbers-forth c.args.toward c.args.self.now _ _ c.args.head c.args.flits (sends-forth c.args.toward _ c.args.self.now c.in-Forth.is c.self.view_is) c.requires.ready c.requires.named refl refl)
    c.self.invariant

pub returns-in-Forth-clause-stands : goal.returns-in-Forth-clause-stands
returns-in-Forth-clause-stands g c = step-forth (λ (d : Toward). LinkCall.begin d c.args.head c.args.flits) c.args.toward c.args.self.now _ _ c.in-Forth.is c.self.view_is
    (begin-from Forth c.args.toward c.args.self.now c.self.inside.a c.self.inside.b c.begin_through.new.self c.args.head c.args.flits (sends-forth c.args.toward _ c.args.self.now c.in-Forth.is c.self.view_is) c.flit_is_bytes.ensures c.requires.ready c.requires.named c.begin_through.ensures)
    (begin-numbers-forth c.args.toward c.args.self.now _ _ c.args.head c.args.flits (sends-forth c.args.toward _ c.args.self.now c.in-Forth.is c.self.view_is) c.requires.ready c.requires.named refl refl)

pub begin_through-requires-in-Back : goal.begin_through-requires-in-Back
begin_through-requires-in-Back g c = can-back c.args.toward c.args.self.now _ c.args.head c.args.flits (sends-back c.args.toward _ c.args.self.now c.in-Back.is c.self.view_is) c.self.view_is c.self.invariant c.requires.going c.requires.ready c.requires.named

pub invariant_of-self-in-Back : goal.invariant_of-self-in-Back
invariant_of-self-in-Back g c = keep-back (LinkCall.begin Back c.args.head c.args.flits) _ _
    (begin-from Back c.args.toward c.args.self.now c.self.inside.b c.self.inside.a c.begin_through-in-Back.new.self c.args.head c.args.flits (sends-back c.args.toward _ c.args.self.now c.in-Back.is c.self.view_is) c.flit_is_bytes.ensures c.requires.ready c.requires.named c.begin_through-in-Back.ensures)
    (begin-numbers-back c.args.toward c.args.self.now _ _ c.args.head c.args.flits (sends-back c.args.toward _ c.args.self.now c.in-Back.is c.self.view_is) c.requires.ready c.requires.named refl refl)
    c.self.invariant

pub returns-in-Back-clause-stands : goal.returns-in-Back-clause-stands
returns-in-Back-clause-stands g c = step-back (λ (d : Toward). LinkCall.begin d c.args.head c.args.flits) c.args.toward c.args.self.now _ _ c.in-Back.is c.self.view_is
    (begin-from Back c.args.toward c.args.self.now c.self.inside.b c.self.inside.a c.begin_through-in-Back.new.self c.args.head c.args.flits (sends-back c.args.toward _ c.args.self.now c.in-Back.is c.self.view_is) c.flit_is_bytes.ensures c.requires.ready c.requires.named c.begin_through-in-Back.ensures)
    (begin-numbers-back c.args.toward c.args.self.now _ _ c.args.head c.args.flits (sends-back c.args.toward _ c.args.self.now c.in-Back.is c.self.view_is) c.requires.ready c.requires.named refl refl)

pub overflow_add-self : goal.overflow_add-self
overflow_add-self g c = begin-fits-forth c.args.toward c.args.self.now _ c.args.flits (sends-forth c.args.toward _ c.args.self.now c.in-Forth.is c.self.view_is) c.self.view_is c.self.invariant c.requires.going c.requires.ready

pub overflow_add-self-in-Back : goal.overflow_add-self-in-Back
overflow_add-self-in-Back g c = begin-fits-back c.args.toward c.args.self.now _ c.args.flits (sends-back c.args.toward _ c.args.self.now c.in-Back.is c.self.view_is) c.self.view_is c.self.invariant c.requires.going c.requires.ready

pub returns-in-Forth-clause-list : goal.returns-in-Forth-clause-list
returns-in-Forth-clause-list g c link past s =
    let old = subst (λ (h : LinkHeld). LinkStandsFor link h past) (sym c.self.view_is) s in
    subst (λ (d : Toward). handed_list link d (after_call link past (LinkCall.begin d c.args.head c.args.flits)) ≡ handed_list link d past ++ listed_open c.args.head c.args.flits ∷ []) (sym c.in-Forth.is)
    (begin-list Forth c.args.toward c.args.self.now c.self.inside.a c.self.inside.b c.begin_through.new.self c.args.head c.args.flits (sends-forth c.args.toward _ c.args.self.now c.in-Forth.is c.self.view_is) c.requires.ready c.requires.named
    (begin-from Forth c.args.toward c.args.self.now c.self.inside.a c.self.inside.b c.begin_through.new.self c.args.head c.args.flits (sends-forth c.args.toward _ c.args.self.now c.in-Forth.is c.self.view_is) c.flit_is_bytes.ensures c.requires.ready c.requires.named c.begin_through.ensures)
    link past (forth-both link _ past old))

pub returns-in-Back-clause-list : goal.returns-in-Back-clause-list
returns-in-Back-clause-list g c link past s =
    let old = subst (λ (h : LinkHeld). LinkStandsFor link h past) (sym c.self.view_is) s in
    subst (λ (d : Toward). handed_list link d (after_call link past (LinkCall.begin d c.args.head c.args.flits)) ≡ handed_list link d past ++ listed_open c.args.head c.args.flits ∷ []) (sym c.in-Back.is)
    (begin-list Back c.args.toward c.args.self.now c.self.inside.b c.self.inside.a c.begin_through-in-Back.new.self c.args.head c.args.flits (sends-back c.args.toward _ c.args.self.now c.in-Back.is c.self.view_is) c.requires.ready c.requires.named
    (begin-from Back c.args.toward c.args.self.now c.self.inside.b c.self.inside.a c.begin_through-in-Back.new.self c.args.head c.args.flits (sends-back c.args.toward _ c.args.self.now c.in-Back.is c.self.view_is) c.flit_is_bytes.ensures c.requires.ready c.requires.named c.begin_through-in-Back.ensures)
    link past (back-both link _ past old))

pub returns-in-Forth-clause-other : goal.returns-in-Forth-clause-other
returns-in-Forth-clause-other g c link past s = other-list link past (LinkCall.begin c.args.toward c.args.head c.args.flits)

pub returns-in-Back-clause-other : goal.returns-in-Back-clause-other
returns-in-Back-clause-other g c link past s = other-list link past (LinkCall.begin c.args.toward c.args.head c.args.flits)
