-- What the two ends answer and leave is what the definition says of the entries.
use Rattle.std.proofs.Common.{◌≡◌, ◌∙◌, ◌-◌, false, length, refl, ap, sym, subst, not, ◌++◌, map}
use Rattle.std.proofs.lemmas.Bool.{not-true}
use Rattle.hmc_packet.specs.Packet.{PacketFields}
use Rattle.hmc_ends.specs.Answers.{after_call}
use Rattle.hmc_ends.specs.List.{handed_list, listed_packet}
use Rattle.hmc_ends.specs.Outcomes.{link_landed_with}
use Rattle.hmc_ends.proofs.Outcomes.{passed-with, none-with}
use Rattle.hmc_link.proofs.ListCalls.{land-list}
use Rattle.hmc_link.proofs.Numbers.{numbers-landed}
use Rattle.std.specs.Prelude.{slice_get}
use Rattle.hmc_send.specs.LinkCalls.{LinkCall}
use Rattle.hmc_send.specs.LinkLines.{line}
use Rattle.hmc_send.specs.declared.toward.Toward.{Toward}
use Rattle.hmc_send.specs.declared.toward.Toward.TheVariants.{Forth, Back}
use Rattle.hmc_link.specs.Held.{LinkHeld, landing_end}
use Rattle.hmc_ends.specs.Landings.{link_landed, removed, is_out_of_order}
use Rattle.hmc_link.specs.StandsFor.{LinkStandsFor}
use Rattle.hmc_link.proofs.Joins.{forth-both, back-both, step-forth, step-back, keep-forth, keep-back}
use Rattle.hmc_link.proofs.LinkLandings.{ordered, land-steps}
use Rattle.hmc_link.proofs.Idle.{landing-kept, landing-kept-back}
use Rattle.hmc_link_laws.proofs.CallLists.{other-list}
use Rattle.hmc_link_laws.proofs.Acknowledging.{landing-acknowledges}
use Rattle.hmc_link.proofs.link.Link.land_in_place.Goals as goal

pub invariant_of-self : goal.invariant_of-self
invariant_of-self g c = λ goes.
    let landing = c.cross-landing.result in
    let packet = c.cross-landing.new.to.receiver.packet in
    let caught = sym c.has_passed.ensures ∙ not-true _ goes in
    let less = c.without_landed-self-inside.ensures ∙ ap (λ (p : PacketFields). c.self.inside.forth - length (removed (link_landed_with landing p))) c.latest.ensures.value in
    keep-forth (LinkCall.land Forth c.args.mask.now) _ _
    (land-steps Forth c.args.mask.now landing c.self.inside.a c.self.inside.b c.cross-landing.new.from c.cross-landing.new.to c.cross-landing.ensures.stands caught)
    (numbers-landed Forth c.args.mask.now (link_landed_with landing packet) _ _ (λ link past s. c.cross-landing.ensures.answer link Forth past (forth-both link _ past s)) (passed-with landing packet ∙ caught) less refl)
    c.self.invariant (ap (λ (h : LinkHeld). h.going) c.self.view_is ∙ c.requires)

pub returns-in-Forth-clause-answer : goal.returns-in-Forth-clause-answer
returns-in-Forth-clause-answer g c link past s =
    let landing = c.cross-landing.result in
    let old = subst (λ (h : LinkHeld). LinkStandsFor link h past) (sym c.self.view_is) s in
    let new : LinkHeld = record { a = c.cross-landing.new.from; b = c.cross-landing.new.to; going = not c.has_passed.result; forth = c.without_landed-self-inside.result; back = c.self.inside.back } in
    subst (λ (d : Toward). link_landed_with landing (landing_end d new).receiver.packet ≡ link_landed link d past c.args.mask.now (slice_get (line link.profile d past) 0)) (sym c.in-Forth.is)
    (c.cross-landing.ensures.answer link Forth past (forth-both link _ past old))

pub returns-in-Forth-clause-stands : goal.returns-in-Forth-clause-stands
returns-in-Forth-clause-stands g c link past s caught =
    let landing = c.cross-landing.result in
    let packet = c.cross-landing.new.to.receiver.packet in
    let less = c.without_landed-self-inside.ensures ∙ ap (λ (p : PacketFields). c.self.inside.forth - length (removed (link_landed_with landing p))) c.latest.ensures.value in
    step-forth (λ (d : Toward). LinkCall.land d c.args.mask.now) c.args.toward c.args.self.now _ _ c.in-Forth.is c.self.view_is
    (land-steps Forth c.args.mask.now landing c.self.inside.a c.self.inside.b c.cross-landing.new.from c.cross-landing.new.to c.cross-landing.ensures.stands caught)
    (numbers-landed Forth c.args.mask.now (link_landed_with landing packet) _ _ (λ link past s. c.cross-landing.ensures.answer link Forth past (forth-both link _ past s)) (passed-with landing packet ∙ caught) less refl) link past s

pub returns-in-Forth-clause-ordered : goal.returns-in-Forth-clause-ordered
returns-in-Forth-clause-ordered g c =
    let landing = c.cross-landing.result in
    let some = c.self.invariant (ap (λ (h : LinkHeld). h.going) c.self.view_is ∙ c.requires) in
    let new : LinkHeld = record { a = c.cross-landing.new.from; b = c.cross-landing.new.to; going = not c.has_passed.result; forth = c.without_landed-self-inside.result; back = c.self.inside.back } in
    subst (λ (d : Toward). is_out_of_order (link_landed_with landing (landing_end d new).receiver.packet) ≡ false) (sym c.in-Forth.is)
    (ordered some.link Forth some.past c.args.mask.now _ some.stands.kept (c.cross-landing.ensures.answer some.link Forth some.past (forth-both some.link _ some.past some.stands)))

pub returns-in-Forth-clause-list : goal.returns-in-Forth-clause-list
returns-in-Forth-clause-list g c link past s caught =
    let landing = c.cross-landing.result in
    let packet = c.cross-landing.new.to.receiver.packet in
    let old = subst (λ (h : LinkHeld). LinkStandsFor link h past) (sym c.self.view_is) s in
    let both = forth-both link _ past old in
    let new : LinkHeld = record { a = c.cross-landing.new.from; b = c.cross-landing.new.to; going = not c.has_passed.result; forth = c.without_landed-self-inside.result; back = c.self.inside.back } in
    subst (λ (d : Toward). handed_list link d past ≡ map listed_packet (removed (link_landed_with landing (landing_end d new).receiver.packet)) ++ handed_list link d (after_call link past (LinkCall.land d c.args.mask.now))) (sym c.in-Forth.is)
    (land-list Forth c.args.mask.now (link_landed_with landing packet) c.self.inside.a c.self.inside.b c.cross-landing.new.from c.cross-landing.new.to
    (land-steps Forth c.args.mask.now landing c.self.inside.a c.self.inside.b c.cross-landing.new.from c.cross-landing.new.to c.cross-landing.ensures.stands caught)
    (passed-with landing packet ∙ caught) link past both (c.cross-landing.ensures.answer link Forth past both))

pub returns-in-Forth-clause-idle : goal.returns-in-Forth-clause-idle
returns-in-Forth-clause-idle g c none =
    let landing = c.cross-landing.result in
    let packet = c.cross-landing.new.to.receiver.packet in
    let less = c.without_landed-self-inside.ensures ∙ ap (λ (p : PacketFields). c.self.inside.forth - length (removed (link_landed_with landing p))) c.latest.ensures.value in
    landing-kept (record { a = c.self.inside.a; b = c.self.inside.b; going = c.self.inside.going; forth = c.self.inside.forth; back = c.self.inside.back }) _ _ _ _ (link_landed_with landing packet) (none-with landing packet ∙ none)
    (ap (λ (h : LinkHeld). h.going) c.self.view_is ∙ c.requires) (c.cross-landing.ensures.from_idle none) (c.cross-landing.ensures.to_idle none) (c.has_passed.ensures ∙ sym (passed-with landing packet)) less ∙ c.self.view_is

pub invariant_of-self-in-Back : goal.invariant_of-self-in-Back
invariant_of-self-in-Back g c = λ goes.
    let landing = c.cross-landing-in-Back.result in
    let packet = c.cross-landing-in-Back.new.to.receiver.packet in
    let caught = sym c.has_passed-in-Back.ensures ∙ not-true _ goes in
    let less = c.without_landed-self-inside-in-Back.ensures ∙ ap (λ (p : PacketFields). c.self.inside.back - length (removed (link_landed_with landing p))) c.latest-in-Back.ensures.value in
    keep-back (LinkCall.land Back c.args.mask.now) _ _
    (land-steps Back c.args.mask.now landing c.self.inside.b c.self.inside.a c.cross-landing-in-Back.new.from c.cross-landing-in-Back.new.to c.cross-landing-in-Back.ensures.stands caught)
    (numbers-landed Back c.args.mask.now (link_landed_with landing packet) _ _ (λ link past s. c.cross-landing-in-Back.ensures.answer link Back past (back-both link _ past s)) (passed-with landing packet ∙ caught) less refl)
    c.self.invariant (ap (λ (h : LinkHeld). h.going) c.self.view_is ∙ c.requires)

pub returns-in-Back-clause-answer : goal.returns-in-Back-clause-answer
returns-in-Back-clause-answer g c link past s =
    let landing = c.cross-landing-in-Back.result in
    let old = subst (λ (h : LinkHeld). LinkStandsFor link h past) (sym c.self.view_is) s in
    let new : LinkHeld = record { b = c.cross-landing-in-Back.new.from; a = c.cross-landing-in-Back.new.to; going = not c.has_passed-in-Back.result; back = c.without_landed-self-inside-in-Back.result; forth = c.self.inside.forth } in
    subst (λ (d : Toward). link_landed_with landing (landing_end d new).receiver.packet ≡ link_landed link d past c.args.mask.now (slice_get (line link.profile d past) 0)) (sym c.in-Back.is)
    (c.cross-landing-in-Back.ensures.answer link Back past (back-both link _ past old))

pub returns-in-Back-clause-stands : goal.returns-in-Back-clause-stands
returns-in-Back-clause-stands g c link past s caught =
    let landing = c.cross-landing-in-Back.result in
    let packet = c.cross-landing-in-Back.new.to.receiver.packet in
    let less = c.without_landed-self-inside-in-Back.ensures ∙ ap (λ (p : PacketFields). c.self.inside.back - length (removed (link_landed_with landing p))) c.latest-in-Back.ensures.value in
    step-back (λ (d : Toward). LinkCall.land d c.args.mask.now) c.args.toward c.args.self.now _ _ c.in-Back.is c.self.view_is
    (land-steps Back c.args.mask.now landing c.self.inside.b c.self.inside.a c.cross-landing-in-Back.new.from c.cross-landing-in-Back.new.to c.cross-landing-in-Back.ensures.stands caught)
    (numbers-landed Back c.args.mask.now (link_landed_with landing packet) _ _ (λ link past s. c.cross-landing-in-Back.ensures.answer link Back past (back-both link _ past s)) (passed-with landing packet ∙ caught) less refl) link past s

pub returns-in-Back-clause-ordered : goal.returns-in-Back-clause-ordered
returns-in-Back-clause-ordered g c =
    let landing = c.cross-landing-in-Back.result in
    let some = c.self.invariant (ap (λ (h : LinkHeld). h.going) c.self.view_is ∙ c.requires) in
    let new : LinkHeld = record { b = c.cross-landing-in-Back.new.from; a = c.cross-landing-in-Back.new.to; going = not c.has_passed-in-Back.result; back = c.without_landed-self-inside-in-Back.result; forth = c.self.inside.forth } in
    subst (λ (d : Toward). is_out_of_order (link_landed_with landing (landing_end d new).receiver.packet) ≡ false) (sym c.in-Back.is)
    (ordered some.link Back some.past c.args.mask.now _ some.stands.kept (c.cross-landing-in-Back.ensures.answer some.link Back some.past (back-both some.link _ some.past some.stands)))

pub returns-in-Back-clause-list : goal.returns-in-Back-clause-list
returns-in-Back-clause-list g c link past s caught =
    let landing = c.cross-landing-in-Back.result in
    let packet = c.cross-landing-in-Back.new.to.receiver.packet in
    let old = subst (λ (h : LinkHeld). LinkStandsFor link h past) (sym c.self.view_is) s in
    let both = back-both link _ past old in
    let new : LinkHeld = record { b = c.cross-landing-in-Back.new.from; a = c.cross-landing-in-Back.new.to; going = not c.has_passed-in-Back.result; back = c.without_landed-self-inside-in-Back.result; forth = c.self.inside.forth } in
    subst (λ (d : Toward). handed_list link d past ≡ map listed_packet (removed (link_landed_with landing (landing_end d new).receiver.packet)) ++ handed_list link d (after_call link past (LinkCall.land d c.args.mask.now))) (sym c.in-Back.is)
    (land-list Back c.args.mask.now (link_landed_with landing packet) c.self.inside.b c.self.inside.a c.cross-landing-in-Back.new.from c.cross-landing-in-Back.new.to
    (land-steps Back c.args.mask.now landing c.self.inside.b c.self.inside.a c.cross-landing-in-Back.new.from c.cross-landing-in-Back.new.to c.cross-landing-in-Back.ensures.stands caught)
    (passed-with landing packet ∙ caught) link past both (c.cross-landing-in-Back.ensures.answer link Back past both))

pub returns-in-Back-clause-idle : goal.returns-in-Back-clause-idle
returns-in-Back-clause-idle g c none =
    let landing = c.cross-landing-in-Back.result in
    let packet = c.cross-landing-in-Back.new.to.receiver.packet in
    let less = c.without_landed-self-inside-in-Back.ensures ∙ ap (λ (p : PacketFields). c.self.inside.back - length (removed (link_landed_with landing p))) c.latest-in-Back.ensures.value in
    landing-kept-back (record { a = c.self.inside.a; b = c.self.inside.b; going = c.self.inside.going; forth = c.self.inside.forth; back = c.self.inside.back }) _ _ _ _ (link_landed_with landing packet) (none-with landing packet ∙ none)
    (ap (λ (h : LinkHeld). h.going) c.self.view_is ∙ c.requires) (c.cross-landing-in-Back.ensures.to_idle none) (c.cross-landing-in-Back.ensures.from_idle none) (c.has_passed-in-Back.ensures ∙ sym (passed-with landing packet)) less ∙ c.self.view_is

pub returns-in-Forth-clause-other : goal.returns-in-Forth-clause-other
returns-in-Forth-clause-other g c link past s = other-list link past (LinkCall.land c.args.toward c.args.mask.now)

pub returns-in-Forth-clause-counted : goal.returns-in-Forth-clause-counted
returns-in-Forth-clause-counted g c link past rrp s caught counted =
    landing-acknowledges link c.args.toward past c.args.mask.now _ rrp (returns-in-Forth-clause-answer g c link past s) (passed-with _ _ ∙ caught) (returns-in-Forth-clause-stands g c link past s caught).kept counted

pub returns-in-Back-clause-other : goal.returns-in-Back-clause-other
returns-in-Back-clause-other g c link past s = other-list link past (LinkCall.land c.args.toward c.args.mask.now)

pub returns-in-Back-clause-counted : goal.returns-in-Back-clause-counted
returns-in-Back-clause-counted g c link past rrp s caught counted =
    landing-acknowledges link c.args.toward past c.args.mask.now _ rrp (returns-in-Back-clause-answer g c link past s) (passed-with _ _ ∙ caught) (returns-in-Back-clause-stands g c link past s caught).kept counted
