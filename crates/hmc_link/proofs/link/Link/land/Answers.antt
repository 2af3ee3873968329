-- What is given in place, with the packet that the end lends.
use Rattle.std.proofs.Common.{◌∙◌, ◌++◌, map, sym, ap}
use Rattle.hmc_send.specs.LinkCalls.{LinkCall}
use Rattle.hmc_ends.specs.declared.link_landed.LinkLanded.{LinkLanded}
use Rattle.hmc_ends.specs.Answers.{after_call}
use Rattle.hmc_ends.specs.Landings.{landing_passed, removed}
use Rattle.hmc_ends.specs.List.{handed_list, listed_packet}
use Rattle.hmc_ends.specs.Outcomes.{link_landed_with}
use Rattle.hmc_ends.proofs.Outcomes.{passed-with}
use Rattle.hmc_link_laws.specs.Pointers.{pointer_landed}
use Rattle.hmc_link.proofs.link.Link.land.Goals as goal

pub returns-clause-stands : goal.returns-clause-stands
returns-clause-stands g c link past s caught =
    c.land_in_place-landing.ensures.stands link past s
    (sym (passed-with c.land_in_place-landing.result c.latest.result.now) ∙ ap landing_passed (sym c.link_landed_with.ensures) ∙ caught)

pub returns-clause-list : goal.returns-clause-list
returns-clause-list g c link past s caught =
    let landing = c.land_in_place-landing.result in
    let same = c.link_landed_with.ensures ∙ ap (link_landed_with landing) c.latest.ensures.value in
    c.land_in_place-landing.ensures.list link past s
    (sym (passed-with landing c.latest.result.now) ∙ ap landing_passed (sym c.link_landed_with.ensures) ∙ caught)
    ∙ ap (λ (x : LinkLanded). map listed_packet (removed x) ++ handed_list link c.args.toward (after_call link past (LinkCall.land c.args.toward c.args.mask))) (sym same)

pub returns-clause-counted : goal.returns-clause-counted
returns-clause-counted g c link past rrp s caught counted =
    let landing = c.land_in_place-landing.result in
    let same = c.link_landed_with.ensures ∙ ap (link_landed_with landing) c.latest.ensures.value in
    c.land_in_place-landing.ensures.counted link past rrp s
    (sym (passed-with landing c.latest.result.now) ∙ ap landing_passed (sym c.link_landed_with.ensures) ∙ caught)
    (ap (λ (x : LinkLanded). pointer_landed link c.args.toward past x) (sym same) ∙ counted)
