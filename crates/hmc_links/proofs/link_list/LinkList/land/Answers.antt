-- A flit of one link lands.
use Rattle.std.proofs.Common.{◌≡◌, ◌∙◌, ◌/◌, not, ap, subst}
use Rattle.std.specs.Prelude.{slice_get}
use Rattle.hmc_ends.specs.Outcomes.{front_outcome}
use Rattle.hmc_ends.proofs.Outcomes.{given-without}
use Rattle.hmc_kept.specs.Called.{sizes_by}
use Rattle.hmc_send.specs.LinkLines.{line}
use Rattle.hmc_send.specs.declared.toward.Toward.{Toward}
use Rattle.hmc_links.proofs.LinkCalls.{stood_at}
use Rattle.hmc_send.specs.LinkCalls.{LinkCall}
use Rattle.hmc_links.proofs.LinkCalls.{goes_at, called_at}
use Rattle.hmc_links.proofs.link_list.LinkList.land.Goals as goal

pub returns-clause-stand : goal.returns-clause-stand
returns-clause-stand c = λ rows entries stand on.
    called_at rows c.self.inside.links.items c.args.self.now c.args.direction c.from.result c.toward_of.result (λ d. LinkCall.land d c.args.mask.now) entries c.index_mut-link.result.now c.land_in_place.new.self c.self.view_is c.from.ensures c.index_mut-link.ensures.value c.toward_of.ensures
    stand c.requires.there (c.land_in_place.ensures.going ∙ ap not on) (λ sizes past stands. c.land_in_place.ensures.stands sizes past stands on)

pub returns-clause-answer : goal.returns-clause-answer
returns-clause-answer c = λ rows entries stand.
    let link = sizes_by rows c.args.direction in
    let past = entries (c.args.direction / 2) in
    let held = stood_at rows c.self.inside.links.items c.args.self.now c.args.direction c.from.result entries c.index_mut-link.result.now c.self.view_is c.from.ensures c.index_mut-link.ensures.value stand c.requires.there in
    subst (λ (d : Toward). c.land_in_place.result ≡ front_outcome link d past c.args.mask.now (slice_get (line link.profile d past) 0)) c.toward_of.ensures
    (given-without link c.toward_of.result past c.args.mask.now _ c.land_in_place.result _ (c.land_in_place.ensures.answer link past held))

pub land_in_place-requires : goal.land_in_place-requires
land_in_place-requires c = goes_at c.self.inside.links.items c.args.self.now c.args.direction c.from.result c.index_mut-link.result.now c.self.view_is c.from.ensures c.index_mut-link.ensures.value c.requires.going c.requires.there
