-- One link is handed a packet.
use Rattle.std.proofs.Common.{◌<◌, length, sym, subst}
use Rattle.hmc_link.specs.Held.{sending_end}
use Rattle.hmc_send.specs.Given.{IsTaken}
use Rattle.hmc_send.specs.declared.toward.Toward.{Toward}
use Rattle.hmc_journal.specs.Links.{toward}
use Rattle.hmc_send.specs.LinkCalls.{LinkCall}
use Rattle.hmc_links.proofs.LinkCalls.{goes_at, called_at, stood_at, room_at, fit_at}
use Rattle.hmc_links.proofs.link_list.LinkList.hand.Goals as goal

pub returns : goal.returns
returns c = λ rows entries stand.
    called_at rows c.self.inside.links.items c.args.self.now c.args.direction c.from.result c.toward_of.result (λ d. LinkCall.hand d c.args.packet.now) entries c.index_mut-link.result.now c.put.new.self c.self.view_is c.from.ensures c.index_mut-link.ensures.value c.toward_of.ensures
    stand c.requires.there c.put.ensures.going c.put.ensures.stands

pub put-requires-clause-going : goal.put-requires-clause-going
put-requires-clause-going c = goes_at c.self.inside.links.items c.args.self.now c.args.direction c.from.result c.index_mut-link.result.now c.self.view_is c.from.ensures c.index_mut-link.ensures.value c.requires.may.stand.going c.requires.there

pub put-requires-clause-room : goal.put-requires-clause-room
put-requires-clause-room c =
    let may = c.requires.may in
    let stands = stood_at may.rows c.self.inside.links.items c.args.self.now c.args.direction c.from.result may.entries c.index_mut-link.result.now c.self.view_is c.from.ensures c.index_mut-link.ensures.value may.stand c.requires.there in
    subst (λ (d : Toward). length (sending_end d c.index_mut-link.result.now).queue < (sending_end d c.index_mut-link.result.now).setup.output) (sym c.toward_of.ensures)
    (room_at _ c.index_mut-link.result.now _ (toward c.args.direction) stands may.room)

pub put-requires-clause-fit : goal.put-requires-clause-fit
put-requires-clause-fit c =
    let may = c.requires.may in
    let stands = stood_at may.rows c.self.inside.links.items c.args.self.now c.args.direction c.from.result may.entries c.index_mut-link.result.now c.self.view_is c.from.ensures c.index_mut-link.ensures.value may.stand c.requires.there in
    subst (λ (d : Toward). IsTaken (sending_end d c.index_mut-link.result.now).setup.profile c.args.packet.now) (sym c.toward_of.ensures)
    (fit_at _ c.index_mut-link.result.now _ (toward c.args.direction) c.args.packet.now stands may.fit)
