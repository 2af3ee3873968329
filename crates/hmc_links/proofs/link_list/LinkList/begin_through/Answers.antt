-- One link begins a packet that is forwarded.
use Rattle.std.proofs.Common.{◌≡◌, ◌∙◌, true, sym, subst}
use Rattle.hmc_link.specs.Held.{sending_end}
use Rattle.hmc_ends.specs.End.{is_ready}
use Rattle.hmc_send.specs.LinkCalls.{LinkCall}
use Rattle.hmc_send.specs.declared.toward.Toward.{Toward}
use Rattle.hmc_journal.specs.Links.{toward}
use Rattle.hmc_links.proofs.LinkCalls.{goes_at, called_at, stood_at, ready_by}
use Rattle.hmc_links.proofs.link_list.LinkList.begin_through.Goals as goal

pub begin_through-requires-clause-ready : goal.begin_through-requires-clause-ready
begin_through-requires-clause-ready c =
    let may = c.requires.may in
    let stands = stood_at may.rows c.self.inside.links.items c.args.self.now c.args.direction c.from.result may.entries c.index_mut-link.result.now c.self.view_is c.from.ensures c.index_mut-link.ensures.value may.stand c.requires.there in
    subst (λ (d : Toward). is_ready (sending_end d c.index_mut-link.result.now) c.args.flits ≡ true) (sym c.toward_of.ensures)
    (ready_by _ c.index_mut-link.result.now _ (toward c.args.direction) c.args.flits stands ∙ may.ready)

pub returns : goal.returns
returns c = λ rows entries stand.
    called_at rows c.self.inside.links.items c.args.self.now c.args.direction c.from.result c.toward_of.result (λ d. LinkCall.begin d c.args.head c.args.flits) entries c.index_mut-link.result.now c.begin_through.new.self c.self.view_is c.from.ensures c.index_mut-link.ensures.value c.toward_of.ensures
    stand c.requires.there c.begin_through.ensures.going c.begin_through.ensures.stands

pub begin_through-requires-clause-going : goal.begin_through-requires-clause-going
begin_through-requires-clause-going c = goes_at c.self.inside.links.items c.args.self.now c.args.direction c.from.result c.index_mut-link.result.now c.self.view_is c.from.ensures c.index_mut-link.ensures.value c.requires.may.stand.going c.requires.there
