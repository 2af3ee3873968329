-- One link gives a packet.
use Rattle.hmc_send.specs.LinkCalls.{LinkCall}
use Rattle.hmc_links.proofs.LinkCalls.{goes_at, called_at}
use Rattle.hmc_links.proofs.link_list.LinkList.take.Goals as goal

pub returns : goal.returns
returns c = λ rows entries stand.
    called_at rows c.self.inside.links.items c.args.self.now c.args.direction c.from.result c.toward_of.result LinkCall.take entries c.index_mut-link.result.now c.drop_front.new.self c.self.view_is c.from.ensures c.index_mut-link.ensures.value c.toward_of.ensures
    stand c.requires.there c.drop_front.ensures.going c.drop_front.ensures.stands

pub drop_front-requires : goal.drop_front-requires
drop_front-requires c = goes_at c.self.inside.links.items c.args.self.now c.args.direction c.from.result c.index_mut-link.result.now c.self.view_is c.from.ensures c.index_mut-link.ensures.value c.requires.going c.requires.there
