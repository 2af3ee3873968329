-- One link is unlocked in a direction.
use Rattle.hmc_send.specs.LinkCalls.{LinkCall}
use Rattle.hmc_links.proofs.LinkCalls.{goes_at, called_at}
use Rattle.hmc_links.proofs.link_list.LinkList.unlock.Goals as goal

pub returns : goal.returns
returns c = λ rows entries stand.
    called_at rows c.self.inside.links.items c.args.self.now c.args.direction c.from.result c.toward_of.result LinkCall.unlock entries c.index_mut-link.result.now c.unlock.new.self c.self.view_is c.from.ensures c.index_mut-link.ensures.value c.toward_of.ensures
    stand c.requires.there c.unlock.ensures.going c.unlock.ensures.stands

pub unlock-requires : goal.unlock-requires
unlock-requires c = goes_at c.self.inside.links.items c.args.self.now c.args.direction c.from.result c.index_mut-link.result.now c.self.view_is c.from.ensures c.index_mut-link.ensures.value c.requires.going c.requires.there
