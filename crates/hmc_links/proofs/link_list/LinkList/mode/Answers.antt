-- What the receiver of one link waits for.
use Rattle.std.proofs.Common.{◌∙◌, ◌/◌, ap}
use Rattle.hmc_packet.specs.Landings.{mode}
use Rattle.hmc_kept.specs.Called.{sizes_by}
use Rattle.hmc_send.specs.LinkEntries.{receiver_entries}
use Rattle.hmc_send.specs.declared.toward.Toward.{Toward}
use Rattle.hmc_links.proofs.LinkCalls.{stood_at}
use Rattle.hmc_links.proofs.link_list.LinkList.mode.Goals as goal

pub returns : goal.returns
returns c = λ rows entries stand.
    c.mode.ensures.by_list (sizes_by rows c.args.direction) (entries (c.args.direction / 2))
    (stood_at rows c.self.inside.links.items c.args.self.now c.args.direction c.from.result entries c.index.result.now c.self.view_is c.from.ensures c.index.ensures stand c.requires)
    ∙ ap (λ (d : Toward). mode (receiver_entries d (entries (c.args.direction / 2)))) c.toward_of.ensures
