use Rattle.std.proofs.Common.{◌∙◌, List, sym, ap}
use Rattle.std.specs.Prelude.{slice_get}
use Rattle.hmc_script.specs.Items.{ItemFields}
use Rattle.hmc_host.proofs.WaitingLemmas.{first_at, is_left}
use Rattle.hmc_host.proofs.waiting.Waiting.first.Goals as goal

pub item-requires : goal.item-requires
item-requires c =
    let i = c.self.inside in
    is_left i.front i.at i.back c.args.self.now c.self.invariant c.self.view_is c.requires

pub returns : goal.returns
returns c =
    let i = c.self.inside in
    ap (λ (xs : List ItemFields). slice_get xs 0) (sym c.self.view_is) ∙ first_at i.front i.at i.back c.self.invariant ∙ c.item.ensures.item
