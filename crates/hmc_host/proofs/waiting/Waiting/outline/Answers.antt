use Rattle.std.proofs.Common.{◌∙◌, List, sym, ap}
use Rattle.std.specs.Prelude.{option_map, slice_get}
use Rattle.hmc_script.specs.Items.{ItemFields, outline_of}
use Rattle.hmc_host.proofs.WaitingLemmas.{first_at}
use Rattle.hmc_host.proofs.waiting.Waiting.outline.Goals as goal

pub returns : goal.returns
returns c =
    let i = c.self.inside in
    c.outline.ensures ∙ ap (option_map outline_of) (sym (first_at i.front i.at i.back c.self.invariant) ∙ ap (λ (xs : List ItemFields). slice_get xs 0) c.self.view_is)
