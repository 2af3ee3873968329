-- All are out exactly where no tag is free.
use Rattle.std.proofs.Common.{◌∙◌, List, Bool, ap}
use Rattle.std.specs.Prelude.{not, is_some}
use Rattle.hmc_host.specs.Tags.{lowest_free}
use Rattle.hmc_host.proofs.TagLemmas.{all_out}
use Rattle.hmc_host.proofs.tags.Tags.are_all_out.Goals as goal

pub returns : goal.returns
returns c =
    all_out c.self.inside.flags.items c.self.inside.number c.self.invariant.are ∙ ap (λ (tags : List Bool). not (is_some (lowest_free tags))) c.self.view_is
