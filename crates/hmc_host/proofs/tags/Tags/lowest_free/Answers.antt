-- The tags below the one that the search begins at are out.
use Rattle.std.proofs.Common.{◌∙◌, sym, Some, None}
use Rattle.hmc_host.proofs.TagLemmas.{lowest_at}
use Rattle.hmc_host.proofs.tags.Tags.lowest_free.Goals as goal

pub returns-in_err-tag-clause-lowest : goal.returns-in_err-tag-clause-lowest
returns-in_err-tag-clause-lowest c =
    c.from_residual.ensures ∙ lowest_at c.self.inside.flags.items c.deref.result.now _ c.self.inside.from c.from-from.result None c.self.invariant.below c.from-from.ensures c.deref.ensures.value c.self.view_is (sym c.in_err-tag.was ∙ c.first_unset.ensures)

pub returns-clause-lowest : goal.returns-clause-lowest
returns-clause-lowest c =
    lowest_at c.self.inside.flags.items c.deref.result.now _ c.self.inside.from c.from-from.result (Some c.in_ok-tag.tag) c.self.invariant.below c.from-from.ensures c.deref.ensures.value c.self.view_is (sym c.in_ok-tag.was ∙ c.first_unset.ensures)
