use Rattle.std.proofs.Common.{◌∙◌, None, [], ◌∷◌, ◌++◌, ap}
use Rattle.std.proofs.lemmas.List.{replicate_more}
use Rattle.hmc_kept.proofs.pipes.empty_places.Goals as goal

pub each-preserved : goal.each-preserved
each-preserved g c = c.in_ok-push.ensures.items ∙ ap (λ l. l ++ None ∷ []) c.each.invariant ∙ replicate_more c.each.counter None
