-- What landed goes on where it is forwarded.
use Rattle.std.proofs.Common.{◌∙◌, List, Bool, ap, sym, subst}
use Rattle.hmc_ends.specs.End.{EndFields}
use Rattle.hmc_journal.specs.Piped.{goes_on}
use Rattle.hmc_kept.specs.Called.{taken_where}
use Rattle.hmc_kept.specs.Pipes.{PipesHeld, AreGathering, forwarded_at}
use Rattle.hmc_directions.specs.Ends.{EndsHold}
use Rattle.hmc_check.specs.Past.{PastParts}
use Rattle.hmc_check.proofs.past.Past.landed.Goals as goal

pub land-requires-clause-gathering : goal.land-requires-clause-gathering
land-requires-clause-gathering g c =
    subst (λ (h : PipesHeld). AreGathering h c.args.direction) (sym (ap (λ (p : PastParts _). p.piped) c.self.view_is)) c.requires.gathering

pub returns-clause-ends : goal.returns-clause-ends
returns-clause-ends g c = λ rows entries hold.
    let before = subst (λ (l : List EndFields). EndsHold rows l entries) (sym (ap (λ (p : PastParts _). p.ends) c.self.view_is)) hold in
    subst (λ (t : Bool). EndsHold rows c.take_where.new.ends (taken_where t rows c.args.direction entries))
    (c.goes_on-goes.ensures ∙ ap (goes_on c.args.outcome) (c.onto.ensures ∙ ap (λ (p : PastParts _). forwarded_at p.piped c.args.direction) c.self.view_is))
    (c.take_where.ensures rows entries before)
