-- A packet that is accepted while it is forwarded leaves its buffer.
use Rattle.std.proofs.Common.{◌∙◌, Bool, ap, subst}
use Rattle.hmc_journal.specs.Piped.{goes_on}
use Rattle.hmc_links.specs.LinkList.{LinksStandFor}
use Rattle.hmc_kept.specs.Called.{taken_where}
use Rattle.hmc_net.proofs.network.links.forward_came.Goals as goal

pub returns-clause-stands : goal.returns-clause-stands
returns-clause-stands c = λ rows entries stand.
    subst (λ (t : Bool). LinksStandFor rows c.take_where.new.links (taken_where t rows c.args.direction entries)) (c.goes_on-goes.ensures ∙ ap (goes_on c.args.outcome) c.onto.ensures) (c.take_where.ensures.stands rows entries stand)

pub returns-clause-idle : goal.returns-clause-idle
returns-clause-idle c = λ none. c.take_where.ensures.idle (c.goes_on-goes.ensures ∙ ap (goes_on c.args.outcome) c.onto.ensures ∙ none)
