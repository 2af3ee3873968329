-- The step leaves a network that stands for the case.
use Rattle.std.proofs.Common.{◌∙◌, ◌∷◌, sym, ap, subst}
use Rattle.hmc_journal.specs.Next.{next}
use Rattle.hmc_net.specs.NetState.{net_of, NetState}
use Rattle.hmc_net.specs.Stands.{StandsFor}
use Rattle.hmc_tally.specs.Tally.{step_changes}
use Rattle.hmc_promises.proofs.Guaranteeing.{step_guarantees}
use Rattle.hmc_net.specs.Went.{went_of}
use Rattle.hmc_kept.proofs.Laws.{law_bound}
use Rattle.hmc_net.proofs.Seeing.{ready_of, step_there}
use Rattle.hmc_net.proofs.Standing.{chosen_next, stands_stepped, countable, idle_stays, went_cause}
use Rattle.hmc_net.proofs.network.Network.step.Goals as goal

pub act-went-requires-clause-there : goal.act-went-requires-clause-there
act-went-requires-clause-there g c = step_there (net_of g.B.Workbench.slots c.args.self.now) c.requires.1 c.requires.0 c.args.step.now c.requires.2

pub act-went-requires-clause-ready : goal.act-went-requires-clause-ready
act-went-requires-clause-ready g c =
    let is = c.requires.2 in
    ready_of (net_of g.B.Workbench.slots c.args.self.now) c.requires.1 c.requires.0 is.stands is.goes_on (law_bound c.requires.0 c.requires.1 is.stands.network is.stands.lawful)

pub unlocks_good-was_good-requires-clause-there : goal.unlocks_good-was_good-requires-clause-there
unlocks_good-was_good-requires-clause-there g c = step_there (net_of g.B.Workbench.slots c.args.self.now) c.requires.1 c.requires.0 c.args.step.now c.requires.2

pub unlocks_good-was_good-requires-clause-ready : goal.unlocks_good-was_good-requires-clause-ready
unlocks_good-was_good-requires-clause-ready g c =
    let is = c.requires.2 in
    ready_of (net_of g.B.Workbench.slots c.args.self.now) c.requires.1 c.requires.0 is.stands is.goes_on (law_bound c.requires.0 c.requires.1 is.stands.network is.stands.lawful)

pub count-requires-clause-few : goal.count-requires-clause-few
count-requires-clause-few g c = countable (net_of g.B.Workbench.slots c.args.self.now) (net_of g.B.Workbench.slots c.act-went.new.self) c.requires.1 c.requires.0 c.args.step.now c.requires.2 c.act-went.ensures.does

pub returns-clause-stands : goal.returns-clause-stands
returns-clause-stands g c = λ setup past is.
    let slots = g.B.Workbench.slots in
    subst (λ (n : NetState). StandsFor n setup (next setup past c.args.step.now ∷ past)) (sym (ap (net_of slots) c.count.ensures.counted))
    (stands_stepped (net_of slots c.args.self.now) (net_of slots c.act-went.new.self) c.count.new.self.tally c.unlocks_good-was_good.result past setup c.args.step.now is (law_bound setup past is.stands.network is.stands.lawful) c.act-went.ensures.does
    c.unlocks_good-was_good.ensures c.count.ensures.tally c.count.ensures.within)

pub returns-clause-guarantees : goal.returns-clause-guarantees
returns-clause-guarantees g c = λ setup past is.
    let now = returns-clause-stands g c setup past is in
    step_guarantees setup (next setup past c.args.step.now ∷ past) now.network now.lawful

pub returns-clause-last : goal.returns-clause-last
returns-clause-last g c = λ setup past is.
    let slots = g.B.Workbench.slots in
    ap (λ (n : NetState). n.last) (ap (net_of slots) c.count.ensures.counted)
    ∙ chosen_next (net_of slots c.args.self.now) (net_of slots c.act-went.new.self) past setup c.args.step.now is (law_bound setup past is.stands.network is.stands.lawful) c.act-went.ensures.does

pub returns-clause-went : goal.returns-clause-went
returns-clause-went g c = λ setup past is.
    c.act-went.ensures.went ∙ ap went_of (chosen_next (net_of g.B.Workbench.slots c.args.self.now) (net_of g.B.Workbench.slots c.act-went.new.self) past setup c.args.step.now is (law_bound setup past is.stands.network is.stands.lawful) c.act-went.ensures.does)

pub returns-clause-idle : goal.returns-clause-idle
returns-clause-idle g c = λ cause is.
    let slots = g.B.Workbench.slots in
    let counted = ap (net_of slots) c.count.ensures.counted in
    let last = ap (λ (n : NetState). n.last) counted in
    let idle = went_cause c.act-went.new.self.last cause (sym c.act-went.ensures.went ∙ is) in
    counted
    ∙ idle_stays (net_of slots c.args.self.now) (net_of slots c.act-went.new.self) c.count.new.self.tally (step_changes c.args.step.now) c.unlocks_good-was_good.result cause c.args.step.now c.act-went.ensures.does idle c.count.ensures.tally
    ∙ ap (λ e. record (net_of slots c.args.self.now) { last = e }) (sym last)
