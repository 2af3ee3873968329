-- What the network does in a step, with its entry in the journal.
use Rattle.std.proofs.Common.{◌≡◌, ◌≤◌, ◌∷◌, ◌∙◌, ap, sym, subst, length}
use Rattle.hmc_journal.specs.Next.{next}
use Rattle.hmc_promises.proofs.Guaranteeing.{step_guarantees}
use Rattle.hmc_net.specs.Journaled.{JournaledNet, journaled_of, IsNetNext}
use Rattle.hmc_net.specs.NetState.{net_of}
use Rattle.hmc_net.specs.Stands.{StandsFor, IsNext}
use Rattle.hmc_net.specs.Went.{went_of}
use Rattle.hmc_net.proofs.net.Net.step.Goals as goal

pub returns-clause-stands : goal.returns-clause-stands
returns-clause-stands g c = λ setup is.
    let slots = g.B.Workbench.slots in
    let here = subst (λ (n : JournaledNet). IsNetNext n setup c.args.step.now) (sym (ap (journaled_of slots) c.self.view_is)) is in
    let past = c.self.inside.journal.past in
    let due : IsNext (net_of slots c.self.inside.network) setup past c.args.step.now = record { stands = here.stands.stands; goes_on = here.goes_on; step_is = here.step_is } in
    let entry : c.entry.result ≡ next setup past c.args.step.now = c.entry.ensures ∙ c.last.ensures ∙ c.step-went.ensures.last setup past due in
    record {
      stands = subst (λ now. StandsFor (net_of slots c.step-went.new.self) setup now) (sym (c.note.ensures.past ∙ ap (λ e. e ∷ past) entry)) (c.step-went.ensures.stands setup past due);
      most = subst (λ most. length setup.schedule ≤ most) (sym c.note.ensures.most) here.stands.most;
    }

pub returns-clause-past : goal.returns-clause-past
returns-clause-past g c = λ setup is.
    let slots = g.B.Workbench.slots in
    let here = subst (λ (n : JournaledNet). IsNetNext n setup c.args.step.now) (sym (ap (journaled_of slots) c.self.view_is)) is in
    let past = c.self.inside.journal.past in
    let due : IsNext (net_of slots c.self.inside.network) setup past c.args.step.now = record { stands = here.stands.stands; goes_on = here.goes_on; step_is = here.step_is } in
    let entry : c.entry.result ≡ next setup past c.args.step.now = c.entry.ensures ∙ c.last.ensures ∙ c.step-went.ensures.last setup past due in
    c.note.ensures.past ∙ ap (λ e. e ∷ past) entry ∙ ap (λ (n : JournaledNet). next setup n.journal.past c.args.step.now ∷ n.journal.past) (ap (journaled_of slots) c.self.view_is)

pub returns-clause-guarantees : goal.returns-clause-guarantees
returns-clause-guarantees g c = λ setup is.
    let now = (returns-clause-stands g c setup is).stands in
    step_guarantees setup _ now.network now.lawful

pub returns-clause-went : goal.returns-clause-went
returns-clause-went g c = λ setup is.
    let slots = g.B.Workbench.slots in
    let here = subst (λ (n : JournaledNet). IsNetNext n setup c.args.step.now) (sym (ap (journaled_of slots) c.self.view_is)) is in
    let due : IsNext (net_of slots c.self.inside.network) setup c.self.inside.journal.past c.args.step.now = record { stands = here.stands.stands; goes_on = here.goes_on; step_is = here.step_is } in
    c.step-went.ensures.went setup c.self.inside.journal.past due ∙ ap (λ (n : JournaledNet). went_of (next setup n.journal.past c.args.step.now)) (ap (journaled_of slots) c.self.view_is)

pub returns-clause-idle : goal.returns-clause-idle
returns-clause-idle g c = λ cause is.
    c.step-went.ensures.idle cause is ∙ ap (λ (n : JournaledNet). record n.network { last = c.step-went.new.self.last }) (ap (journaled_of g.B.Workbench.slots) c.self.view_is)
