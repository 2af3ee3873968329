-- What the step makes is what one try makes.
use Rattle.std.proofs.Common.{◌≡◌, ◌∙◌, ◌∷◌, Option, Some, refl, ap, sym, subst}
use Rattle.std.specs.Prelude.{Result, Err, OnOk, OnErr, IfErr}
use Rattle.hmc_growing.specs.Growing.{with_step}
use Rattle.hmc_journal.specs.Next.{next}
use Rattle.hmc_net.specs.declared.went.Went.{Went}
use Rattle.hmc_session.specs.Refusals.{step_refusal}
use Rattle.hmc_session.specs.Running.{TriesBy}
use Rattle.hmc_session.specs.Session.{SessionFields, StandsIn, session_of}
use Rattle.hmc_session.specs.declared.refusal.NotTaken.{NotTaken}
use Rattle.hmc_session.specs.declared.run.Ran.{Ran}
use Rattle.hmc_session.proofs.Runs.{tries_taken, tries_not_taken}
use Rattle.hmc_session.proofs.session.Session.try_step.Goals as goal

pub returns-in-Ok-clause-tries : goal.returns-in-Ok-clause-tries
returns-in-Ok-clause-tries g c = λ setup past left stands.
    let step = c.args.step.now in
    let now : SessionFields = session_of g.B.Workbench.slots c.step.new.self in
    let more = subst (λ (r : Result Went NotTaken). OnOk r (StandsIn now (with_step setup step) (next setup past step ∷ past))) c.in-Ok.is (c.step.ensures.stands setup past stands) in
    tries_taken (StandsIn now) c.stopped_after.result now setup past (step ∷ left) left c.args.stops.now step refl more more c.stopped_after.ensures

pub returns-in-Err-clause-tries : goal.returns-in-Err-clause-tries
returns-in-Err-clause-tries g c = λ setup past left stands.
    let step = c.args.step.now in
    let before : SessionFields = session_of g.B.Workbench.slots c.args.self.now in
    let now : SessionFields = session_of g.B.Workbench.slots c.step.new.self in
    let refused = subst (λ (r : Result Went NotTaken). IfErr r (λ cause. step_refusal before step ≡ Some cause)) c.in-Err.is c.step.ensures.refused in
    let same = subst (λ (r : Result Went NotTaken). OnErr r (now ≡ before)) c.in-Err.is c.step.ensures.same in
    subst (λ (r : Option Ran). TriesBy (StandsIn now) r now setup past (step ∷ left) left c.args.stops.now) (sym c.ended_by.ensures)
    (tries_not_taken (StandsIn now) c.in-Err.refusal before now setup past (step ∷ left) left c.args.stops.now step (subst (λ (s : SessionFields). StandsIn s setup past) (sym same) stands) same refl refused (λ waits. c.step.ensures.waits setup past stands (c.in-Err.is ∙ ap Err waits)))
