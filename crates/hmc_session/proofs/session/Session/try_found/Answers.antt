-- What the next step makes is what one try makes.
use Rattle.std.proofs.Common.{◌∙◌, Option, ap, sym, subst}
use Rattle.std.specs.Prelude.{Ok}
use Rattle.hmc_session.specs.Running.{TriesBy}
use Rattle.hmc_session.specs.Session.{SessionFields, StandsIn, session_of}
use Rattle.hmc_session.specs.declared.run.Ran.{Ran}
use Rattle.hmc_session.proofs.Runs.{taken_step, not_taken_step, no_step, tries_taken, tries_not_taken, tries_ended}
use Rattle.hmc_session.proofs.session.Session.try_found.Goals as goal

pub returns-in-Ok-Some-clause-tries : goal.returns-in-Ok-Some-clause-tries
returns-in-Ok-Some-clause-tries g c = λ setup past stands.
    let before : SessionFields = session_of g.B.Workbench.slots c.args.self.now in
    let now : SessionFields = session_of g.B.Workbench.slots c.next_found.new.self in
    let t = taken_step before now c.args.laid.now c.next_found.new.laid c.next_found.result c.in-Ok-Some.went (c.in-Ok-Some.is ∙ ap Ok c.in-Ok-Some.field-0-is) c.next_found.ensures.none c.next_found.ensures.steps setup past stands in
    tries_taken (StandsIn now) c.stopped_after.result now setup past c.args.laid.now c.next_found.new.laid c.args.stops.now t.0 t.1 t.2 t.2 c.stopped_after.ensures

pub returns-in-Ok-None-clause-tries : goal.returns-in-Ok-None-clause-tries
returns-in-Ok-None-clause-tries g c = λ setup past stands.
    let before : SessionFields = session_of g.B.Workbench.slots c.args.self.now in
    let now : SessionFields = session_of g.B.Workbench.slots c.next_found.new.self in
    let t = no_step before now c.args.laid.now c.next_found.new.laid c.next_found.result (c.in-Ok-None.is ∙ ap Ok c.in-Ok-None.field-0-is) c.next_found.ensures.none c.next_found.ensures.steps setup past stands in
    tries_ended (StandsIn now) now setup past c.args.laid.now c.next_found.new.laid c.args.stops.now (subst (λ (s : SessionFields). StandsIn s setup past) (sym t.2) stands) t.0 t.1

pub returns-in-Err-clause-tries : goal.returns-in-Err-clause-tries
returns-in-Err-clause-tries g c = λ setup past stands.
    let before : SessionFields = session_of g.B.Workbench.slots c.args.self.now in
    let now : SessionFields = session_of g.B.Workbench.slots c.next_found.new.self in
    let t = not_taken_step before now c.args.laid.now c.next_found.new.laid c.next_found.result c.in-Err.refusal c.in-Err.is c.next_found.ensures.none c.next_found.ensures.steps setup past stands in
    subst (λ (r : Option Ran). TriesBy (StandsIn now) r now setup past c.args.laid.now c.next_found.new.laid c.args.stops.now) (sym c.ended_by.ensures)
    (tries_not_taken (StandsIn now) c.in-Err.refusal before now setup past c.args.laid.now c.next_found.new.laid c.args.stops.now t.0 (subst (λ (s : SessionFields). StandsIn s setup past) (sym t.3) stands) t.3 t.1 t.2 t.4)
