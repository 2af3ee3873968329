-- What the next step makes is what one try makes.
use Rattle.std.proofs.Common.{◌≡◌, ◌∙◌, Ok, Err, ap, sym, subst}
use Rattle.hmc_session.specs.Refusals.{step_refusal}
use Rattle.hmc_session.specs.Running.{stopped_at}
use Rattle.hmc_session.specs.Session.{SessionFields, IsWaiting, session_of}
use Rattle.hmc_session.specs.declared.refusal.NotTaken.TheVariants.{Unknown, Over}
use Rattle.hmc_session.proofs.Runs.{runs_none, runs_wait, tries_taken, tries_refused, tries_ended}
use Rattle.hmc_tape.specs.declared.taped.NotTaped.TheVariants as causes
use Rattle.hmc_tape.specs.Tape.{TapedFields, IsTapeOf, taped_of}
use Rattle.hmc_tape.proofs.Tries.{NextSays, next_taken, next_refused, next_waiting, next_lacking, next_none}
use Rattle.hmc_tape.proofs.taped.Taped.try_next.Goals as goal

pub returns-in-Ok-Some-clause-tries : goal.returns-in-Ok-Some-clause-tries
returns-in-Ok-Some-clause-tries g c = λ setup past tape.
    let slots = g.B.Workbench.slots in
    let before : TapedFields = taped_of slots c.args.self.now in
    let now : TapedFields = taped_of slots c.next.new.self in
    let says : NextSays before now c.args.laid.now c.next.new.laid c.next.result = (c.next.ensures.none, c.next.ensures.steps) in
    let t = next_taken before now c.args.laid.now c.next.new.laid c.next.result c.in-Ok-Some.field-0-0 (c.in-Ok-Some.is ∙ ap Ok c.in-Ok-Some.field-0-is) says setup past tape in
    let stop : c.stopped.result ≡ stopped_at c.args.stops.now now.session.net.last = c.stopped.ensures ∙ ap (λ (s : SessionFields). stopped_at c.args.stops.now s.net.last) (ap (session_of slots) c.session.ensures) in
    tries_taken (IsTapeOf now) c.stopped.result now.session setup past c.args.laid.now c.next.new.laid c.args.stops.now t.0 t.1 t.2.stands t.2 stop

pub returns-in-Ok-None-clause-tries : goal.returns-in-Ok-None-clause-tries
returns-in-Ok-None-clause-tries g c = λ setup past tape.
    let slots = g.B.Workbench.slots in
    let before : TapedFields = taped_of slots c.args.self.now in
    let now : TapedFields = taped_of slots c.next.new.self in
    let says : NextSays before now c.args.laid.now c.next.new.laid c.next.result = (c.next.ensures.none, c.next.ensures.steps) in
    let t = next_none before now c.args.laid.now c.next.new.laid c.next.result (c.in-Ok-None.is ∙ ap Ok c.in-Ok-None.field-0-is) says in
    tries_ended (IsTapeOf now) now.session setup past c.args.laid.now c.next.new.laid c.args.stops.now (subst (λ (x : TapedFields). IsTapeOf x setup past) (sym t.2) tape) t.0 t.1

pub returns-in-Err-Refused-Waits-clause-tries : goal.returns-in-Err-Refused-Waits-clause-tries
returns-in-Err-Refused-Waits-clause-tries g c = λ setup past tape.
    let slots = g.B.Workbench.slots in
    let before : TapedFields = taped_of slots c.args.self.now in
    let now : TapedFields = taped_of slots c.next.new.self in
    let says : NextSays before now c.args.laid.now c.next.new.laid c.next.result = (c.next.ensures.none, c.next.ensures.steps) in
    let e = c.in-Err-Refused-Waits in
    let t = next_waiting before now c.args.laid.now c.next.new.laid c.next.result (e.is ∙ ap Err (e.field-0-is ∙ ap causes.Refused e.field-0-0-is)) says setup past tape in
    runs_wait (IsTapeOf now) now.session.finished setup past c.args.laid.now c.next.new.laid c.args.stops.now t.0 (subst (λ (x : TapedFields). IsTapeOf x setup past) (sym t.3) tape) t.1 (subst (λ (x : TapedFields). IsWaiting x.session.finished setup past t.0) (sym t.3) t.2)

pub returns-in-Err-Refused-Unknown-clause-tries : goal.returns-in-Err-Refused-Unknown-clause-tries
returns-in-Err-Refused-Unknown-clause-tries g c = λ setup past tape.
    let slots = g.B.Workbench.slots in
    let before : TapedFields = taped_of slots c.args.self.now in
    let now : TapedFields = taped_of slots c.next.new.self in
    let says : NextSays before now c.args.laid.now c.next.new.laid c.next.result = (c.next.ensures.none, c.next.ensures.steps) in
    let e = c.in-Err-Refused-Unknown in
    let t = next_refused before now c.args.laid.now c.next.new.laid c.next.result Unknown (e.is ∙ ap Err (e.field-0-is ∙ ap causes.Refused e.field-0-0-is)) says in
    tries_refused (IsTapeOf now) Unknown before.session now.session setup past c.args.laid.now c.next.new.laid c.args.stops.now t.0 (subst (λ (x : TapedFields). IsTapeOf x setup past) (sym t.3) tape) (ap (λ (x : TapedFields). x.session) t.3) t.1 t.2

pub returns-in-Err-Refused-Over-clause-tries : goal.returns-in-Err-Refused-Over-clause-tries
returns-in-Err-Refused-Over-clause-tries g c = λ setup past tape.
    let slots = g.B.Workbench.slots in
    let before : TapedFields = taped_of slots c.args.self.now in
    let now : TapedFields = taped_of slots c.next.new.self in
    let says : NextSays before now c.args.laid.now c.next.new.laid c.next.result = (c.next.ensures.none, c.next.ensures.steps) in
    let e = c.in-Err-Refused-Over in
    let t = next_refused before now c.args.laid.now c.next.new.laid c.next.result Over (e.is ∙ ap Err (e.field-0-is ∙ ap causes.Refused e.field-0-0-is)) says in
    tries_refused (IsTapeOf now) Over before.session now.session setup past c.args.laid.now c.next.new.laid c.args.stops.now t.0 (subst (λ (x : TapedFields). IsTapeOf x setup past) (sym t.3) tape) (ap (λ (x : TapedFields). x.session) t.3) t.1 t.2

pub returns-in-Err-Memory-clause-tries : goal.returns-in-Err-Memory-clause-tries
returns-in-Err-Memory-clause-tries g c = λ setup past tape.
    let slots = g.B.Workbench.slots in
    let before : TapedFields = taped_of slots c.args.self.now in
    let now : TapedFields = taped_of slots c.next.new.self in
    let says : NextSays before now c.args.laid.now c.next.new.laid c.next.result = (c.next.ensures.none, c.next.ensures.steps) in
    let t = next_lacking before now c.args.laid.now c.next.new.laid c.next.result (c.in-Err-Memory.is ∙ ap Err c.in-Err-Memory.field-0-is) says in
    (record { step = t.0; rest = t.1; left_is = t.2; free = ap (λ (x : TapedFields). step_refusal x.session t.0) t.4 ∙ t.5 }, runs_none (IsTapeOf now) now.session.finished setup past c.args.laid.now c.next.new.laid c.args.stops.now (subst (λ (x : TapedFields). IsTapeOf x setup past) (sym t.4) tape) t.3)
