-- The step is one that may come next.
use Rattle.std.proofs.Common.{◌≡◌, ◌∙◌, None, refl, ap, sym, subst}
use Rattle.hmc_growing.specs.Growing.{with_step}
use Rattle.hmc_journal.specs.Next.{next}
use Rattle.hmc_growing.proofs.AddedStep.{same_entry}
use Rattle.hmc_net.specs.Went.{went_of}
use Rattle.hmc_session.specs.Refusals.{step_refusal}
use Rattle.hmc_session.specs.Session.{SessionFields, StandsIn, session_of}
use Rattle.hmc_session.proofs.Standing.{MayTake, may_take, next_is, some_next, stands_next, keeps_with, host_there, free_now}
use Rattle.hmc_session.proofs.session.Session.step.Goals as goal

pub due_refusal-requires : goal.due_refusal-requires
due_refusal-requires g c = λ host there.
    let i = c.self.inside in
    let slots = g.B.Workbench.slots in
    let s : SessionFields = session_of slots (record { network = i.network; plan = i.plan; finished = i.finished; taken = i.count.taken; passed = i.count.passed }) in
    host_there s host c.self.invariant there

pub step-went-requires : goal.step-went-requires
step-went-requires g c =
    let i = c.self.inside in
    let slots = g.B.Workbench.slots in
    let s : SessionFields = session_of slots (record { network = i.network; plan = i.plan; finished = i.finished; taken = i.count.taken; passed = i.count.passed }) in
    let free : step_refusal s c.args.step.now ≡ None = free_now s c.args.step.now c.add_unless_over.result c.due_refusal.result c.add_unless_over.ensures.over c.if-add_unless_over.false c.due_refusal.ensures.value c.in_default.is in
    let may : MayTake s c.args.step.now = may_take s c.args.step.now (c.due_refusal.ensures.within c.in_default.is) c.has_flit.ensures free in
    some_next s c.args.step.now c.self.invariant may

pub invariant_of-self-2 : goal.invariant_of-self-2
invariant_of-self-2 g c =
    let i = c.self.inside in
    let slots = g.B.Workbench.slots in
    let s : SessionFields = session_of slots (record { network = i.network; plan = i.plan; finished = i.finished; taken = i.count.taken; passed = i.count.passed }) in
    let free : step_refusal s c.args.step.now ≡ None = free_now s c.args.step.now c.add_unless_over.result c.due_refusal.result c.add_unless_over.ensures.over c.if-add_unless_over.false c.due_refusal.ensures.value c.in_default.is in
    let may : MayTake s c.args.step.now = may_take s c.args.step.now (c.due_refusal.ensures.within c.in_default.is) c.has_flit.ensures free in
    let keeps = c.self.invariant in
    let setup = keeps.case in
    let past = keeps.journal in
    let due = next_is s setup past c.args.step.now keeps may keeps.stands in
    keeps_with s _ setup (with_step setup c.args.step.now) past _ keeps keeps.stands
    (stands_next s _ setup past c.args.step.now keeps may keeps.stands (c.step-went.ensures.stands (with_step setup c.args.step.now) past due) (c.note.ensures.taken ∙ c.add_unless_over.ensures.taken c.if-add_unless_over.false)
    (c.note.ensures.passed (next (with_step setup c.args.step.now) past c.args.step.now) (c.step-went.ensures.went (with_step setup c.args.step.now) past due)) refl (c.step-went.ensures.last (with_step setup c.args.step.now) past due)) refl refl refl

pub returns-clause-stands : goal.returns-clause-stands
returns-clause-stands g c = λ setup past is.
    let i = c.self.inside in
    let slots = g.B.Workbench.slots in
    let s : SessionFields = session_of slots (record { network = i.network; plan = i.plan; finished = i.finished; taken = i.count.taken; passed = i.count.passed }) in
    let same : s ≡ session_of slots c.args.self.now = ap (session_of slots) c.self.view_is in
    let free : step_refusal s c.args.step.now ≡ None = free_now s c.args.step.now c.add_unless_over.result c.due_refusal.result c.add_unless_over.ensures.over c.if-add_unless_over.false c.due_refusal.ensures.value c.in_default.is in
    let may : MayTake s c.args.step.now = may_take s c.args.step.now (c.due_refusal.ensures.within c.in_default.is) c.has_flit.ensures free in
    let before : StandsIn s setup past = subst (λ (x : SessionFields). StandsIn x setup past) (sym same) is in
    let due = next_is s setup past c.args.step.now c.self.invariant may before in
    stands_next s _ setup past c.args.step.now c.self.invariant may before (c.step-went.ensures.stands (with_step setup c.args.step.now) past due) (c.note.ensures.taken ∙ c.add_unless_over.ensures.taken c.if-add_unless_over.false)
    (c.note.ensures.passed (next (with_step setup c.args.step.now) past c.args.step.now) (c.step-went.ensures.went (with_step setup c.args.step.now) past due)) refl (c.step-went.ensures.last (with_step setup c.args.step.now) past due)

pub returns-clause-went : goal.returns-clause-went
returns-clause-went g c = λ setup past is.
    let i = c.self.inside in
    let slots = g.B.Workbench.slots in
    let s : SessionFields = session_of slots (record { network = i.network; plan = i.plan; finished = i.finished; taken = i.count.taken; passed = i.count.passed }) in
    let same : s ≡ session_of slots c.args.self.now = ap (session_of slots) c.self.view_is in
    let free : step_refusal s c.args.step.now ≡ None = free_now s c.args.step.now c.add_unless_over.result c.due_refusal.result c.add_unless_over.ensures.over c.if-add_unless_over.false c.due_refusal.ensures.value c.in_default.is in
    let may : MayTake s c.args.step.now = may_take s c.args.step.now (c.due_refusal.ensures.within c.in_default.is) c.has_flit.ensures free in
    let before : StandsIn s setup past = subst (λ (x : SessionFields). StandsIn x setup past) (sym same) is in
    c.step-went.ensures.went (with_step setup c.args.step.now) past (next_is s setup past c.args.step.now c.self.invariant may before) ∙ ap went_of (same_entry setup past c.args.step.now c.args.step.now)

pub returns-clause-last : goal.returns-clause-last
returns-clause-last g c =
    let i = c.self.inside in
    let slots = g.B.Workbench.slots in
    let s : SessionFields = session_of slots (record { network = i.network; plan = i.plan; finished = i.finished; taken = i.count.taken; passed = i.count.passed }) in
    let free : step_refusal s c.args.step.now ≡ None = free_now s c.args.step.now c.add_unless_over.result c.due_refusal.result c.add_unless_over.ensures.over c.if-add_unless_over.false c.due_refusal.ensures.value c.in_default.is in
    let may : MayTake s c.args.step.now = may_take s c.args.step.now (c.due_refusal.ensures.within c.in_default.is) c.has_flit.ensures free in
    let due = some_next s c.args.step.now c.self.invariant may in
    c.step-went.ensures.went due.0 due.1 due.2 ∙ ap went_of (sym (c.step-went.ensures.last due.0 due.1 due.2))
