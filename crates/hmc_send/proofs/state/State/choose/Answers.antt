use Rattle.std.proofs.Common.{◌≡◌, ◌∙◌, ℕ, List, Option, None, ap, drop, subst, sym}
use Rattle.std.specs.Prelude.{slice_get}
use Rattle.hmc_packet.specs.declared.feed.Feed.TheVariants.{Waiting}
use Rattle.hmc_packet.specs.declared.what.What.TheVariants as what
use Rattle.hmc_send.specs.declared.sent.Sent.TheVariants.{Out}
use Rattle.hmc_send.specs.declared.state.State.{State}
use Rattle.hmc_send.specs.Choice.{irtry_sent, first_time}
use Rattle.hmc_send.specs.Entries.{UnderWay}
use Rattle.hmc_send.specs.Given.{given_of, account_after, fronts_taken, IsTakenFit}
use Rattle.hmc_send.specs.Sender.{view_held, again_sent, again_begun, after_first}
use Rattle.hmc_send.proofs.SendLemmas.{choice-train, choice-part, choice-irtry, choice-again, choice-first, left-again, left-first, may-send, nothing-there, same-state, first-given}
use Rattle.hmc_send.proofs.state.State.choose.Goals as goal

pub returns-then-is_train-clause-answer : goal.returns-then-is_train-clause-answer
returns-then-is_train-clause-answer g c =
    let s = view_held c.args.self.now (given_of c.args.own (g.Q.Intake.packets c.args.queue.now) c.args.account.now c.args.feed.now) in
    ap (λ (f : List ℕ). Out f what.Train) c.constant_flits.ensures.training ∙ choice-train c.args.self.now.profile s c.if-is_train.ensures

pub returns-then-is_train-clause-may : goal.returns-then-is_train-clause-may
returns-then-is_train-clause-may g c = may-send c.args.self.now _ c.requires.sender c.fits.ensures.fits c.fits.ensures.part

pub returns-then-has_part-clause-answer : goal.returns-then-has_part-clause-answer
returns-then-has_part-clause-answer g c =
    let s = view_held c.args.self.now (given_of c.args.own (g.Q.Intake.packets c.args.queue.now) c.args.account.now c.args.feed.now) in
    choice-part c.args.self.now.profile s c.args.self.now.under_way c.go_on.result (λ i. c.args.self.now.under_way) c.if-is_train.ensures c.if-has_part.ensures c.go_on.ensures.answer

pub returns-then-has_part-clause-may : goal.returns-then-has_part-clause-may
returns-then-has_part-clause-may g c = may-send c.args.self.now _ c.requires.sender c.fits.ensures.fits c.fits.ensures.part

pub returns-in-Some-clause-answer : goal.returns-in-Some-clause-answer
returns-in-Some-clause-answer g c =
    let s = view_held c.args.self.now (given_of c.args.own (g.Q.Intake.packets c.args.queue.now) c.args.account.now c.args.feed.now) in
    let nothing = nothing-there c.args.self.now.under_way c.if-has_part.ensures in
    c.steer.ensures.flit ∙ ap (λ (t : State). irtry_sent t.profile c.args.own.rrp c.in-Some.kind) c.in-Some.ensures.left
    ∙ choice-irtry c.args.self.now.profile s c.in-Some.kind nothing c.if-is_train.ensures c.in-Some.ensures.kind

pub begin_again-requires-clause-nothing : goal.begin_again-requires-clause-nothing
begin_again-requires-clause-nothing g c =
    ap (λ (t : State). t.under_way) c.in_default.ensures.left ∙ nothing-there c.args.self.now.under_way c.if-has_part.ensures

pub returns-in-Some-begin_again-clause-answer : goal.returns-in-Some-begin_again-clause-answer
returns-in-Some-begin_again-clause-answer g c =
    let held = c.args.self.now in
    let given = given_of c.args.own (g.Q.Intake.packets c.args.queue.now) c.args.account.now c.args.feed.now in
    let nothing = nothing-there held.under_way c.if-has_part.ensures in
    choice-again held.profile held given c.in-Some-begin_again.sent (slice_get held.retry.kept held.retry.position) nothing c.if-is_train.ensures c.in_default.ensures.kind (λ i. slice_get held.retry.kept held.retry.position)
    (c.in-Some-begin_again.ensures.flit ∙ ap (λ (t : State). again_sent t.profile c.args.own.rrp (slice_get t.retry.kept t.retry.position)) c.in_default.ensures.left)

pub returns-in-Some-begin_again-clause-left : goal.returns-in-Some-begin_again-clause-left
returns-in-Some-begin_again-clause-left g c =
    let held = c.args.self.now in
    let given = given_of c.args.own (g.Q.Intake.packets c.args.queue.now) c.args.account.now c.args.feed.now in
    let nothing = nothing-there held.under_way c.if-has_part.ensures in
    c.in-Some-begin_again.ensures.left
    ∙ ap (λ (t : State). again_begun t.profile c.args.own.rrp (slice_get t.retry.kept t.retry.position) t) c.in_default.ensures.left
    ∙ left-again held.profile held given c.in-Some-begin_again.sent (slice_get held.retry.kept held.retry.position) nothing (λ i. slice_get held.retry.kept held.retry.position)
    (c.in-Some-begin_again.ensures.flit ∙ ap (λ (t : State). again_sent t.profile c.args.own.rrp (slice_get t.retry.kept t.retry.position)) c.in_default.ensures.left)

pub returns-clause-answer : goal.returns-clause-answer
returns-clause-answer g c =
    let held = c.args.self.now in
    let given = given_of c.args.own (g.Q.Intake.packets c.args.queue.now) c.args.account.now c.args.feed.now in
    let waits = given_of c.args.own (g.Q.Intake.packets c.args.queue.now) c.args.account.now Waiting in
    let nothing = nothing-there held.under_way c.if-has_part.ensures in
    let none : None ≡ again_sent held.profile c.args.own.rrp (slice_get held.retry.kept held.retry.position) =
    c.in_default-begin_again.ensures.flit ∙ ap (λ (t : State). again_sent t.profile c.args.own.rrp (slice_get t.retry.kept t.retry.position)) c.in_default.ensures.left in
    let same = same-state held c.next_irtry.new.self c.begin_again.new.self c.args.own.rrp c.in_default.ensures.left c.in_default-begin_again.ensures.left none in
    c.first_time.ensures.flit ∙ ap (λ (t : State). first_time t.profile (view_held t waits)) same
    ∙ choice-first held.profile held given nothing c.if-is_train.ensures c.in_default.ensures.kind none

pub returns-clause-left : goal.returns-clause-left
returns-clause-left g c =
    let held = c.args.self.now in
    let given = given_of c.args.own (g.Q.Intake.packets c.args.queue.now) c.args.account.now c.args.feed.now in
    let waits = given_of c.args.own (g.Q.Intake.packets c.args.queue.now) c.args.account.now Waiting in
    let nothing = nothing-there held.under_way c.if-has_part.ensures in
    let none : None ≡ again_sent held.profile c.args.own.rrp (slice_get held.retry.kept held.retry.position) =
    c.in_default-begin_again.ensures.flit ∙ ap (λ (t : State). again_sent t.profile c.args.own.rrp (slice_get t.retry.kept t.retry.position)) c.in_default.ensures.left in
    let same = same-state held c.next_irtry.new.self c.begin_again.new.self c.args.own.rrp c.in_default.ensures.left c.in_default-begin_again.ensures.left none in
    c.first_time.ensures.left ∙ ap (λ (t : State). after_first waits c.first_time.result t) same
    ∙ first-given held waits given c.first_time.result (λ i. c.args.own) (λ i. given.front) (λ i. given.due)
    ∙ left-first held given c.first_time.result nothing c.requires.sender.profile
    (c.first_time.ensures.flit ∙ ap (λ (t : State). first_time t.profile (view_held t waits)) same) c.first_time.ensures.lng

pub returns-in-Some-clause-may : goal.returns-in-Some-clause-may
returns-in-Some-clause-may g c = may-send c.args.self.now _ c.requires.sender c.fits.ensures.fits c.fits.ensures.part

pub returns-in-Some-begin_again-clause-may : goal.returns-in-Some-begin_again-clause-may
returns-in-Some-begin_again-clause-may g c = may-send c.args.self.now _ c.requires.sender c.fits.ensures.fits c.fits.ensures.part

pub returns-clause-may : goal.returns-clause-may
returns-clause-may g c = may-send c.args.self.now _ c.requires.sender c.fits.ensures.fits c.fits.ensures.part

-- nothing is under way, so the front of the queue may begin

pub returns-clause-begun : goal.returns-clause-begun
returns-clause-begun g c =
    subst (λ (u : Option UnderWay). IsTakenFit u c.first_time.result (slice_get (g.Q.Intake.packets c.args.queue.now) 0)) (sym (nothing-there c.args.self.now.under_way c.if-has_part.ensures)) c.first_time.ensures.begun

pub returns-clause-queue : goal.returns-clause-queue
returns-clause-queue g c =
    c.first_time.ensures.queue ∙ ap (λ (u : Option UnderWay). drop (fronts_taken u c.first_time.result) (g.Q.Intake.packets c.args.queue.now)) (sym (nothing-there c.args.self.now.under_way c.if-has_part.ensures))

pub returns-clause-account : goal.returns-clause-account
returns-clause-account g c =
    c.first_time.ensures.account ∙ ap (λ (u : Option UnderWay). account_after u (slice_get (g.Q.Intake.packets c.args.queue.now) 0) c.first_time.result c.args.account.now) (sym (nothing-there c.args.self.now.under_way c.if-has_part.ensures))
