-- The host may be asked.
use Rattle.std.proofs.Common.{◌≡◌, ◌<◌, length, refl, ap, sym, subst}
use Rattle.hmc_codes.specs.Request.{RequestFields}
use Rattle.hmc_script.specs.Items.{ItemFields, asked_item}
use Rattle.hmc_growing.specs.Growing.{with_item}
use Rattle.hmc_net.specs.NetState.{NetState}
use Rattle.hmc_session.specs.Session.{SessionFields, StandsIn, IsSession, session_of}
use Rattle.hmc_session.proofs.Standing.{may_from, stands_asked, keeps_with, host_there, cube_there}
use Rattle.hmc_session.proofs.session.Session.ask.Goals as goal

pub ask-requires-clause-there : goal.ask-requires-clause-there
ask-requires-clause-there g c =
    let i = c.self.inside in
    let slots = g.B.Workbench.slots in
    let s : SessionFields = session_of slots (record {
      network = i.network;
      plan = i.plan;
      finished = i.finished;
      taken = i.count.taken;
      passed = i.count.passed;
    }) in
    let same : s ≡ session_of slots c.args.self.now = ap (session_of slots) c.self.view_is in
    host_there s c.args.host c.self.invariant
    (subst (λ (x : SessionFields). c.args.host < x.plan.hosts) (sym same)
    (c.in_default.ensures.may refl).some_host)

pub invariant_of-self : goal.invariant_of-self
invariant_of-self g c =
    let i = c.self.inside in
    let slots = g.B.Workbench.slots in
    let s : SessionFields = session_of slots (record {
      network = i.network;
      plan = i.plan;
      finished = i.finished;
      taken = i.count.taken;
      passed = i.count.passed;
    }) in
    subst (λ (n : NetState). IsSession (record s { net = n })) (sym c.in_err-ask.ensures.err)
    c.self.invariant

pub returns-clause-stands : goal.returns-clause-stands
returns-clause-stands g c = λ setup past is.
    let i = c.self.inside in
    let slots = g.B.Workbench.slots in
    let s : SessionFields = session_of slots (record {
      network = i.network;
      plan = i.plan;
      finished = i.finished;
      taken = i.count.taken;
      passed = i.count.passed;
    }) in
    let same : s ≡ session_of slots c.args.self.now = ap (session_of slots) c.self.view_is in
    let before : StandsIn s setup past =
    subst (λ (x : SessionFields). StandsIn x setup past) (sym same) is in
    let may = may_from s (session_of slots c.args.self.now) c.args.host _ same
    (c.in_default.ensures.may refl) in
    let cube = subst (λ (r : RequestFields). r.cube < length s.plan.cubes) c.request.view_is
    may.some_cube in
    let item : ItemFields = asked_item c.args.host c.args.fenced c.args.poisoned
    c.args.request.now in
    stands_asked s _ setup past item before
    (c.in_ok-ask.ensures.stands setup past before.stands (before.free c.args.host may.free)
    (cube_there s setup past c.args.request.now.cube c.self.invariant before cube)) refl refl
    refl (ap (λ (n : NetState). n.last) (c.in_ok-ask.ensures.asks setup past before.stands))

pub invariant_of-self-2 : goal.invariant_of-self-2
invariant_of-self-2 g c =
    let i = c.self.inside in
    let slots = g.B.Workbench.slots in
    let s : SessionFields = session_of slots (record {
      network = i.network;
      plan = i.plan;
      finished = i.finished;
      taken = i.count.taken;
      passed = i.count.passed;
    }) in
    let same : s ≡ session_of slots c.args.self.now = ap (session_of slots) c.self.view_is in
    let keeps = c.self.invariant in
    let before = keeps.stands in
    let may = may_from s (session_of slots c.args.self.now) c.args.host _ same
    (c.in_default.ensures.may refl) in
    let cube = subst (λ (r : RequestFields). r.cube < length s.plan.cubes) c.request.view_is
    may.some_cube in
    let item : ItemFields = asked_item c.args.host c.args.fenced c.args.poisoned
    c.args.request.now in
    keeps_with s _ keeps.case (with_item keeps.case item) keeps.journal keeps.journal keeps before
    (stands_asked s _ keeps.case keeps.journal item before
    (c.in_ok-ask.ensures.stands keeps.case keeps.journal before.stands
    (before.free c.args.host may.free)
    (cube_there s keeps.case keeps.journal c.args.request.now.cube keeps before cube)) refl refl
    refl (ap (λ (n : NetState). n.last)
    (c.in_ok-ask.ensures.asks keeps.case keeps.journal before.stands)))
    refl refl refl
