-- By whether a landing passed.
use Rattle.std.proofs.Common.{Bool, [], subst, sym}
use Rattle.hmc_check.specs.Past.{past_of}
use Rattle.hmc_check.specs.Following.{FollowedAll}
use Rattle.hmc_check.proofs.Following.{ended_passed, before_final}
use Rattle.hmc_check.proofs.checker.finish.Goals as goal

pub returns-then-passed-clause-follows : goal.returns-then-passed-clause-follows
returns-then-passed-clause-follows g c = λ setup entries all.
    ended_passed _ setup _ _ entries (subst (λ (p : Bool). FollowedAll (past_of g.B.Workbench.slots c.args.past.now) setup c.args.report.now c.args.rest.now [] p entries) c.if-passed.true all)

pub returns-clause-follows : goal.returns-clause-follows
returns-clause-follows g c = λ setup entries all.
    let on = subst (λ (p : Bool). FollowedAll (past_of g.B.Workbench.slots c.args.past.now) setup c.args.report.now c.args.rest.now [] p entries) c.if-passed.false all in
    c.follow_final.ensures.follows _ (before_final _ setup _ _ entries on (c.shows_journal.ensures setup _ on.stands (sym on.passed_is)))
