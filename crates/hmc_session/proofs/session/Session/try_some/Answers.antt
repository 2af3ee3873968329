-- What came of the steps at hand, or of the next one, came of the laid steps.
use Rattle.std.proofs.Common.{◌≡◌, ◌∙◌, ◌≤◌, ◌-◌, ℕ, List, length, take, drop, ap, subst, arith}
use Rattle.std.proofs.lemmas.List.{length-take-le}
use Rattle.hmc_schedule.specs.declared.step.Step.{Step}
use Rattle.hmc_session.specs.Running.{TriesAll}
use Rattle.hmc_session.specs.Session.{SessionFields, StandsIn, session_of}
use Rattle.hmc_session.proofs.Runs.{tries_first, tries_one}
use Rattle.hmc_session.proofs.session.Session.try_some.Goals as goal

pub returns-then-is_empty-clause-tries : goal.returns-then-is_empty-clause-tries
returns-then-is_empty-clause-tries g c = λ setup past stands.
    let now : SessionFields = session_of g.B.Workbench.slots c.try_found-ran.new.self in
    let ran = c.try_found-ran.result in
    let left = c.try_found-ran.new.laid in
    let one : 1 ≡ c.args.most - (c.args.most - 1) = omega (arith, c.requires.some) in
    subst (λ (k : ℕ). TriesAll (StandsIn now) ran now setup past c.args.laid.now left c.args.stops.now k) one
    (subst (λ (l : List Step). TriesAll (StandsIn now) ran now setup past l left c.args.stops.now 1) c.bring.ensures
    (tries_one (StandsIn now) ran now setup past c.bring.new.self left c.args.stops.now (c.try_found-ran.ensures.tries setup past stands)))

pub returns-clause-tries : goal.returns-clause-tries
returns-clause-tries g c = λ setup past stands.
    let now : SessionFields = session_of g.B.Workbench.slots c.try_all-tries.new.self in
    let hand = c.at_hand-hand.result.now in
    let laid = c.args.laid.now in
    let first : take (length hand) laid ≡ hand = subst (λ (l : List Step). take (length hand) l ≡ hand) c.bring.ensures c.at_hand-hand.ensures in
    let many = c.min-many.result in
    let over = c.try_all-tries.result.left in
    let some : many ≤ length hand = omega (arith, c.min-many.ensures) in
    tries_first (StandsIn now) c.try_all-tries.result.ran now setup past hand laid c.pass.new.self c.args.stops.now many over c.args.most first some (omega (arith, c.min-many.ensures))
    (omega (arith, c.try_all-tries.ensures.few, length-take-le many hand some)) (c.pass.ensures ∙ ap (drop (many - over)) c.bring.ensures) (λ after. c.try_all-tries.ensures.tries setup past after stands)
