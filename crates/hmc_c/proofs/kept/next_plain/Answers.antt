-- What became of the next step is its status.
use Rattle.std.proofs.Common.{false, ℕ, subst, sym}
use Rattle.hmc_session.specs.Session.{StandsIn}
use Rattle.hmc_c.specs.Kept.{plain_fields}
use Rattle.hmc_c.specs.Laying.{NextBy}
use Rattle.hmc_c.proofs.NextStep.{next_by}
use Rattle.hmc_c.proofs.kept.next_plain.Goals as goal

pub returns-clause-does : goal.returns-clause-does
returns-clause-does c = λ setup past stands.
    let before = plain_fields c.args.session.now in
    let now = plain_fields c.next.new.self in
    subst (λ (status : ℕ). NextBy status false before (StandsIn now) setup past c.args.laid.now c.next.new.laid) (sym c.next_status.ensures)
    (next_by c.args.laid.now c.next.new.laid c.next.result before now setup past c.next.ensures.none c.next.ensures.steps stands)
