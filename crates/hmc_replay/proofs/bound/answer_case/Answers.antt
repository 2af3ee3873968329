-- By whether there are one cube and one link.
use Rattle.std.proofs.Common.{◌≡◌, Bool, true, false, Err}
use Rattle.hmc_journal.specs.Setup.{setup_of}
use Rattle.hmc_replay.specs.Units.{slots_of}
use Rattle.hmc_replay.proofs.Answering.{bounds_single, bounds_more}
use Rattle.hmc_replay.proofs.bound.answer_case.Goals as goal

not_both : (b : Bool) → b ≡ true → b ≡ false → ⊥
not_both b yes_it_is no_it_isnt = cc

pub returns-then-not-is_single : goal.returns-then-not-is_single
returns-then-not-is_single g c =
    let setup = setup_of c.args.case.now (slots_of g.U.LogicUnit.meaning c.args.units.items) in
    bounds_more g.O.Sink.shows _ _ setup (Err c.refuse_more.result)
    (c.refuse_more.ensures setup
    (λ single. not_both c.is_single.result
    (c.is_single.ensures.1 (record { cubes = single.cubes; links = single.links }))
    c.if-not-is_single.true))

pub returns : goal.returns
returns g c =
    let slots = slots_of g.U.LogicUnit.meaning c.args.units.items in
    let single = c.is_single.ensures.0 c.if-not-is_single.false in
    bounds_single g.O.Sink.shows _ _ (setup_of c.args.case.now slots) c.report.result
    (record { cubes = single.cubes; links = single.links })
    (c.drains.ensures.bounds c.args.case.now slots c.invariant.ensures
    (record { cubes = single.cubes; links = single.links }))
    c.report.ensures
