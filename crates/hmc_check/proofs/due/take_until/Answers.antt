-- One round more; or no further one.
use Rattle.std.proofs.Common.{[], ◌∙◌, arith, sym}
use Rattle.hmc_check.proofs.DueLines.{due_of, passed_of}
use Rattle.hmc_check.proofs.Rounds.{before_same}
use Rattle.hmc_check.proofs.due.take_until.Goals as goal

pub rounds-init : goal.rounds-init
rounds-init g c = λ setup is. ([], before_same _ setup [] _ _ is (sym c.in_rounds-rounds.ensures), omega arith)

pub take_round-requires : goal.take_round-requires
take_round-requires g c =
    let now = c.rounds.invariant c.requires.0 c.requires.1 in
    (c.requires.0, now.0, before_same _ c.requires.0 now.0 _ _ now.1 c.in-Some.ensures.some)

pub returns-in-Due : goal.returns-in-Due
returns-in-Due g c = λ setup is.
    let now = c.rounds.invariant setup is in
    let here = before_same _ setup now.0 _ _ now.1 c.in-Some.ensures.some in
    due_of _ setup [] [] _ _ 0 0 now.2 (c.in-Due.ensures.taken setup now.0 here)

pub returns-in-Passed : goal.returns-in-Passed
returns-in-Passed g c = λ setup is.
    let now = c.rounds.invariant setup is in
    let here = before_same _ setup now.0 _ _ now.1 c.in-Some.ensures.some in
    passed_of _ setup [] [] _ _ 0 0 now.2 (c.in-Passed.ensures.taken setup now.0 here)

pub rounds-smaller : goal.rounds-smaller
rounds-smaller g c = omega (arith, c.take_round.ensures.rounds, c.in-Some.ensures.fewer)

pub rounds-preserved : goal.rounds-preserved
rounds-preserved g c = λ setup is.
    let now = c.rounds.invariant setup is in
    let here = before_same _ setup now.0 _ _ now.1 c.in-Some.ensures.some in
    let found = c.in-Later.ensures.taken setup now.0 here in (found.0, found.1, found.2 ∙ now.2)

pub returns : goal.returns
returns g c = λ setup is.
    let now = c.rounds.invariant setup is in
    (now.0, before_same _ setup now.0 _ _ now.1 c.in_default.ensures.none, now.2)
