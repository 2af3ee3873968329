-- One round more; or no further one is taken.
use Rattle.std.proofs.Common.{[], arith, sym}
use Rattle.hmc_replay.proofs.Stepping.{left_same, round_took, all_took}
use Rattle.hmc_replay.proofs.steps.take_steps.Goals as goal

pub rounds-init : goal.rounds-init
rounds-init g c = λ setup is. ([], left_same _ setup [] _ _ is (sym c.in_rounds-rounds.ensures))

pub take_round-requires : goal.take_round-requires
take_round-requires g c =
    let now = c.rounds.invariant c.requires.0 c.requires.1 in
    (c.requires.0, now.0, left_same _ c.requires.0 now.0 _ _ now.1 c.in-Some.ensures.some)

pub returns-then-take_round : goal.returns-then-take_round
returns-then-take_round g c = λ setup is.
    let now = c.rounds.invariant setup is in
    let here = left_same _ setup now.0 _ _ now.1 c.in-Some.ensures.some in
    round_took _ setup _ _ _ c.if-take_round.true (c.take_round.ensures.taken setup now.0 here)

pub rounds-smaller : goal.rounds-smaller
rounds-smaller g c = omega (arith, c.take_round.ensures.rounds, c.in-Some.ensures.fewer)

pub rounds-preserved : goal.rounds-preserved
rounds-preserved g c = λ setup is.
    let now = c.rounds.invariant setup is in
    let here = left_same _ setup now.0 _ _ now.1 c.in-Some.ensures.some in
    round_took _ setup _ _ _ c.if-take_round.false (c.take_round.ensures.taken setup now.0 here)

pub returns : goal.returns
returns g c = λ setup is.
    let now = c.rounds.invariant setup is in all_took _ setup _ now.0 now.1 c.in_default.ensures.none
