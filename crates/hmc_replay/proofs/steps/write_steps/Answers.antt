-- One round more, and its lines; or no further one is taken; or a line broke off.
use Rattle.std.proofs.Common.{[], ◌∙◌, Ok, ap, arith, sym}
use Rattle.hmc_replay.proofs.Stepping.{left_same, round_wrote, all_wrote, lines-none}
use Rattle.hmc_replay.proofs.steps.write_steps.Goals as goal

pub rounds-init : goal.rounds-init
rounds-init g c = λ setup is. ([], left_same _ setup [] _ _ is (sym c.in_rounds-rounds.ensures), lines-none _)

pub write_round-requires : goal.write_round-requires
write_round-requires g c =
    let now = c.rounds.invariant c.requires.0 c.requires.1 in
    (c.requires.0, now.0, left_same _ c.requires.0 now.0 _ _ now.1 c.in-Some.ensures.some)

pub returns-in-Ok-true : goal.returns-in-Ok-true
returns-in-Ok-true g c = λ setup is.
    let now = c.rounds.invariant setup is in
    let here = left_same _ setup now.0 _ _ now.1 c.in-Some.ensures.some in
    round_wrote _ setup _ _ _ _ _ (c.in-Ok-true.is ∙ ap Ok c.in-Ok-true.field-0-test) (c.write_round.ensures.wrote setup now.0 _ here now.2)

pub rounds-smaller : goal.rounds-smaller
rounds-smaller g c = omega (arith, c.write_round.ensures.rounds, c.in-Some.ensures.fewer)

pub rounds-preserved : goal.rounds-preserved
rounds-preserved g c = λ setup is.
    let now = c.rounds.invariant setup is in
    let here = left_same _ setup now.0 _ _ now.1 c.in-Some.ensures.some in
    round_wrote _ setup _ _ _ _ _ (c.in-Ok-false.is ∙ ap Ok c.in-Ok-false.field-0-test) (c.write_round.ensures.wrote setup now.0 _ here now.2)

pub returns-in-Err : goal.returns-in-Err
returns-in-Err g c = λ setup is.
    let now = c.rounds.invariant setup is in
    let here = left_same _ setup now.0 _ _ now.1 c.in-Some.ensures.some in
    round_wrote _ setup _ _ _ _ _ c.in-Err.is (c.write_round.ensures.wrote setup now.0 _ here now.2)

pub returns : goal.returns
returns g c = λ setup is.
    let now = c.rounds.invariant setup is in
    all_wrote _ setup _ now.0 _ _ now.1 c.in_default.ensures.none now.2
