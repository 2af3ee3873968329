-- One round more, and its lines; or no further one is taken; or the report differs.
use Rattle.std.proofs.Common.{[], ◌∙◌, Ok, ap, arith, sym}
use Rattle.hmc_check.proofs.Rounds.{following_same, round_told}
use Rattle.hmc_check.proofs.checker.follow_rounds.Goals as goal

pub rounds-init : goal.rounds-init
rounds-init g c = λ setup is. ([], following_same _ setup [] _ _ _ _ _ _ is (sym c.in_rounds-rounds.ensures))

pub follow_round-requires : goal.follow_round-requires
follow_round-requires g c =
    let now = c.rounds.invariant c.requires.0 c.requires.1 in
    (c.requires.0, now.0, following_same _ c.requires.0 now.0 _ _ _ _ _ _ now.1 c.in-Some.ensures.some)

pub returns-in-Ok-true : goal.returns-in-Ok-true
returns-in-Ok-true g c = λ setup is.
    let now = c.rounds.invariant setup is in
    let here = following_same _ setup now.0 _ _ _ _ _ _ now.1 c.in-Some.ensures.some in
    round_told _ setup _ _ _ _ _ _ _ (c.in-Ok-true.is ∙ ap Ok c.in-Ok-true.field-0-test) (c.follow_round.ensures.followed setup now.0 here)

pub rounds-smaller : goal.rounds-smaller
rounds-smaller g c = omega (arith, c.follow_round.ensures.rounds, c.in-Some.ensures.fewer)

pub rounds-preserved : goal.rounds-preserved
rounds-preserved g c = λ setup is.
    let now = c.rounds.invariant setup is in
    let here = following_same _ setup now.0 _ _ _ _ _ _ now.1 c.in-Some.ensures.some in
    round_told _ setup _ _ _ _ _ _ _ (c.in-Ok-false.is ∙ ap Ok c.in-Ok-false.field-0-test) (c.follow_round.ensures.followed setup now.0 here)

pub returns-in-Err : goal.returns-in-Err
returns-in-Err g c = λ setup is.
    let now = c.rounds.invariant setup is in
    let here = following_same _ setup now.0 _ _ _ _ _ _ now.1 c.in-Some.ensures.some in
    round_told _ setup _ _ _ _ _ _ _ c.in-Err.is (c.follow_round.ensures.followed setup now.0 here)

pub returns : goal.returns
returns g c = λ setup is.
    let now = c.rounds.invariant setup is in
    (now.0, following_same _ setup now.0 _ _ _ _ _ _ now.1 c.in_default.ensures.none)
