-- By the comparison with the text of the one whole journal.
use Rattle.std.proofs.Common.{Some, None}
use Rattle.hmc_check.proofs.Verdicts.{verdict_is}
use Rattle.hmc_check.proofs.Following.{verdict_of, rest_few}
use Rattle.hmc_check.proofs.checker.check_in.Goals as goal

pub finish-requires : goal.finish-requires
finish-requires g c = let all = c.in-Ok.ensures c.requires.0 c.requires.1 in rest_few _ _ _ _ all.lines

pub returns-in-Err : goal.returns-in-Err
returns-in-Err g c = λ setup is. verdict_is setup _ (Some c.in-Err.line) (c.in-Err.ensures setup is)

pub returns-in-Err-finish : goal.returns-in-Err-finish
returns-in-Err-finish g c = λ setup is.
    let all = c.in-Ok.ensures setup is in verdict_is setup _ (Some c.in-Err-finish.line) (c.in-Err-finish.ensures.follows setup _ all)

pub returns-in-None : goal.returns-in-None
returns-in-None g c = λ setup is.
    let all = c.in-Ok.ensures setup is in verdict_of setup _ _ None (c.in-None.ensures _ (c.in-Ok-finish.ensures.follows setup _ all)) all.entries_are

pub returns-in-Some : goal.returns-in-Some
returns-in-Some g c = λ setup is.
    let all = c.in-Ok.ensures setup is in verdict_is setup _ (Some c.in-Some.line) (c.in-Some.ensures _ (c.in-Ok-finish.ensures.follows setup _ all))
