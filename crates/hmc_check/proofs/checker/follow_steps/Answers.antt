-- All steps, and then what is still gathered.
use Rattle.hmc_check.proofs.Following.{gathered_come, compared_all, rest_few}
use Rattle.hmc_check.proofs.Rounds.{follows_first, followed_by}
use Rattle.hmc_check.proofs.checker.follow_steps.Goals as goal

pub follow_rounds-requires : goal.follow_rounds-requires
follow_rounds-requires g c = (c.requires.0, follows_first _ c.requires.0 _ _ _ c.new.ensures c.requires.1)

pub returns-in-Err : goal.returns-in-Err
returns-in-Err g c = λ setup is. c.in-Err.ensures setup (follows_first _ setup _ _ _ c.new.ensures is)

pub compare_text-requires : goal.compare_text-requires
compare_text-requires g c =
    let all = followed_by _ c.requires.0 c.in-Ok.passed _ _ _ _ (c.in-Ok.ensures c.requires.0 (follows_first _ c.requires.0 _ _ _ c.new.ensures c.requires.1)) in
    rest_few _ _ _ _ all.lines

pub returns-in-Ok-compare_text : goal.returns-in-Ok-compare_text
returns-in-Ok-compare_text g c = λ setup is.
    let all = followed_by _ setup c.in-Ok.passed _ _ _ _ (c.in-Ok.ensures setup (follows_first _ setup _ _ _ c.new.ensures is)) in
    compared_all _ setup _ _ _ _ _ _ _ all (c.in-Ok-compare_text.ensures.follows _ _ (gathered_come _ setup _ _ _ _ _ all)) c.compare_text.ensures.entries

pub returns-in-Err-compare_text : goal.returns-in-Err-compare_text
returns-in-Err-compare_text g c = λ setup is.
    let all = followed_by _ setup c.in-Ok.passed _ _ _ _ (c.in-Ok.ensures setup (follows_first _ setup _ _ _ c.new.ensures is)) in
    c.in-Err-compare_text.ensures.follows _ _ (gathered_come _ setup _ _ _ _ _ all)
