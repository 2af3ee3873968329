-- By the laws of cases, of journals and of rounds.
use Rattle.hmc_replay.proofs.SomeAnswer.{is_answered}
use Rattle.hmc_replay.proofs.laws.answer_exists.Goals as goal

pub returns : goal.returns
returns c = λ form slots input.
    is_answered c.read_is_case.ensures c.made_is_case.ensures c.journal_guarantees.ensures c.drains.ensures.ends c.drains.ensures.appended form slots input
