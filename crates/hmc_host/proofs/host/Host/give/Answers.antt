-- What the host answers says what may be noted, and each clause.
use Rattle.hmc_host.proofs.GiveLemmas.{says_left, says_free, says_ended, says_tags, says_lowest}
use Rattle.hmc_host.proofs.host.Host.give.Goals as goal

pub note-requires-clause-left : goal.note-requires-clause-left
note-requires-clause-left c = says_left _ _ _ c.next_given-given.ensures

pub note-requires-clause-free : goal.note-requires-clause-free
note-requires-clause-free c = says_free _ _ _ c.next_given-given.ensures

pub returns-clause-ended : goal.returns-clause-ended
returns-clause-ended c = says_ended _ _ _ c.next_given-given.ensures

pub returns-clause-tags : goal.returns-clause-tags
returns-clause-tags c = says_tags _ _ _ c.invariant.ensures c.next_given-given.ensures

pub returns-clause-lowest : goal.returns-clause-lowest
returns-clause-lowest c = says_lowest _ _ _ c.next_given-given.ensures
