use Rattle.hmc_callers.proofs.link.offer.Goals as goal

pub returns-then-has_room-clause-handed : goal.returns-then-has_room-clause-handed
returns-then-has_room-clause-handed g c = λ sizes past stands has. c.hand.ensures.stands sizes past stands
