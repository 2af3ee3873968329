-- There is room, or nothing is gathered any more.
use Rattle.hmc_check.proofs.Following.{nothing_more, room_of_none}
use Rattle.hmc_check.proofs.checker.make_room.Goals as goal

pub returns-clause-follows : goal.returns-clause-follows
returns-clause-follows c = λ text later come. nothing_more text _ _ later _ _ c.compare_text.ensures.none (c.compare_text.ensures.follows text later come)

pub returns-clause-room : goal.returns-clause-room
returns-clause-room c = room_of_none _ _ c.compare_text.ensures.none
