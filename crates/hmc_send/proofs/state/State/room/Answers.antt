use Rattle.std.proofs.Common.{◌∙◌}
use Rattle.hmc_send.proofs.CallLemmas.{room-open, room-same}
use Rattle.hmc_send.proofs.state.State.room.Goals as goal

pub returns-clause-value : goal.returns-clause-value
returns-clause-value c = rw (c.room.ensures, c.from.ensures ∙ c.open_flits.ensures) (room-open c.args.self.now)

pub returns-clause-by_list : goal.returns-clause-by_list
returns-clause-by_list c past stands = returns-clause-value c ∙ room-same c.args.self.now past stands
