-- By the laws of moves.
use Rattle.hmc_delivery.proofs.Delivering.{delivered_in_order, all_served}
use Rattle.hmc_delivery.proofs.laws.lawful_delivers.Goals as goal

pub returns-clause-delivered : goal.returns-clause-delivered
returns-clause-delivered c = delivered_in_order

pub returns-clause-served : goal.returns-clause-served
returns-clause-served c = all_served
