-- The units of cubes: their steps and their queues.
use Rattle.std.specs.Prelude.{◌≡◌, ℕ, slice_get, Some}
use Rattle.hmc_codes.specs.Request.{RequestFields}
use Rattle.hmc_codes.specs.declared.lift.Lift.TheVariants as lifts
use Rattle.hmc_codes.specs.declared.unit.Unit.{Unit as RequestUnit}
use Rattle.hmc_codes.specs.declared.unit.Unit.TheVariants as units
use Rattle.hmc_packet.specs.Packet.{PacketFields}
use Rattle.hmc_packet.specs.Transactions.{request_in}
use Rattle.hmc_queues.specs.Queues.{packets_at}
use Rattle.hmc_queues.specs.declared.queue_name.QueueName.{QueueName}
use Rattle.hmc_queues.specs.declared.queue_name.QueueName.TheVariants as names
use Rattle.hmc_schedule.specs.declared.step.Step.{Step}
use Rattle.hmc_schedule.specs.declared.step.Step.TheVariants as steps
use Rattle.hmc_journal.specs.Setup.{unit_cube}
use Rattle.hmc_check.specs.Past.{PastFields}

-- the step of a unit
abbrev pub step_of : RequestUnit → Step
step_of (units.Bank cube vault bank) = steps.Bank cube vault bank
step_of (units.Registers cube) = steps.Registers cube

-- its queue, and that of its answers
abbrev pub queue_name : RequestUnit → QueueName
queue_name (units.Bank cube vault bank) = names.Bank vault bank
queue_name (units.Registers cube) = names.Registers

abbrev pub answers_name : RequestUnit → QueueName
answers_name (units.Bank cube vault bank) = names.Answers (lifts.Vault vault)
answers_name (units.Registers cube) = names.Answers lifts.Registers

-- the front of the queue of a unit of this cube, and the request that it carries
pub record IsRequestAt (p : PastFields) (unit : RequestUnit) (cube : ℕ) (packet : PacketFields)
    (request : RequestFields) : Type 0 where
  pub is_cube : cube ≡ unit_cube unit
  pub is_front : slice_get (packets_at p.queues cube (queue_name unit)) 0 ≡ Some packet
  pub carries : request_in packet ≡ Some request
