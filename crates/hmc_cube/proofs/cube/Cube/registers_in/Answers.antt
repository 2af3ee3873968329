-- The execution of the front of the registers' queue.
use Rattle.hmc_tokens.specs.Queue.{packets_of}
use Rattle.hmc_vault.proofs.ExecuteLemmas.{waiting_all, front_is}
use Rattle.hmc_cube.specs.Places.{IsForRegisters}
use Rattle.hmc_cube.proofs.CubeLemmas.{registers_ask, kept_queues}
use Rattle.hmc_cube.proofs.cube.Cube.registers_in.Goals as goal

pub execute_front_in-requires : goal.execute_front_in-requires
execute_front_in-requires g c = λ front is. registers_ask front (front_is IsForRegisters (packets_of c.self.inside.register_queue) front c.self.invariant.requests is)

pub invariant_of-self : goal.invariant_of-self
invariant_of-self g c =
    kept_queues c.self.inside.banks.shape c.execute_front_in.new.banks.shape c.self.inside.vaults.items c.self.inside.register_queue c.execute_front_in.new.waiting c.self.inside.answers c.execute_front_in.new.answers c.self.invariant
    c.execute_front_in.ensures.shape c.execute_front_in.ensures.waiting_size c.execute_front_in.ensures.answers_size
    (waiting_all IsForRegisters c.execute_front_in.new.execution (packets_of c.self.inside.register_queue) (packets_of c.execute_front_in.new.waiting) c.execute_front_in.ensures.waiting c.self.invariant.requests)
