-- One more request to the registers.
use Rattle.std.proofs.Common.{refl}
use Rattle.hmc_tokens.specs.Queue.{packets_of}
use Rattle.hmc_cube.proofs.CubeLemmas.{room_in, kept_queues, requests_with_one_more}
use Rattle.hmc_cube.proofs.cube.Cube.enter_registers.Goals as goal

pub put-requires : goal.put-requires
put-requires c = room_in c.self.inside.banks c.self.inside.registers c.self.inside.vaults.items c.self.inside.register_queue c.self.inside.answers c.args.self.now c.self.view_is c.requires.room

pub invariant_of-self : goal.invariant_of-self
invariant_of-self c =
    kept_queues c.self.inside.banks.shape c.self.inside.banks.shape c.self.inside.vaults.items c.self.inside.register_queue c.put.new.self c.self.inside.answers c.self.inside.answers c.self.invariant refl c.put.ensures.size refl
    (requests_with_one_more (packets_of c.self.inside.register_queue) (packets_of c.put.new.self) c.args.packet.now c.put.ensures.packets c.self.invariant.requests c.requires.request)
