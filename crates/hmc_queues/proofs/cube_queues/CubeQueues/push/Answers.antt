-- One queue has changed.
use Rattle.std.proofs.Common.{◌∙◌, ◌++◌, ◌∷◌, [], List, ap, sym}
use Rattle.hmc_packet.specs.Packet.{PacketFields}
use Rattle.hmc_queues.proofs.Places.{room_in, IsRead, read_packets, read_size, with_queue, sizes_set}
use Rattle.hmc_queues.proofs.cube_queues.CubeQueues.push.Goals as goal

read : (c : goal.After-self-1) → IsRead c.self.inside.vaults c.self.inside.banks c.self.inside.size c.self.inside.queues.items c.args.self.now c.args.place c.index_mut.result.now
read c = record { kept = c.self.invariant; view_is = c.self.view_is; there = c.requires.inside; read = c.index_mut.ensures.value }

pub take_in-requires : goal.take_in-requires
take_in-requires c =
    let i = c.self.inside in
    room_in i.vaults i.banks i.size i.queues.items c.args.self.now c.args.place c.index_mut.result.now
    (record { kept = c.self.invariant; view_is = c.self.view_is; there = c.requires.inside; read = c.index_mut.ensures.value }) c.requires.room

pub returns : goal.returns
returns c =
    let i = c.self.inside in
    with_queue i.vaults i.banks i.size i.queues.items c.args.self.now c.args.place c.take_in.new.self _ c.self.view_is
    (c.take_in.ensures.packets ∙ ap (λ (l : List PacketFields). l ++ c.args.packet ∷ []) (sym (read_packets i.vaults i.banks i.size i.queues.items c.args.self.now c.args.place c.index_mut.result.now (read c))))

pub invariant_of-self : goal.invariant_of-self
invariant_of-self c =
    let i = c.self.inside in
    sizes_set i.vaults i.banks i.size i.queues.items c.args.place c.take_in.new.self c.self.invariant
    (c.take_in.ensures.size ∙ read_size i.vaults i.banks i.size i.queues.items c.args.self.now c.args.place c.index_mut.result.now (read c))
