-- Each packet costs a queue 1.
use Rattle.std.proofs.Common.{◌∙◌, length, ap, ap₂, sym}
use Rattle.std.specs.Prelude.{nat_lt}
use Rattle.hmc_tokens.specs.Queue.{packets_of, all_cost_one}
use Rattle.hmc_queues.specs.Queues.{CubeQueuesFields}
use Rattle.hmc_queues.proofs.Places.{IsRead, read_packets}
use Rattle.hmc_queues.proofs.cube_queues.CubeQueues.has_room.Goals as goal

pub returns : goal.returns
returns c =
    let i = c.self.inside in
    let queue = c.index.result.now in
    let read : IsRead i.vaults i.banks i.size i.queues.items c.args.self.now c.args.place queue = record { kept = c.self.invariant; view_is = c.self.view_is; there = c.requires; read = c.index.ensures } in
    ap₂ nat_lt (c.used.ensures ∙ all_cost_one (packets_of queue) ∙ ap length (sym (read_packets i.vaults i.banks i.size i.queues.items c.args.self.now c.args.place queue read)))
    (c.from.ensures ∙ ap (λ (r : CubeQueuesFields). r.size) c.self.view_is)
