-- The front of a vault's queue goes to its bank, or waits.
use Rattle.std.proofs.Common.{◌≡◌, ◌<◌, ◌^◌, ◌++◌, ◌∷◌, ◌∙◌, [], List, ℕ, length, drop, sym, ap, ap₂, subst}
use Rattle.hmc_codes.specs.Shape.{ShapeFields, bank_of}
use Rattle.hmc_packet.specs.Packet.{PacketFields}
use Rattle.hmc_queues.specs.Queues.{CubeQueuesFields, IsQueue, packets_at, size_at, with_packets}
use Rattle.hmc_queues.specs.declared.queue_name.QueueName.TheVariants as names
use Rattle.hmc_entries.specs.declared.entry.Entry.{Entry}
use Rattle.hmc_journal.specs.Setup.{shape_of}
use Rattle.hmc_schedule.specs.declared.step.Step.TheVariants as steps
use Rattle.hmc_check.specs.Past.{PastFields}
use Rattle.hmc_check.proofs.Holding.{of_parts, some_of}
use Rattle.hmc_check.proofs.Spreading.{some_there, vault_queue, bank_queue, bank_small, queue_still, spread_empty, spread_full, spread_takes, moved_queues, bank_room}
use Rattle.hmc_check.proofs.past.Past.spread_front.Goals as goal

pub returns-in_default : goal.returns-in_default
returns-in_default g c =
    let i = c.self.inside in
    let old : PastFields = record { topology = i.wiring; queues = i.queues; cubes = i.plain; slots = g.B.Workbench.slots i.bench; hosts = i.hosts.items; ends = i.ends; piped = i.piped; tally = i.tally; last = i.last } in
    of_parts g.B.Workbench.slots _ c.args.self.now _ (steps.Spread c.args.cube c.args.vault) c.self.view_is
    (spread_empty old _ c.args.cube c.args.vault (sym c.front.ensures ∙ c.in_default.is) (ap (λ (e : Entry). record old { last = e }) c.idle.ensures))

pub has_room-requires : goal.has_room-requires
has_room-requires g c =
    let i = c.self.inside in
    let old : PastFields = record { topology = i.wiring; queues = i.queues; cubes = i.plain; slots = g.B.Workbench.slots i.bench; hosts = i.hosts.items; ends = i.ends; piped = i.piped; tally = i.tally; last = i.last } in
    let some = some_of g.B.Workbench.slots _ c.args.self.now (steps.Spread c.args.cube c.args.vault) c.self.view_is c.requires in
    let sized = some.is.holds.sized in
    let there = some_there old (steps.Spread c.args.cube c.args.vault) some in
    let cube = c.args.cube in
    let vault = c.args.vault in
    let bank = c.spot-bank.result.bank in
    let address = c.front-2.inside.address in
    let bank_is : bank ≡ bank_of (shape_of i.wiring cube) address = c.spot-bank.ensures.bank ∙ ap (λ (s : ShapeFields). bank_of s address) c.shape.ensures in
    let few : bank < 2 ^ (shape_of i.wiring cube).bank_bits = subst (λ (n : ℕ). n < 2 ^ (shape_of i.wiring cube).bank_bits) (sym bank_is) (bank_small (shape_of i.wiring cube) address) in
    let from = vault_queue old cube vault sized there in
    let to = bank_queue old cube vault bank sized there few in
    to

pub returns-then-not-has_room : goal.returns-then-not-has_room
returns-then-not-has_room g c =
    let i = c.self.inside in
    let old : PastFields = record { topology = i.wiring; queues = i.queues; cubes = i.plain; slots = g.B.Workbench.slots i.bench; hosts = i.hosts.items; ends = i.ends; piped = i.piped; tally = i.tally; last = i.last } in
    let some = some_of g.B.Workbench.slots _ c.args.self.now (steps.Spread c.args.cube c.args.vault) c.self.view_is c.requires in
    let sized = some.is.holds.sized in
    let there = some_there old (steps.Spread c.args.cube c.args.vault) some in
    let cube = c.args.cube in
    let vault = c.args.vault in
    let bank = c.spot-bank.result.bank in
    let address = c.front-2.inside.address in
    let bank_is : bank ≡ bank_of (shape_of i.wiring cube) address = c.spot-bank.ensures.bank ∙ ap (λ (s : ShapeFields). bank_of s address) c.shape.ensures in
    let few : bank < 2 ^ (shape_of i.wiring cube).bank_bits = subst (λ (n : ℕ). n < 2 ^ (shape_of i.wiring cube).bank_bits) (sym bank_is) (bank_small (shape_of i.wiring cube) address) in
    let from = vault_queue old cube vault sized there in
    let to = bank_queue old cube vault bank sized there few in
    let first = sym c.front.ensures ∙ c.in-Some.is in
    of_parts g.B.Workbench.slots _ c.args.self.now _ (steps.Spread c.args.cube c.args.vault) c.self.view_is
    (spread_full old _ cube vault bank c.in-Some.front from.some_cube first (bank_is ∙ ap (λ (p : PacketFields). bank_of (shape_of i.wiring cube) p.address) c.front-2.view_is) (sym c.has_room.ensures ∙ c.if-not-has_room.true) (ap (λ (e : Entry). record old { last = e }) c.idle-then-not-has_room.ensures))

pub push-requires-clause-there : goal.push-requires-clause-there
push-requires-clause-there g c =
    let i = c.self.inside in
    let old : PastFields = record { topology = i.wiring; queues = i.queues; cubes = i.plain; slots = g.B.Workbench.slots i.bench; hosts = i.hosts.items; ends = i.ends; piped = i.piped; tally = i.tally; last = i.last } in
    let some = some_of g.B.Workbench.slots _ c.args.self.now (steps.Spread c.args.cube c.args.vault) c.self.view_is c.requires in
    let sized = some.is.holds.sized in
    let there = some_there old (steps.Spread c.args.cube c.args.vault) some in
    let cube = c.args.cube in
    let vault = c.args.vault in
    let bank = c.spot-bank.result.bank in
    let address = c.front-2.inside.address in
    let bank_is : bank ≡ bank_of (shape_of i.wiring cube) address = c.spot-bank.ensures.bank ∙ ap (λ (s : ShapeFields). bank_of s address) c.shape.ensures in
    let few : bank < 2 ^ (shape_of i.wiring cube).bank_bits = subst (λ (n : ℕ). n < 2 ^ (shape_of i.wiring cube).bank_bits) (sym bank_is) (bank_small (shape_of i.wiring cube) address) in
    let from = vault_queue old cube vault sized there in
    let to = bank_queue old cube vault bank sized there few in
    let first = sym c.front.ensures ∙ c.in-Some.is in
    subst (λ (r : List CubeQueuesFields). IsQueue r cube (names.Bank vault bank)) (sym c.pop.ensures) (queue_still old cube (names.Vault vault) (names.Bank vault bank) (drop 1 (packets_at i.queues cube (names.Vault vault))) sized from to)

pub push-requires-clause-room : goal.push-requires-clause-room
push-requires-clause-room g c =
    let i = c.self.inside in
    let old : PastFields = record { topology = i.wiring; queues = i.queues; cubes = i.plain; slots = g.B.Workbench.slots i.bench; hosts = i.hosts.items; ends = i.ends; piped = i.piped; tally = i.tally; last = i.last } in
    let some = some_of g.B.Workbench.slots _ c.args.self.now (steps.Spread c.args.cube c.args.vault) c.self.view_is c.requires in
    let sized = some.is.holds.sized in
    let there = some_there old (steps.Spread c.args.cube c.args.vault) some in
    let cube = c.args.cube in
    let vault = c.args.vault in
    let bank = c.spot-bank.result.bank in
    let from = vault_queue old cube vault sized there in
    subst (λ (r : List CubeQueuesFields). length (packets_at r cube (names.Bank vault bank)) < size_at r cube) (sym c.pop.ensures)
    (bank_room old cube vault bank (drop 1 (packets_at i.queues cube (names.Vault vault))) sized from (sym c.has_room.ensures ∙ c.if-not-has_room.false))

pub returns : goal.returns
returns g c =
    let i = c.self.inside in
    let old : PastFields = record { topology = i.wiring; queues = i.queues; cubes = i.plain; slots = g.B.Workbench.slots i.bench; hosts = i.hosts.items; ends = i.ends; piped = i.piped; tally = i.tally; last = i.last } in
    let some = some_of g.B.Workbench.slots _ c.args.self.now (steps.Spread c.args.cube c.args.vault) c.self.view_is c.requires in
    let sized = some.is.holds.sized in
    let there = some_there old (steps.Spread c.args.cube c.args.vault) some in
    let cube = c.args.cube in
    let vault = c.args.vault in
    let bank = c.spot-bank.result.bank in
    let address = c.front-2.inside.address in
    let bank_is : bank ≡ bank_of (shape_of i.wiring cube) address = c.spot-bank.ensures.bank ∙ ap (λ (s : ShapeFields). bank_of s address) c.shape.ensures in
    let few : bank < 2 ^ (shape_of i.wiring cube).bank_bits = subst (λ (n : ℕ). n < 2 ^ (shape_of i.wiring cube).bank_bits) (sym bank_is) (bank_small (shape_of i.wiring cube) address) in
    let from = vault_queue old cube vault sized there in
    let to = bank_queue old cube vault bank sized there few in
    let first = sym c.front.ensures ∙ c.in-Some.is in
    let now : c.push.new.self ≡ moved_queues cube (names.Vault vault) (names.Bank vault bank) c.in-Some.front i.queues =
    c.push.ensures ∙ ap (λ (r : List CubeQueuesFields). with_packets cube (names.Bank vault bank) (packets_at r cube (names.Bank vault bank) ++ c.in-Some.front ∷ []) r) c.pop.ensures in
    of_parts g.B.Workbench.slots _ c.args.self.now _ (steps.Spread c.args.cube c.args.vault) c.self.view_is
    (spread_takes old _ cube vault bank c.in-Some.front from to first (bank_is ∙ ap (λ (p : PacketFields). bank_of (shape_of i.wiring cube) p.address) c.front-2.view_is) (sym c.has_room.ensures ∙ c.if-not-has_room.false)
    (ap₂ (λ (r : List CubeQueuesFields) (e : Entry). record old { queues = r; last = e }) now c.spread.ensures))

pub front-requires : goal.front-requires
front-requires g c =
    let i = c.self.inside in
    let old : PastFields = record { topology = i.wiring; queues = i.queues; cubes = i.plain; slots = g.B.Workbench.slots i.bench; hosts = i.hosts.items; ends = i.ends; piped = i.piped; tally = i.tally; last = i.last } in
    let some = some_of g.B.Workbench.slots _ c.args.self.now (steps.Spread c.args.cube c.args.vault) c.self.view_is c.requires in
    let sized = some.is.holds.sized in
    let there = some_there old (steps.Spread c.args.cube c.args.vault) some in
    vault_queue old c.args.cube c.args.vault sized there

pub pop-requires : goal.pop-requires
pop-requires g c =
    let i = c.self.inside in
    let old : PastFields = record { topology = i.wiring; queues = i.queues; cubes = i.plain; slots = g.B.Workbench.slots i.bench; hosts = i.hosts.items; ends = i.ends; piped = i.piped; tally = i.tally; last = i.last } in
    let some = some_of g.B.Workbench.slots _ c.args.self.now (steps.Spread c.args.cube c.args.vault) c.self.view_is c.requires in
    let sized = some.is.holds.sized in
    let there = some_there old (steps.Spread c.args.cube c.args.vault) some in
    vault_queue old c.args.cube c.args.vault sized there

pub shape-requires : goal.shape-requires
shape-requires g c =
    let i = c.self.inside in
    let old : PastFields = record { topology = i.wiring; queues = i.queues; cubes = i.plain; slots = g.B.Workbench.slots i.bench; hosts = i.hosts.items; ends = i.ends; piped = i.piped; tally = i.tally; last = i.last } in
    let some = some_of g.B.Workbench.slots _ c.args.self.now (steps.Spread c.args.cube c.args.vault) c.self.view_is c.requires in
    let there = some_there old (steps.Spread c.args.cube c.args.vault) some in
    there.some_cube
