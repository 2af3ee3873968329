-- The writes of the blocks so far are appended.
use Rattle.std.proofs.Common.{◌/◌, ◌+◌, Ok, length}
use Rattle.hmc_trace.specs.Appending.{Appends}
use Rattle.hmc_accesses.specs.Requests.{store_span}
use Rattle.hmc_trace.proofs.Blocks.{up_to}
use Rattle.hmc_trace.proofs.requests.add_store.Given as goal

abbrev pub invariant-blocks-2 : goal.invariant-blocks-2
invariant-blocks-2 l =
    Appends l.fn.number l.fn.script
    (up_to (store_span l.fn.stored.cube l.fn.stored.place l.fn.stored.bytes.now)
    (record { start = l.fn.stored.place; end = l.fn.stored.place + length l.fn.stored.bytes.now })
    (l.fn.stored.place / 256)
    l.block) l.script (Ok tt)
