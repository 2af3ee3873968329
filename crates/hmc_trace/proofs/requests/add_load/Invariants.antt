-- The reads of the blocks so far are appended.
use Rattle.std.proofs.Common.{◌/◌, ◌+◌, Ok}
use Rattle.hmc_trace.specs.Appending.{Appends}
use Rattle.hmc_accesses.specs.Requests.{read_span}
use Rattle.hmc_trace.proofs.Blocks.{up_to}
use Rattle.hmc_trace.proofs.requests.add_load.Given as goal

abbrev pub invariant-blocks-2 : goal.invariant-blocks-2
invariant-blocks-2 l =
    Appends l.fn.number l.fn.script (up_to (read_span l.fn.cube) (record {
      start = l.fn.place;
      end =
          l.fn.place + l.fn.length;
    }) (l.fn.place / 256) l.block) l.script (Ok tt)
