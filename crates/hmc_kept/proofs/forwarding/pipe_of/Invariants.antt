-- The flits so far are in the pipe.
use Rattle.std.proofs.Common.{◌≡◌, None, [], ◌∷◌, take}
use Rattle.std.specs.Prelude.{slice_index_or}
use Rattle.hmc_packet.specs.Parts.{lng_of}
use Rattle.hmc_through.specs.Pipe.{PipeFields}
use Rattle.hmc_kept.proofs.forwarding.pipe_of.Given as goal

abbrev pub invariant-loop-flit : goal.invariant-loop-flit
invariant-loop-flit l = ◌≡◌ {A = PipeFields} l.pipe (record {
  flits = lng_of (slice_index_or l.came 0 []);
  profile = l.fn.profile;
  came = slice_index_or l.came 0 [] ∷ take l.flit-index l.flit-items;
  good = None;
})
