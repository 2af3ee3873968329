-- The first bytes of both halves are written.
use Rattle.std.proofs.Common.{◌≡◌, ◌<◌, ◌+◌, ℕ, length}
use Rattle.std.specs.Prelude.{slice_index}
use Rattle.hmc_accesses.specs.Requests.{masked_byte, mask_byte}
use Rattle.hmc_trace.proofs.requests.masked_bytes.Given as goal

abbrev pub invariant-bytes : goal.invariant-bytes
invariant-bytes l = record {
  long : length l.payload ≡ 16;
  first : (k : ℕ) → k < l.i →
      slice_index l.payload k ≡ masked_byte l.stored.place l.stored.bytes.now
      l.span (l.half + k);
  last : (k : ℕ) → k < l.i → slice_index l.payload (8 + k) ≡ mask_byte l.span (l.half + k);
}
