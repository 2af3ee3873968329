-- The bytes so far, and those of the draws that are left, are all.
use Rattle.std.proofs.Common.{◌≡◌, ◌++◌, ◌-◌, ◌*◌, length}
use Rattle.hmc_make.proofs.request.draw_bytes.Given as goal
use Rattle.hmc_make.specs.Draws.{after, drawn_bytes}

abbrev pub invariant-draws : goal.invariant-draws
invariant-draws l = record {
  bytes : l.bytes.items ++ drawn_bytes (l.number - l._draw) l.draws.state ≡ drawn_bytes l.number l.initial.draws.state;
  state : after (l.number - l._draw) l.draws.state ≡ after l.number l.initial.draws.state;
  len : length l.bytes.items ≡ 4 * l._draw;
}
