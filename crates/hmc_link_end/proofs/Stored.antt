-- A buffer has no more packets than flits.
use Rattle.std.proofs.Common.{◌≡◌, ◌<◌, ◌≤◌, ◌+◌, ℕ, length, Fits, w32, ap, arith}
use Rattle.std.specs.Prelude.{sum_by}
use Rattle.hmc_tokens.proofs.FlitLemmas.{length_within}
use Rattle.hmc_packet.specs.Packet.{flits_of}
use Rattle.hmc_ends.specs.End.{EndFields}

pub stored_fits : (x e : EndFields) (n more : ℕ) → x ≡ e → n ≡ length x.buffer →
    sum_by flits_of e.buffer + more ≤ e.setup.tokens → x.setup.tokens < 65536 → Fits w32 (n + 1)
stored_fits x e n more same is room small =
    let l =
    ap (λ (z : EndFields). length z.buffer) same in let t =
    ap (λ (z : EndFields). z.setup.tokens) same in
    omega (arith, length_within e.buffer, is, room, small, l, t)
