-- When an end is quiet.
use Rattle.std.proofs.Common.{◌≡◌, ◌∙◌, ◌&&◌, ◌==◌, ◌↔◌, ℕ, Bool, true, false, not, List, [], ◌∷◌, refl, sym, ap, eqb-true, eq-eqb, arith}
use Rattle.std.specs.Prelude.{IsTrue, is_some, nat_lt, slice_get, sum_by}
use Rattle.std.proofs.lemmas.List.Sums.{sum_by-cons}
use Rattle.std.proofs.lemmas.Bool.{and_parts, lt-ltb}
use Rattle.hmc_packet.specs.Packet.{PacketFields, flits_of}
use Rattle.hmc_ends.specs.End.{EndFields, IsQuiet}

true-of : (b : Bool) → b ≡ true → IsTrue b
true-of b is = is

of-true : (b : Bool) → IsTrue b → b ≡ true
of-true b is = is

none-held : (packets : List PacketFields) → is_some (slice_get packets 0) ≡ false → packets ≡ []
none-held [] is = refl
none-held (x ∷ packets) is = absurd cc

not-false : (b : Bool) → false ≡ not b → b ≡ true
not-false true is = refl
not-false false is = absurd cc

all-true : (a b c : Bool) → a ≡ true → b ≡ true → c ≡ true → ((a && b) && c) ≡ true
all-true true true c x y z = z
all-true true false c x y z = absurd cc
all-true false b c x y z = absurd cc

-- each packet has a flit, so that flits are used exactly where there is a packet
pub used-where : (buffer : List PacketFields) (used : ℕ) → used ≡ sum_by flits_of buffer → nat_lt 0 used ≡ is_some (slice_get buffer 0)
used-where [] used is = ap (nat_lt 0) is
used-where (packet ∷ rest) used is = lt-ltb 0 used (omega (arith, is, sum_by-cons flits_of packet rest))

pub quiet-by : (q b r : Bool) (n : ℕ) (queue buffer : List PacketFields) (e : EndFields) → IsTrue q ↔ (queue ≡ []) → is_some (slice_get buffer 0) ≡ not b → r ≡ ((q && (n == 0)) && b)
    → queue ≡ e.queue → n ≡ e.transit → buffer ≡ e.buffer → IsTrue r ↔ IsQuiet e
quiet-by q b r n queue buffer e empty held is queue_is transit_is buffer_is = (
  (λ quiet.
      let all : ((q && (n == 0)) && b) ≡ true = sym is ∙ of-true r quiet in
      let parts = and_parts (q && (n == 0)) b all in
      let more = and_parts q (n == 0) parts.0 in
      record {
        queue = sym queue_is ∙ empty.0 (true-of q more.0);
        transit = sym transit_is ∙ eqb-true n 0 more.1;
        buffer = sym buffer_is ∙ none-held buffer (held ∙ ap not parts.1);
      }),
  (λ quiet. true-of r (is ∙ all-true q (n == 0) b (of-true q (empty.1 (queue_is ∙ quiet.queue))) (eq-eqb n 0 (transit_is ∙ quiet.transit))
      (not-false b (ap (λ (l : List PacketFields). is_some (slice_get l 0)) (sym (buffer_is ∙ quiet.buffer)) ∙ held)))),
)
