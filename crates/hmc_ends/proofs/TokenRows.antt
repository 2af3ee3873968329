-- The five numbers of a direction, from what its two ends hold.
use Rattle.std.proofs.Common.{◌≡◌, ◌∙◌, ◌+◌, ◌-◌, ℕ, List, drop, sym, ap, subst, arith}
use Rattle.std.specs.Prelude.{filter}
use Rattle.std.proofs.lemmas.List.Sums.{sum_by-take-drop}
use Rattle.hmc_codes.specs.Link.{LinkFields}
use Rattle.hmc_codes.specs.declared.counts.TokenRow.{TokenRow}
use Rattle.hmc_packet.specs.Landings as packets
use Rattle.hmc_packet.specs.Packet.{PacketFields, flits_of}
use Rattle.hmc_send.specs.LinkEntries.{LinkEntry, accepted_packets, takes}
use Rattle.hmc_send.specs.LinkSenders.{tokens}
use Rattle.hmc_send.specs.LinkTokens.{flits_accepted, flits_taken}
use Rattle.hmc_send.specs.Places.{is_token}
use Rattle.hmc_send.specs.declared.toward.Toward.{Toward}
use Rattle.hmc_send.specs.declared.toward.Toward.TheVariants.{Forth, Back}
use Rattle.hmc_wire.specs.LinkLaws.{IsKept}
use Rattle.hmc_ends.specs.End.{EndFields, row_held}
use Rattle.hmc_ends.specs.StandsFor.{EndsStandFor}
use Rattle.hmc_wire.proofs.TokenFacts.{token-laws}

rest-of : (taken rest all : ℕ) → taken + rest ≡ all → rest ≡ all - taken
rest-of taken rest all is = omega arith

-- the flits in a buffer are those accepted less those taken
used-is : (n : ℕ) (l : List PacketFields) → packets.flits_in (drop n (filter is_token l)) ≡ flits_accepted l - flits_taken n l
used-is n l = rest-of (flits_taken n l) (packets.flits_in (drop n (filter is_token l))) (flits_accepted l) (sum_by-take-drop flits_of (filter is_token l) n)

last-of : (a b c d e sum : ℕ) → a + b + c + d + e ≡ sum → sum - (a + b + c + d) ≡ e
last-of a b c d e sum is = omega arith

pub row-is : (link : LinkFields) (d : Toward) (past : List LinkEntry) (s l : EndFields) → EndsStandFor link d s l past → row_held s l ≡ tokens link d past
unfolding tokens
row-is link Forth past s l both =
    let laws = token-laws link Forth past both.kept in
    let used = ap packets.flits_in both.landing.buffer ∙ used-is (takes Forth past) (accepted_packets link.profile Forth past) in
    let rest = last-of _ _ _ _ _ link.tokens laws.sum in
    λ i. record {
      held = both.sending.held i;
      transit = both.sending.transit i;
      used = used i;
      due = both.landing.due i;
      returning = ((λ j. (both.sending.setup j).tokens - (both.sending.held j + both.sending.transit j + used j + both.landing.due j)) ∙ rest) i;
    }
row-is link Back past s l both =
    let laws = token-laws link Back past both.kept in
    let used = ap packets.flits_in both.landing.buffer ∙ used-is (takes Back past) (accepted_packets link.profile Back past) in
    let rest = last-of _ _ _ _ _ link.tokens laws.sum in
    λ i. record {
      held = both.sending.held i;
      transit = both.sending.transit i;
      used = used i;
      due = both.landing.due i;
      returning = ((λ j. (both.sending.setup j).tokens - (both.sending.held j + both.sending.transit j + used j + both.landing.due j)) ∙ rest) i;
    }

pub sum-is : (link : LinkFields) (d : Toward) (past : List LinkEntry) (row : TokenRow) → IsKept link past → row ≡ tokens link d past → row.held + row.transit + row.used + row.due + row.returning ≡ link.tokens
sum-is link d past row kept is = subst (λ (r : TokenRow). r.held + r.transit + r.used + r.due + r.returning ≡ link.tokens) (sym is) (token-laws link d past kept).sum
