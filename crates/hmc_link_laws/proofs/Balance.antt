-- No difference of the tokens is cut off at zero.
use Rattle.std.proofs.Common.{◌≡◌, ◌≤◌, ◌+◌, ◌-◌, ℕ, List, arith}
use Rattle.hmc_codes.specs.Link.{LinkFields}
use Rattle.hmc_send.specs.LinkEntries.{LinkEntry, other, accepted_packets, takes}
use Rattle.hmc_send.specs.LinkSenders.{places_in, tokens}
use Rattle.hmc_send.specs.LinkTokens.{flits_begun, flits_accepted, flits_taken, tokens_returned, tokens_credited}
use Rattle.hmc_send.specs.declared.toward.Toward.{Toward}
use Rattle.hmc_wire.specs.LinkLaws.{IsKept}
use Rattle.hmc_wire.proofs.TokenFacts.{token-laws}
use Rattle.hmc_link_laws.specs.Tokens.{TokensBalance}

given-back : (all taken : ℕ) → taken ≤ all → (all - taken) + taken ≡ all
given-back all taken le = omega arith

pub balance : (link : LinkFields) (d : Toward) (past : List LinkEntry) → IsKept link past → TokensBalance link d past (tokens link d past)
unfolding tokens
balance link d past kept =
    let laws = token-laws link d past kept in
    let accepted = accepted_packets link.profile d past in
    let back = accepted_packets link.profile (other d) past in
    let taken = flits_taken (takes d past) accepted in
    record {
      held = given-back (tokens_credited back) (flits_begun (places_in link d past)) laws.held;
      transit = given-back (flits_begun (places_in link d past)) (flits_accepted accepted) laws.transit;
      used = given-back (flits_accepted accepted) taken laws.used;
      due = given-back (link.tokens + taken) (tokens_returned (places_in link (other d) past)) laws.due;
      returning = given-back (tokens_returned (places_in link (other d) past)) (tokens_credited back) laws.returning;
      sum = laws.sum;
    }
