-- The tokens of each direction of a link are together those that its end advertised. The function
-- tokens_add_up cites it.
use Rattle.std.proofs.Common.{◌≤◌, ◌+◌, ℕ, arith, List}
use Rattle.hmc_codes.specs.Link.{LinkFields}
use Rattle.hmc_codes.specs.declared.profile.Profile.{Profile}
use Rattle.hmc_packet.specs.Landings as receipts
use Rattle.hmc_send.specs.Entries as entries
use Rattle.hmc_send.specs.declared.toward.Toward.{Toward}
use Rattle.hmc_send.specs.declared.toward.Toward.TheVariants.{Forth, Back}
use Rattle.hmc_send.specs.LinkEntries.{LinkEntry, accepted_packets, takes}
use Rattle.hmc_send.specs.LinkSenders.{sender_entries, places_in, tokens}
use Rattle.hmc_send.specs.LinkTokens.{TokenSources, flits_begun, flits_accepted, flits_taken, tokens_returned, tokens_credited}
use Rattle.hmc_send.proofs.LinkTokenSums.{IsCovered, tokens-sum}
use Rattle.hmc_numbers.specs.PairLaws.{HalfLaws}
use Rattle.hmc_wire.specs.LinkLaws.{IsKept, TokenLaws}
use Rattle.hmc_wire.proofs.ActionLaw.{Linked, both_linked}
use Rattle.hmc_wire.proofs.Actions.{SideOf, link_after}
use Rattle.hmc_wire.proofs.Joins.{agrees-own}
use Rattle.hmc_wire.proofs.Links.{credited-is, taken-is, spent-is, returned-is}
use Rattle.hmc_wire.proofs.PacketGrammar.{grammar}
use Rattle.hmc_wire.proofs.Places.{AgreesWith}
use Rattle.hmc_wire.proofs.SideLawsHold.{link_laws}
use Rattle.hmc_wire.proofs.Spelled.{Sent}
use Rattle.hmc_wire.proofs.Steps.{sent_of, steps_of}
use Rattle.hmc_wire.proofs.Turns.{own-joins}
use Rattle.hmc_wire.proofs.Ways.{Lists, Way, lists_in}

-- none of the five differences falls below 0, and the buffer doesn't overflow
pub record SideTokens (q : Profile) (adv : ℕ) (mine theirs : Lists q) : Type 0 where
  pub held : flits_begun (entries.places q mine.sender) ≤ tokens_credited (receipts.accepted q theirs.receiver)
  pub transit : flits_accepted (receipts.accepted q mine.receiver) ≤ flits_begun (entries.places q mine.sender)
  pub used : flits_taken mine.taken (receipts.accepted q mine.receiver) ≤ flits_accepted (receipts.accepted q mine.receiver)
  pub fits : flits_accepted (receipts.accepted q mine.receiver) ≤ flits_taken mine.taken (receipts.accepted q mine.receiver) + adv
  pub due : tokens_returned (entries.places q theirs.sender) ≤ adv + flits_taken mine.taken (receipts.accepted q mine.receiver)
  pub returning : tokens_credited (receipts.accepted q theirs.receiver) ≤ tokens_returned (entries.places q theirs.sender)

pub side-tokens : (q : Profile) (retry adv : ℕ) (mine theirs : Lists q) (s s' : Sent (grammar q)) (own oth : SideOf (grammar q)) → Way q retry mine own → Way q retry theirs oth →
    Linked (grammar q) s retry adv own oth → Linked (grammar q) s' retry adv oth own → AgreesWith q s mine.sender → AgreesWith q s' theirs.sender → HalfLaws q retry adv own.half oth.half → SideTokens q adv mine theirs
side-tokens q retry adv mine theirs s s' own oth is other linked back agree agree' h =
    let credited = credited-is q retry adv theirs s' oth own other back agree' in
    let taken = taken-is q retry adv mine s own oth is linked agree in
    let spent = spent-is q mine.sender own.half.direction is.sends in
    let returned = returned-is q theirs.sender oth.half.direction other.sends in
    let m = is.moved in
    let held = h.held in
    let transit = h.transit in
    let used = h.used in
    let fits = h.fits in
    let due = h.due in
    let returning = h.returning in
    record {
      held = omega arith;
      transit = omega arith;
      used = omega arith;
      fits = omega arith;
      due = omega arith;
      returning = omega arith;
    }

-- of both directions
pub record BothTokens (link : LinkFields) (past : List LinkEntry) : Type 0 where
  pub forth : SideTokens link.profile link.tokens (lists_in link Forth past) (lists_in link Back past)
  pub back : SideTokens link.profile link.tokens (lists_in link Back past) (lists_in link Forth past)

both-tokens : (link : LinkFields) (past : List LinkEntry) → IsKept link past → BothTokens link past
both-tokens link past kept =
    let q = link.profile in
    let T = sender_entries link Forth past in
    let U = sender_entries link Back past in
    let s = sent_of q 0 T in
    let t = sent_of q 0 U in
    let a = agrees-own q 0 T in
    let b = agrees-own q 0 U in
    let steps = steps_of link past in
    let l = link_after (grammar q) steps in
    let j = own-joins link past kept in
    let both = both_linked (grammar q) s t link.retry link.tokens steps kept.retry j.may in
    let laws = link_laws (grammar q) s t link.retry link.tokens steps kept.retry j.may in
    record {
      forth = side-tokens q link.retry link.tokens (lists_in link Forth past) (lists_in link Back past) s t l.forth l.back j.forth j.back both.forth both.back a b laws.forth.half;
      back = side-tokens q link.retry link.tokens (lists_in link Back past) (lists_in link Forth past) t s l.back l.forth j.back j.forth both.back both.forth b a laws.back.half;
    }

-- what the tokens of a direction come from
abbrev sources_in : LinkFields → (mine theirs : Toward) → List LinkEntry → TokenSources
sources_in link mine theirs past = record {
  advertised = link.tokens;
  begun = places_in link mine past;
  accepted = accepted_packets link.profile mine past;
  takes = takes mine past;
  begun_back = places_in link theirs past;
  accepted_back = accepted_packets link.profile theirs past;
}

pub token-laws : (link : LinkFields) (d : Toward) (past : List LinkEntry) → IsKept link past → TokenLaws link d past
unfolding tokens
token-laws link Forth past kept =
    let f = (both-tokens link past kept).forth in
    let covered : IsCovered (sources_in link Forth Back past) = record { held = f.held; transit = f.transit; used = f.used; due = f.due; returning = f.returning } in
    record { held = f.held; transit = f.transit; used = f.used; fits = f.fits; due = f.due; returning = f.returning; sum = tokens-sum (sources_in link Forth Back past) covered }
token-laws link Back past kept =
    let f = (both-tokens link past kept).back in
    let covered : IsCovered (sources_in link Back Forth past) = record { held = f.held; transit = f.transit; used = f.used; due = f.due; returning = f.returning } in
    record { held = f.held; transit = f.transit; used = f.used; fits = f.fits; due = f.due; returning = f.returning; sum = tokens-sum (sources_in link Back Forth past) covered }
