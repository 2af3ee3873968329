-- The laws of a link, of the parts of one of its ends.
use Rattle.std.proofs.Common.{◌≡◌, ◌≤◌, ◌+◌, ◌-◌, ℕ, List, arith}
use Rattle.hmc_codes.specs.Link.{LinkFields}
use Rattle.hmc_packet.specs.Landings.{accepted}
use Rattle.hmc_send.specs.Entries.{places}
use Rattle.hmc_send.specs.LinkEntries.{LinkEntry}
use Rattle.hmc_send.specs.LinkSenders.{tokens}
use Rattle.hmc_send.specs.LinkTokens.{flits_begun, flits_accepted, flits_taken, tokens_returned, tokens_credited}
use Rattle.hmc_send.specs.declared.toward.Toward.{Toward}
use Rattle.hmc_send.specs.declared.toward.Toward.TheVariants.{Forth, Back}
use Rattle.hmc_wire.specs.LinkLaws.{IsKept}
use Rattle.hmc_ends.specs.Parts.{EndParts, parts_of, held_of, due_of}
use Rattle.hmc_wire.proofs.TokenFacts.{token-laws}

-- its tokens: of those that it sends with and of those of its buffer, no number falls below 0 or
-- exceeds what is advertised
pub record PartLaws (link : LinkFields) (p : EndParts) : Type 0 where
  pub held : flits_begun (places link.profile p.sender) ≤ tokens_credited (accepted link.profile p.received)
  pub transit : flits_accepted (accepted link.profile p.landed) ≤ flits_begun (places link.profile p.sender)
  pub returned : tokens_returned (places link.profile p.sender) ≤ link.tokens + flits_taken p.takes (accepted link.profile p.received)
  pub fits : flits_accepted (accepted link.profile p.received) ≤ flits_taken p.takes (accepted link.profile p.received) + link.tokens
  pub few_held : held_of link p ≤ link.tokens
  pub few_transit : flits_begun (places link.profile p.sender) - flits_accepted (accepted link.profile p.landed) ≤ link.tokens
  pub few_due : due_of link p ≤ link.tokens

few : (a b c d e sum : ℕ) → a + b + c + d + e ≡ sum → (a ≤ sum) × (b ≤ sum) × (d ≤ sum)
few a b c d e sum is = (omega arith, omega arith, omega arith)

pub part_laws : (link : LinkFields) (d : Toward) (past : List LinkEntry) → IsKept link past → PartLaws link (parts_of link d past)
unfolding tokens
part_laws link Forth past kept =
    let own = token-laws link Forth past kept in
    let back = token-laws link Back past kept in
    let row = few _ _ _ _ _ link.tokens own.sum in
    let row_back = few _ _ _ _ _ link.tokens back.sum in
    record {
      held = own.held;
      transit = own.transit;
      returned = back.due;
      fits = back.fits;
      few_held = row.0;
      few_transit = row.1;
      few_due = row_back.2;
    }
part_laws link Back past kept =
    let own = token-laws link Back past kept in
    let back = token-laws link Forth past kept in
    let row = few _ _ _ _ _ link.tokens own.sum in
    let row_back = few _ _ _ _ _ link.tokens back.sum in
    record {
      held = own.held;
      transit = own.transit;
      returned = back.due;
      fits = back.fits;
      few_held = row.0;
      few_transit = row.1;
      few_due = row_back.2;
    }
