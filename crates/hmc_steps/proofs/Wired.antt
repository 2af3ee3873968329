-- What hmc_wire's induction says of a direction of a kept list, at the numbers of its turns.
use Rattle.std.proofs.Common.{◌≡◌, ◌∙◌, ℕ, List, sym, ap, subst}
use Rattle.hmc_codes.specs.Link.{LinkFields}
use Rattle.hmc_codes.specs.declared.profile.Profile.{Profile}
use Rattle.hmc_send.specs.declared.toward.Toward.{Toward}
use Rattle.hmc_send.specs.declared.toward.Toward.TheVariants.{Forth, Back}
use Rattle.hmc_send.specs.LinkEntries.{LinkEntry, other}
use Rattle.hmc_send.specs.LinkSenders.{sender_entries}
use Rattle.hmc_numbers.specs.Pair.{Half, Pair, pair_after}
use Rattle.hmc_wire.specs.EntryTurns.{turns_of}
use Rattle.hmc_wire.specs.FieldsAre.{half_after}
use Rattle.hmc_wire.specs.LinkLaws.{IsKept}
use Rattle.hmc_wire.proofs.Actions.{SideOf}
use Rattle.hmc_wire.proofs.ActionLaw.{Linked}
use Rattle.hmc_wire.proofs.EntryTurns.{turns-same}
use Rattle.hmc_wire.proofs.GrammarLandings.{Landings}
use Rattle.hmc_wire.proofs.Joins.{WayAt, link_at, agrees-own, both-of}
use Rattle.hmc_wire.proofs.PacketGrammar.{grammar}
use Rattle.hmc_wire.proofs.Places.{AgreesWith}
use Rattle.hmc_wire.proofs.Spelled.{Sent}
use Rattle.hmc_wire.proofs.Steps.{sent_of, steps_of, step_turns}
use Rattle.hmc_wire.proofs.Turns.{pair_of, pair-after, own-joins}

abbrev pub side_with : (q : Profile) → Half → List (List ℕ) → Landings (grammar q) →
    SideOf (grammar q)
side_with q h fs rs = record { half = h; flits = fs; received = rs }

pub record Wired (link : LinkFields) (d : Toward) (past : List LinkEntry) : Type 0 where
  pub s : Sent (grammar link.profile)
  pub t : Sent (grammar link.profile)
  pub flits : List (List ℕ)
  pub other_flits : List (List ℕ)
  pub received : Landings (grammar link.profile)
  pub other_received : Landings (grammar link.profile)
  pub way : WayAt link d past (side_with link.profile (half_after link d past) flits received)
  pub other_way : WayAt link (other d) past
      (side_with link.profile (half_after link (other d) past) other_flits other_received)
  pub linked : Linked (grammar link.profile) s link.retry link.tokens
      (side_with link.profile (half_after link d past) flits received)
      (side_with link.profile (half_after link (other d) past) other_flits other_received)
  pub other_linked : Linked (grammar link.profile) t link.retry link.tokens
      (side_with link.profile (half_after link (other d) past) other_flits other_received)
      (side_with link.profile (half_after link d past) flits received)
  pub agree : AgreesWith link.profile s (sender_entries link d past)
  pub other_agree : AgreesWith link.profile t (sender_entries link (other d) past)

same-pair : (link : LinkFields) (past : List LinkEntry) → IsKept link past →
    pair_of link.profile (link_at link past) ≡ pair_after (turns_of link past)
unfolding step_turns
same-pair link past kept =
    sym (pair-after link.profile (steps_of link past)) ∙ ap pair_after (turns-same link past kept)

pub wired : (link : LinkFields) (d : Toward) (past : List LinkEntry) → IsKept link past →
    Wired link d past
wired link Forth past kept =
    let q = link.profile in
    let l = link_at link past in
    let j = own-joins link past kept in
    let s = sent_of q 0 (sender_entries link Forth past) in
    let t = sent_of q 0 (sender_entries link Back past) in
    let both = both-of link s t past kept.retry j in
    let same = same-pair link past kept in
    record {
      s = s;
      t = t;
      flits = l.forth.flits;
      other_flits = l.back.flits;
      received = l.forth.received;
      other_received = l.back.received;
      way =
          subst (λ (p : Pair). WayAt link Forth past
          (side_with q p.forth l.forth.flits l.forth.received)) same j.forth;
      other_way =
          subst (λ (p : Pair). WayAt link Back past
          (side_with q p.back l.back.flits l.back.received)) same j.back;
      linked =
          subst (λ (p : Pair). Linked (grammar q) s link.retry link.tokens
          (side_with q p.forth l.forth.flits l.forth.received)
          (side_with q p.back l.back.flits l.back.received)) same both.forth;
      other_linked =
          subst (λ (p : Pair). Linked (grammar q) t link.retry link.tokens
          (side_with q p.back l.back.flits l.back.received)
          (side_with q p.forth l.forth.flits l.forth.received)) same both.back;
      agree = agrees-own q 0 (sender_entries link Forth past);
      other_agree = agrees-own q 0 (sender_entries link Back past);
    }
wired link Back past kept =
    let q = link.profile in
    let l = link_at link past in
    let j = own-joins link past kept in
    let s = sent_of q 0 (sender_entries link Forth past) in
    let t = sent_of q 0 (sender_entries link Back past) in
    let both = both-of link s t past kept.retry j in
    let same = same-pair link past kept in
    record {
      s = t;
      t = s;
      flits = l.back.flits;
      other_flits = l.forth.flits;
      received = l.back.received;
      other_received = l.forth.received;
      way =
          subst (λ (p : Pair). WayAt link Back past
          (side_with q p.back l.back.flits l.back.received)) same j.back;
      other_way =
          subst (λ (p : Pair). WayAt link Forth past
          (side_with q p.forth l.forth.flits l.forth.received)) same j.forth;
      linked =
          subst (λ (p : Pair). Linked (grammar q) t link.retry link.tokens
          (side_with q p.back l.back.flits l.back.received)
          (side_with q p.forth l.forth.flits l.forth.received)) same both.back;
      other_linked =
          subst (λ (p : Pair). Linked (grammar q) s link.retry link.tokens
          (side_with q p.forth l.forth.flits l.forth.received)
          (side_with q p.back l.back.flits l.back.received)) same both.forth;
      agree = agrees-own q 0 (sender_entries link Back past);
      other_agree = agrees-own q 0 (sender_entries link Forth past);
    }
