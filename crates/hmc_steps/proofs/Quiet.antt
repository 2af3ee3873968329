-- Entries that neither send nor land, by numbers.
use Rattle.std.proofs.Common.{◌≡◌, ◌∙◌, ◌+◌, ◌-◌, ◌≤◌, ℕ, suc, [], ◌∷◌, ◌++◌, length, drop, map, sym, ap, arith, append-nil}
use Rattle.std.specs.Prelude.{filter}
use Rattle.std.proofs.lemmas.List.{map_push, drop-append-le}
use Rattle.hmc_codes.specs.declared.profile.Profile.{Profile}
use Rattle.hmc_packet.specs.Landings as receipts
use Rattle.hmc_packet.specs.Packet.{PacketFields, flits_of}
use Rattle.hmc_send.specs.Entries as entries
use Rattle.hmc_send.specs.LinkTokens.{flits_taken}
use Rattle.hmc_send.specs.Places.{is_token}
use Rattle.hmc_numbers.specs.Events.{Event as events}
use Rattle.hmc_numbers.specs.Pair.{Half, Move as moves, event_at, own_after}
use Rattle.hmc_wire.proofs.Actions.{SideOf}
use Rattle.hmc_wire.proofs.Others.{taken-up, lists_unlocked}
use Rattle.hmc_wire.proofs.PacketGrammar.{grammar}
use Rattle.hmc_wire.proofs.Ways.{Lists, Way}
use Rattle.hmc_link_state.specs.State.{Side}
use Rattle.hmc_link_state.specs.Steps.{Step, MayStep, own_step}
use Rattle.hmc_steps.proofs.LandStep.{buffer-sum}
use Rattle.hmc_steps.proofs.Sides.{side_of, setup}

-- A packet is handed

pub handed-same : (q : Profile) (line retry adv : ℕ) (mine : Lists q) (own : Half) (other : Side)
    (ack missing : ℕ) (p : PacketFields) → entries.taken_fronts mine.sender ≤ length mine.handed →
    own_step (setup line retry adv) (side_of q own mine ack missing) other
    (Step.queues (flits_of p)) ≡ side_of q own (record mine { handed = mine.handed ++ p ∷ [] })
    ack missing
handed-same q line retry adv mine own other ack missing p few = λ i. record {
  half = own;
  starts = entries.starts mine.sender;
  others = entries.others mine.sender;
  go_back = entries.go_back mine.sender;
  is_open = entries.is_open mine.sender;
  ack_sent = ack;
  steady = receipts.training q mine.receiver;
  missing = missing;
  queue =
      (sym (map_push flits_of (drop (entries.taken_fronts mine.sender) mine.handed) p)
      ∙ ap (map flits_of)
      (sym (drop-append-le (entries.taken_fronts mine.sender) mine.handed (p ∷ []) few))) i;
  buffer = map flits_of (drop mine.taken (filter is_token (receipts.accepted q mine.receiver)));
}

-- A packet is taken

pub taken-may : (q : Profile) (retry : ℕ) (line adv : ℕ) (mine : Lists q) (own : SideOf (grammar q))
    (other : Side) (ack missing : ℕ) → Way q retry mine own →
    MayStep (setup line retry adv) (side_of q own.half mine ack missing) other
    (Step.leaves (flits_taken (suc mine.taken) (receipts.accepted q mine.receiver))
    (map flits_of (drop (suc mine.taken) (filter is_token (receipts.accepted q mine.receiver)))))
taken-may q retry line adv mine own other ack missing is =
    let up = taken-up mine.taken (receipts.accepted q mine.receiver) in
    let m = is.moved in
    let a = buffer-sum mine.taken (receipts.accepted q mine.receiver) in
    let b = buffer-sum (suc mine.taken) (receipts.accepted q mine.receiver) in
    (omega arith, omega arith)

pub taken-same : (q : Profile) (retry line adv : ℕ) (mine : Lists q) (own : SideOf (grammar q))
    (other : Side) (ack missing stamp : ℕ) → Way q retry mine own →
    own_step (setup line retry adv) (side_of q own.half mine ack missing) other
    (Step.leaves (flits_taken (suc mine.taken) (receipts.accepted q mine.receiver))
    (map flits_of (drop (suc mine.taken) (filter is_token (receipts.accepted q mine.receiver)))))
    ≡ side_of q
    (own_after own.half stamp
    (moves.moves (flits_taken (suc mine.taken) (receipts.accepted q mine.receiver) - flits_taken
    mine.taken (receipts.accepted q mine.receiver)))) (record mine { taken = suc mine.taken })
    ack missing
taken-same q retry line adv mine own other ack missing stamp is =
    let up = taken-up mine.taken (receipts.accepted q mine.receiver) in
    let m = is.moved in
    let same : flits_taken (suc mine.taken) (receipts.accepted q mine.receiver) ≡ own.half.moved
    + (flits_taken (suc mine.taken) (receipts.accepted q mine.receiver) - flits_taken mine.taken
    (receipts.accepted q mine.receiver)) = omega arith in
    λ i. record {
      half = record own.half { moved = same i };
      starts = entries.starts mine.sender;
      others = entries.others mine.sender;
      go_back = entries.go_back mine.sender;
      is_open = entries.is_open mine.sender;
      ack_sent = ack;
      steady = receipts.training q mine.receiver;
      missing = missing;
      queue = map flits_of (drop (entries.taken_fronts mine.sender) mine.handed);
      buffer =
          map flits_of
          (drop (suc mine.taken) (filter is_token (receipts.accepted q mine.receiver)));
    }

-- A receiver is unlocked

pub unlocked-same : (q : Profile) (line retry adv : ℕ) (mine : Lists q) (own : Half) (other : Side)
    (ack missing stamp : ℕ) →
    own_step (setup line retry adv) (side_of q own mine ack missing) other Step.unlocks ≡ side_of q
    (own_after own stamp (moves.does events.unlocks)) (lists_unlocked mine) ack missing
unfolding receipts.training receipts.accepted
unlocked-same q line retry adv mine own other ack missing stamp = λ i. record {
  half = event_at own 0 events.unlocks;
  starts = entries.starts mine.sender;
  others = entries.others mine.sender;
  go_back = entries.go_back mine.sender;
  is_open = entries.is_open mine.sender;
  ack_sent = ack;
  steady = 0;
  missing = missing;
  queue = map flits_of (drop (entries.taken_fronts mine.sender) mine.handed);
  buffer =
      map flits_of
      (drop mine.taken (filter is_token (sym (append-nil (receipts.accepted q mine.receiver)) i)));
}
