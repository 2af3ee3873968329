-- What a landing is for the other direction, and what the entries are that neither send nor land.
-- Used by Joins.
use Rattle.std.proofs.Common.{◌≡◌, ◌∙◌, ◌≤◌, ◌-◌, ℕ, zero, suc, false, List, [], ◌∷◌, ◌++◌, length, drop, map, Option, Some, None, refl, sym, ap, subst, arith, append-nil}
use Rattle.std.specs.Prelude.{slice_get, filter, take}
use Rattle.std.proofs.lemmas.List.Sums.{sum_by-cons}
use Rattle.hmc_codes.specs.declared.profile.Profile.{Profile}
use Rattle.hmc_packet.specs.declared.kind.Kind.TheVariants as outer_kinds
use Rattle.hmc_packet.specs.declared.outcome.Outcome as outer_outcome
use Rattle.hmc_packet.specs.declared.outcome.Outcome.TheVariants as out
use Rattle.hmc_packet.specs.Landings as receipts
use Rattle.hmc_packet.specs.Landings.{ReceiverEntry}
use Rattle.hmc_packet.specs.Packet.{PacketFields, flits_of}
use Rattle.hmc_packet.specs.Receptions.{reception_of}
use Rattle.hmc_send.specs.Entries as turns
use Rattle.hmc_send.specs.Entries.{SenderEntry}
use Rattle.hmc_packet.specs.Masks.{changes}
use Rattle.hmc_send.specs.LinkLines.{StampedFlit}
use Rattle.hmc_send.specs.LinkSenders.{run_entries, acknowledgement}
use Rattle.hmc_send.specs.LinkTokens.{flits_taken}
use Rattle.hmc_send.specs.Places.{Place, is_token}
use Rattle.hmc_numbers.specs.Events.{Event, happens}
use Rattle.hmc_numbers.specs.Events.Event.{acknowledges}
use Rattle.hmc_numbers.specs.Pair.{other_after, front_stamp}
use Rattle.hmc_numbers.specs.PairLaws.{Rising}
use Rattle.hmc_numbers.proofs.Rising.{rising_bounds}
use Rattle.hmc_numbers.proofs.Together.{Joined}
use Rattle.hmc_wire.proofs.GrammarLandings.{Landing as lands}
use Rattle.hmc_wire.proofs.GrammarCounted.{counted}
use Rattle.hmc_wire.proofs.Actions.{SideOf, Action as acts, counts_or_does, landing_event, own_side, other_side}
use Rattle.hmc_wire.proofs.PacketGrammar.{grammar}
use Rattle.hmc_wire.proofs.SenderLists.{Chosen}
use Rattle.hmc_wire.specs.EntryTurns.{weight}
use Rattle.hmc_wire.proofs.Mirrors.{mirrored, mirrors-unlocked}
use Rattle.hmc_wire.proofs.Senders.{Stays, sends-stay, parts-stay, begun-length}
use Rattle.hmc_wire.proofs.Choices.{IsGood}
use Rattle.hmc_wire.proofs.Throughs.{Through}
use Rattle.hmc_wire.proofs.Ways.{Lists, Way, AllGood, front-drop}

-- the lists with one more entry of the sender
abbrev pub lists_with : {q : Profile} → Lists q → SenderEntry → Lists q
lists_with mine entry = record mine { sender = entry ∷ mine.sender }

-- a run of Starts was counted
way-ran : (q : Profile) (retry : ℕ) (mine : Lists q) (own : SideOf (grammar q)) → Way q retry mine own → Way q retry (lists_with mine SenderEntry.ran) own
unfolding Chosen turns.places turns.acked turns.last_begun turns.unfinished turns.clears
way-ran q retry mine own is =
    let k : Stays q mine.sender (SenderEntry.ran ∷ mine.sender) = record { first = refl; acked = refl; last = refl; unfinished = refl; clears = refl } in
    record {
      sends = sends-stay q mine.sender (SenderEntry.ran ∷ mine.sender) own.half.direction own.half.direction k refl refl refl refl refl is.sends;
      chosen = is.chosen;
      parts = parts-stay q mine.sender (SenderEntry.ran ∷ mine.sender) k is.parts;
      fit = is.fit;
      count = is.count;
      whole = is.whole;
      flits = is.flits;
      stamps = is.stamps;
      received = is.received;
      mirrors = is.mirrors;
      spoilt = is.spoilt;
      takes = is.takes;
      moved = is.moved;
      handed = is.handed;
    }

abbrev acknowledged : (q : Profile) → SideOf (grammar q) → ℕ → SideOf (grammar q)
acknowledged q d n = record { half = record d.half { direction = happens d.half.direction (acknowledges n) }; flits = d.flits; received = d.received }

-- so many are acknowledged
way-acknowledged : (q : Profile) (retry : ℕ) (mine : Lists q) (own : SideOf (grammar q)) (n : ℕ) → Way q retry mine own →
    turns.acked mine.sender ≤ n → n ≤ length (turns.places q mine.sender) → Way q retry (lists_with mine (SenderEntry.acknowledged n)) (acknowledged q own n)
unfolding Chosen turns.places turns.acked turns.last_begun turns.unfinished turns.clears
way-acknowledged q retry mine own n is least most = record {
  sends = record { first = is.sends.first; acked = refl; last = is.sends.last; left = is.sends.left; clears = is.sends.clears };
  chosen = (least, most, is.chosen);
  parts = is.parts;
  fit = is.fit;
  count = is.count;
  whole = is.whole;
  flits = is.flits;
  stamps = is.stamps;
  received = is.received;
  mirrors = is.mirrors;
  spoilt = is.spoilt;
  takes = is.takes;
  moved = is.moved;
  handed = is.handed;
}

-- A landing in d, for the sender of the other direction o

-- the lists of o after a landing with this outcome and this return pointer
abbrev pub lists_shown : {q : Profile} → Lists q → outer_outcome.Outcome → Option ℕ → Option StampedFlit → Lists q
lists_shown mine outcome rrp front = record mine { sender = (run_entries outcome ++ acknowledgement rrp front) ++ mine.sender }

-- after an acknowledgement, if there is one
abbrev lists_acknowledged : {q : Profile} → Lists q → Option ℕ → Option StampedFlit → Lists q
lists_acknowledged mine rrp front = record mine { sender = acknowledgement rrp front ++ mine.sender }

by-outcome : (q : Profile) (retry : ℕ) (mine : Lists q) (outcome : outer_outcome.Outcome) (rrp : Option ℕ) (front : Option StampedFlit) (own : SideOf (grammar q)) →
    Way q retry (lists_acknowledged mine rrp front) own → Way q retry (lists_shown mine outcome rrp front) own
by-outcome q retry mine (out.Ran outer_kinds.Start) rrp front own is = way-ran q retry (lists_acknowledged mine rrp front) own is
by-outcome q retry mine _ rrp front own is = is

by-pointer : (q : Profile) (retry : ℕ) (mine : Lists q) (d o : SideOf (grammar q)) (e : Event) (x : Option ℕ) (front : StampedFlit) → Way q retry mine o → front_stamp o.half.direction.acked d.half.stamps ≡ front.stamp →
    turns.acked mine.sender ≤ front.stamp → front.stamp ≤ length (turns.places q mine.sender) →
    Way q retry (lists_acknowledged mine x (Some front)) (record { half = other_after d.half o.half (counts_or_does x e); flits = o.flits; received = o.received })
by-pointer q retry mine d o e None front is at least most = is
by-pointer q retry mine d o e (Some rrp) front is at least most =
    subst (λ (m : ℕ). Way q retry (lists_with mine (SenderEntry.acknowledged front.stamp)) (acknowledged q o m)) (sym at) (way-acknowledged q retry mine o front.stamp is least most)

pub way-landed_other : (q : Profile) (retry adv : ℕ) (mine theirs : Lists q) (d o : SideOf (grammar q)) (mask flit : List ℕ) (outcome : outer_outcome.Outcome) (front : StampedFlit) →
    Way q retry mine o → Way q retry theirs d → Joined retry adv d.half o.half → Joined retry adv o.half d.half → slice_get (drop theirs.landed theirs.sent) 0 ≡ Some front →
    Way q retry (lists_shown mine outcome (reception_of q theirs.receiver flit).rrp (slice_get (drop theirs.landed theirs.sent) 0)) (other_side (grammar q) d o (acts.lands (changes mask) flit))
way-landed_other q retry adv mine theirs d o mask flit outcome front is own joined back at =
    let n = front.stamp in
    let c = changes mask in
    let e = landing_event (grammar q) d.received c flit in
    let stamps : d.half.stamps ≡ n ∷ map (λ (x : StampedFlit). x.stamp) (drop (suc theirs.landed) theirs.sent) = own.stamps ∙ ap (map (λ (x : StampedFlit). x.stamp)) (front-drop theirs.sent theirs.landed front at) in
    let rising = subst (λ ss. Rising o.half.direction.acked ss o.half.direction.accepted) stamps joined.stamps in
    let bound = rising_bounds n o.half.direction.accepted (map (λ (x : StampedFlit). x.stamp) (drop (suc theirs.landed) theirs.sent)) rising.1 in
    let acked = is.sends.acked in
    let begun = begun-length q mine.sender o.half.direction is.sends in
    let few = back.order.accepted in
    let low = rising.0 in
    let same : (reception_of q theirs.receiver flit).rrp ≡ counted (grammar q) d.received flit = (mirrored q theirs.receiver theirs.landings flit own.mirrors).pointer ∙ ap (λ ls. counted (grammar q) ls flit) (sym own.received) in
    let made = by-pointer q retry mine d o e (counted (grammar q) d.received flit) front is (ap (front_stamp o.half.direction.acked) stamps) (omega arith) (omega arith) in
    let side = other_side (grammar q) d o (acts.lands c flit) in
    subst (λ (x : Option StampedFlit). Way q retry (lists_shown mine outcome (reception_of q theirs.receiver flit).rrp x) side) (sym at)
    (by-outcome q retry mine outcome (reception_of q theirs.receiver flit).rrp (Some front) side
    (subst (λ (x : Option ℕ). Way q retry (lists_acknowledged mine x (Some front)) side) (sym same) made))

-- A packet is taken

flits-step : (n : ℕ) (l : List PacketFields) → receipts.flits_in (take n l) ≤ receipts.flits_in (take (suc n) l)
flits-step zero [] = omega arith
flits-step (suc n) [] = omega arith
flits-step zero (p ∷ l) = omega arith
flits-step (suc n) (p ∷ l) =
    let h = flits-step n l in
    let a = sum_by-cons flits_of p (take n l) in
    let b = sum_by-cons flits_of p (take (suc n) l) in
    omega arith

pub taken-up : (n : ℕ) (ps : List PacketFields) → flits_taken n ps ≤ flits_taken (suc n) ps
taken-up n ps = flits-step n (filter is_token ps)

pub way-taken : (q : Profile) (retry : ℕ) (mine : Lists q) (own oth : SideOf (grammar q)) → Way q retry mine own →
    suc mine.taken ≤ length (filter is_token (receipts.accepted q mine.receiver)) →
    Way q retry (record mine { taken = suc mine.taken }) (own_side (grammar q) own oth (acts.moves (flits_taken (suc mine.taken) (receipts.accepted q mine.receiver) - flits_taken mine.taken (receipts.accepted q mine.receiver))))
way-taken q retry mine own oth is some =
    let up = taken-up mine.taken (receipts.accepted q mine.receiver) in
    let m = is.moved in
    record {
      sends = is.sends;
      chosen = is.chosen;
      parts = is.parts;
      fit = is.fit;
      count = is.count;
      whole = is.whole;
      flits = is.flits;
      stamps = is.stamps;
      received = is.received;
      mirrors = is.mirrors;
      spoilt = is.spoilt;
      takes = some;
      moved = omega arith;
      handed = is.handed;
    }

-- A receiver is unlocked

unlock-keeps : (q : Profile) (rs : List ReceiverEntry) → receipts.accepted q rs ≡ receipts.accepted q (ReceiverEntry.Unlock ∷ rs)
unfolding receipts.accepted
unlock-keeps q rs = sym (append-nil (receipts.accepted q rs))

-- the lists with one more unlock
abbrev pub lists_unlocked : {q : Profile} → Lists q → Lists q
lists_unlocked mine = record mine { receiver = ReceiverEntry.Unlock ∷ mine.receiver; landings = lands.unlocked ∷ mine.landings; changed = false }

pub way-unlocked : (q : Profile) (retry : ℕ) (mine : Lists q) (own oth : SideOf (grammar q)) → Way q retry mine own → Way q retry (lists_unlocked mine) (own_side (grammar q) own oth acts.unlocks_receiver)
way-unlocked q retry mine own oth is =
    let same = unlock-keeps q mine.receiver in
    record {
      sends = record { first = is.sends.first; acked = is.sends.acked; last = is.sends.last; left = is.sends.left; clears = is.sends.clears };
      chosen = is.chosen;
      parts = is.parts;
      fit = is.fit;
      count = is.count;
      whole = is.whole;
      flits = is.flits;
      stamps = is.stamps;
      received = ap (λ ls. lands.unlocked ∷ ls) is.received;
      mirrors = mirrors-unlocked q mine.receiver mine.landings is.mirrors;
      spoilt = refl;
      takes = subst (λ (ps : List PacketFields). mine.taken ≤ length (filter is_token ps)) same is.takes;
      moved = is.moved ∙ ap (flits_taken mine.taken) same;
      handed = is.handed;
    }

-- A packet is handed

good-push : (q : Profile) (ps : List PacketFields) (p : PacketFields) → AllGood q ps → IsGood q p → AllGood q (ps ++ p ∷ [])
good-push q [] p all good = (good, tt)
good-push q (r ∷ ps) p all good = (all.0, good-push q ps p all.1 good)

pub way-handed : (q : Profile) (retry : ℕ) (mine : Lists q) (own : SideOf (grammar q)) (p : PacketFields) → Way q retry mine own → IsGood q p → Way q retry (record mine { handed = mine.handed ++ p ∷ [] }) own
way-handed q retry mine own p is good = record {
  sends = is.sends;
  chosen = is.chosen;
  parts = is.parts;
  fit = is.fit;
  count = is.count;
  whole = is.whole;
  flits = is.flits;
  stamps = is.stamps;
  received = is.received;
  mirrors = is.mirrors;
  spoilt = is.spoilt;
  takes = is.takes;
  moved = is.moved;
  handed = good-push q mine.handed p is.handed good;
}

-- A cut-through is begun

pub way-through : (q : Profile) (retry : ℕ) (mine : Lists q) (own oth : SideOf (grammar q)) (head : List ℕ) (flits due : ℕ) (x : Place) → Way q retry mine own →
    Through q retry (SenderEntry.through head flits due ∷ mine.sender) (weight x) own.half.direction →
    Way q retry (lists_with mine (SenderEntry.through head flits due)) (own_side (grammar q) own oth (acts.pipes (weight x)))
way-through q retry mine own oth head flits due x is new = record {
  sends = new.sends;
  chosen = new.chosen;
  parts = new.parts;
  fit = new.fit;
  count = is.count;
  whole = is.whole;
  flits = is.flits;
  stamps = is.stamps;
  received = is.received;
  mirrors = is.mirrors;
  spoilt = is.spoilt;
  takes = is.takes;
  moved = is.moved;
  handed = is.handed;
}
