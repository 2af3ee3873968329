-- What a direction's entries are for its side, and what a send and a landing make of it. Used by
-- Joins.
use Rattle.std.proofs.Common.{◌≡◌, ◌∙◌, ◌≤◌, ℕ, zero, suc, Bool, List, [], ◌∷◌, ◌++◌, length, drop, map, Option, Some, None, refl, sym, ap, subst, arith, length-append}
use Rattle.std.specs.Prelude.{◌||◌, slice_get, filter, take}
use Rattle.std.proofs.lemmas.List.{map_push, drop-append-le, take-append-le}
use Rattle.std.proofs.lemmas.List.Elements.{filter-append}
use mathlib.Core.Bool.{or_comm}
use Rattle.hmc_codes.specs.Link.{LinkFields}
use Rattle.hmc_codes.specs.Flit.{IsFlit}
use Rattle.hmc_codes.specs.declared.profile.Profile.{Profile}
use Rattle.hmc_packet.specs.declared.bad.Bad.{Bad}
use Rattle.hmc_packet.specs.declared.outcome.Outcome as outer_outcome
use Rattle.hmc_packet.specs.declared.outcome.Outcome.TheVariants as out
use Rattle.hmc_packet.specs.declared.what.What.{What}
use Rattle.hmc_packet.specs.Landings as receipts
use Rattle.hmc_packet.specs.Landings.{ReceiverEntry}
use Rattle.hmc_packet.specs.Packet.{PacketFields}
use Rattle.hmc_packet.specs.Receptions.{reception_of}
use Rattle.hmc_send.specs.Entries as turns
use Rattle.hmc_send.specs.Entries.{Given, SenderEntry}
use Rattle.hmc_send.specs.declared.toward.Toward.{Toward}
use Rattle.hmc_send.specs.LinkEntries.{LinkEntry, receiver_entries, handed_packets, takes}
use Rattle.hmc_packet.specs.Masks.{changes}
use Rattle.hmc_send.specs.LinkLines.{StampedFlit, sent_flits, landings, changed_after, is_pending_changed}
use Rattle.hmc_send.specs.LinkSenders.{sender_entries}
use Rattle.hmc_send.specs.LinkTokens.{flits_taken}
use Rattle.hmc_send.specs.Places.{is_token}
use Rattle.hmc_numbers.specs.Direction.{Direction}
use Rattle.hmc_numbers.specs.Events.{Event, happens}
use Rattle.hmc_numbers.specs.Events.Event.{rests, sends_filler, sends_clear, begins, begins_through, begins_again, goes_on, acknowledges, unlocks}
use Rattle.hmc_numbers.specs.Pair.{Half, Way as ways, way, stamps_after, rest_of_stamps, own_after}
use Rattle.hmc_wire.proofs.GrammarLandings.{Outcome, Landings, Landing as lands}
use Rattle.hmc_wire.proofs.GrammarLandings as inner
use Rattle.hmc_wire.proofs.GrammarCounted.{counted}
use Rattle.hmc_wire.proofs.Actions.{SideOf, Action as acts, counts_or_does, landing_event, own_side, rest_of}
use Rattle.hmc_wire.proofs.Matches.{reading_of}
use Rattle.hmc_wire.proofs.ActionWays.{event_lands}
use Rattle.hmc_wire.proofs.PacketGrammar.{grammar, alone}
use Rattle.hmc_wire.proofs.SenderLists.{Chosen}
use Rattle.hmc_wire.proofs.Words.{outcome_as}
use Rattle.hmc_wire.proofs.Steps.{landings_on}
use Rattle.hmc_wire.proofs.Readings.{Same}
use Rattle.hmc_wire.proofs.Mirrors.{Mirrors, mirrored, mirrors-landed}
use Rattle.hmc_wire.proofs.Places.{AllFit}
use Rattle.hmc_wire.proofs.Parts.{Sends, PartsFit}
use Rattle.hmc_wire.proofs.Senders.{sends-stay}
use Rattle.hmc_wire.proofs.Choices.{IsGood}
use Rattle.hmc_wire.proofs.Flits.{AreFlits, flits-push}

abbrev pub AllGood : Profile → List PacketFields → Type 0
AllGood q [] = Unit {0}
AllGood q (p ∷ ps) = IsGood q p × AllGood q ps

-- The lists of a direction: its sender's entries, its receiver's, the same as landings of the
-- grammar, the flits that were sent, how many of them landed, how many packets were taken at its
-- end, what was handed to it, and whether a pending flit is changed.
pub record Lists (q : Profile) : Type 0 where
  pub sender : List SenderEntry
  pub receiver : List ReceiverEntry
  pub landings : Landings (grammar q)
  pub sent : List StampedFlit
  pub landed : ℕ
  pub taken : ℕ
  pub handed : List PacketFields
  pub changed : Bool

-- those of a direction of a link
abbrev pub lists_in : (link : LinkFields) → Toward → List LinkEntry → Lists link.profile
lists_in link d past = record {
  sender = sender_entries link d past;
  receiver = receiver_entries d past;
  landings = landings_on link.profile d past;
  sent = sent_flits link.profile d past;
  landed = landings d past;
  taken = takes d past;
  handed = handed_packets d past;
  changed = is_pending_changed d past;
}

-- A side is what these lists say.
pub record Way (q : Profile) (retry : ℕ) (mine : Lists q) (own : SideOf (grammar q)) : Type 0 where
  pub sends : Sends q mine.sender own.half.direction
  pub chosen : Chosen q retry mine.sender
  pub parts : PartsFit q mine.sender
  pub fit : AllFit q (turns.places q mine.sender)
  pub count : mine.landed ≤ length mine.sent
  pub whole : AreFlits mine.sent
  pub flits : own.flits ≡ map (λ (x : StampedFlit). x.flit) (drop mine.landed mine.sent)
  pub stamps : own.half.stamps ≡ map (λ (x : StampedFlit). x.stamp) (drop mine.landed mine.sent)
  pub received : own.received ≡ mine.landings
  pub mirrors : Mirrors q mine.receiver mine.landings
  pub spoilt : inner.is_spoilt (grammar q) mine.landings ≡ mine.changed
  pub takes : mine.taken ≤ length (filter is_token (receipts.accepted q mine.receiver))
  pub moved : own.half.moved ≡ flits_taken mine.taken (receipts.accepted q mine.receiver)
  pub handed : AllGood q mine.handed

-- A send

-- the lists with one more send
abbrev pub lists_sent : {q : Profile} → Lists q → SenderEntry → StampedFlit → Lists q
lists_sent mine entry x = record mine { sender = entry ∷ mine.sender; sent = mine.sent ++ x ∷ [] }

-- what a send leaves of its sender
pub record SentFits (q : Profile) (retry : ℕ) (t : List SenderEntry) (w : Direction) : Type 0 where
  pub sends : Sends q t w
  pub parts : PartsFit q t
  pub fit : AllFit q (turns.places q t)
  pub chosen : Chosen q retry t

stamps-sent : (w : ways) (n : ℕ) (ss : List ℕ) → w ≡ ways.sends → stamps_after w n ss ≡ ss ++ n ∷ []
stamps-sent ways.sends n ss e = refl
stamps-sent ways.lands n ss e = absurd cc
stamps-sent ways.stays n ss e = absurd cc

pub way-sent : (q : Profile) (retry : ℕ) (mine : Lists q) (own oth : SideOf (grammar q)) (given : Given) (w : What) (flit : List ℕ) (e : Event) (n : ℕ) →
    Way q retry mine own → SentFits q retry (SenderEntry.sent given w flit ∷ mine.sender) (happens own.half.direction e) → way e ≡ ways.sends → n ≡ oth.half.direction.accepted → IsFlit flit →
    Way q retry (lists_sent mine (SenderEntry.sent given w flit) (record { flit = flit; stamp = n })) (own_side (grammar q) own oth (acts.sends e flit))
way-sent q retry mine own oth given w flit e n is new adds stamp whole =
    let x : StampedFlit = record { flit = flit; stamp = n } in
    let more = drop-append-le mine.landed mine.sent (x ∷ []) is.count in
    let len = length-append mine.sent (x ∷ []) in
    let c = is.count in
    record {
      sends = new.sends;
      chosen = new.chosen;
      parts = new.parts;
      fit = new.fit;
      count = omega arith;
      whole = flits-push mine.sent x is.whole whole;
      flits = ap (λ fs. fs ++ flit ∷ []) is.flits ∙ sym (map_push (λ (y : StampedFlit). y.flit) (drop mine.landed mine.sent) x) ∙ ap (map (λ (y : StampedFlit). y.flit)) (sym more);
      stamps = stamps-sent (way e) oth.half.direction.accepted own.half.stamps adds ∙ (λ i. is.stamps i ++ sym stamp i ∷ []) ∙ sym (map_push (λ (y : StampedFlit). y.stamp) (drop mine.landed mine.sent) x) ∙ ap (map (λ (y : StampedFlit). y.stamp)) (sym more);
      received = is.received;
      mirrors = is.mirrors;
      spoilt = is.spoilt;
      takes = is.takes;
      moved = is.moved;
      handed = is.handed;
    }

-- A landing, in its direction

pub record Keeps (w : Direction) (e : Event) : Type 0 where
  pub first : (happens w e).first ≡ w.first
  pub acked : (happens w e).acked ≡ w.acked
  pub last : (happens w e).last ≡ w.last
  pub left : (happens w e).left ≡ w.left
  pub clears : (happens w e).clears ≡ w.clears

keeps : (w : Direction) (e : Event) → way e ≡ ways.lands → Keeps w e
keeps w rests q = absurd (cc q)
keeps w (sends_filler f) q = absurd (cc q)
keeps w sends_clear q = absurd (cc q)
keeps w (begins s) q = absurd (cc q)
keeps w (begins_through s) q = absurd (cc q)
keeps w begins_again q = absurd (cc q)
keeps w goes_on q = absurd (cc q)
keeps w (acknowledges n) q = absurd (cc q)
keeps w unlocks q = absurd (cc q)
keeps w e q = record { first = refl; acked = refl; last = refl; left = refl; clears = refl }

stamps-landed : (w : ways) (n : ℕ) (ss : List ℕ) → w ≡ ways.lands → stamps_after w n ss ≡ rest_of_stamps ss
stamps-landed ways.lands n ss e = refl
stamps-landed ways.sends n ss e = absurd cc
stamps-landed ways.stays n ss e = absurd cc

pub front-drop : {X : Type 0} (l : List X) (k : ℕ) (x : X) → slice_get (drop k l) 0 ≡ Some x → drop k l ≡ x ∷ drop (suc k) l
front-drop [] zero x e = absurd cc
front-drop [] (suc k) x e = absurd cc
front-drop (y ∷ l) zero x e = let same : y ≡ x = cc in ap (λ z. z ∷ l) same
front-drop (y ∷ l) (suc k) x e = front-drop l k x e

pub front-below : {X : Type 0} (l : List X) (k : ℕ) (x : X) → slice_get (drop k l) 0 ≡ Some x → suc k ≤ length l
front-below [] zero x e = absurd cc
front-below [] (suc k) x e = absurd cc
front-below (y ∷ l) zero x e = omega arith
front-below (y ∷ l) (suc k) x e = let h = front-below l k x e in omega arith

-- what is accepted more doesn't change what was taken
pub more-taken : (n : ℕ) (ps qs : List PacketFields) → n ≤ length (filter is_token ps) → flits_taken n (ps ++ qs) ≡ flits_taken n ps
more-taken n ps qs le =
    ap (λ (l : List PacketFields). receipts.flits_in (take n l)) (filter-append is_token ps qs)
    ∙ ap receipts.flits_in (take-append-le n (filter is_token ps) (filter is_token qs) le)

pub more-count : (ps qs : List PacketFields) → length (filter is_token ps) ≤ length (filter is_token (ps ++ qs))
more-count ps qs =
    let e = ap (λ (l : List PacketFields). length l) (filter-append is_token ps qs) in
    let n = length-append (filter is_token ps) (filter is_token qs) in
    omega arith

spoilt-by : (mask : List ℕ) (o : outer_outcome.Outcome) (b : Bool) → inner.spoilt_by (outcome_as o) (changes mask || b) ≡ changed_after mask o b
spoilt-by mask out.Gathered b = or_comm (changes mask) b
spoilt-by mask _ b = refl

accepted-grows : (q : Profile) (rs : List ReceiverEntry) (flit : List ℕ) (o : outer_outcome.Outcome) → receipts.accepted q (ReceiverEntry.Land flit o ∷ rs) ≡ receipts.accepted q rs ++ receipts.accepted_by q (receipts.pending rs) (ReceiverEntry.Land flit o)
unfolding receipts.accepted
accepted-grows q rs flit o = refl

-- the lists with one more landing
abbrev pub lists_landed : {q : Profile} → Lists q → (mask flit : List ℕ) → outer_outcome.Outcome → Lists q
lists_landed mine mask flit o =
    record mine {
      receiver = ReceiverEntry.Land flit o ∷ mine.receiver;
      landings = lands.landed (changes mask) flit (outcome_as o) ∷ mine.landings;
      landed = suc mine.landed;
      changed = changed_after mask o mine.changed;
    }

pub way-landed : (q : Profile) (retry : ℕ) (mine : Lists q) (own oth : SideOf (grammar q)) (mask flit : List ℕ) (o : outer_outcome.Outcome) (front : StampedFlit) →
    Way q retry mine own → slice_get (drop mine.landed mine.sent) 0 ≡ Some front → o ≡ (reception_of q mine.receiver flit).outcome →
    Way q retry (lists_landed mine mask flit o) (own_side (grammar q) own oth (acts.lands (changes mask) flit))
way-landed q retry mine own oth mask flit o front is at outcome_is = by_counted (counted (grammar q) own.received flit)
  where
    c : Bool
    c = changes mask

    e : Event
    e = landing_event (grammar q) own.received (changes mask) flit

    lands_e : way e ≡ ways.lands
    lands_e = event_lands (inner.mode (grammar q) own.received) (c || inner.is_spoilt (grammar q) own.received) c (reading_of (alone q flit)) (inner.outcome (grammar q) own.received flit)

    half_after : Option ℕ → Half
    half_after x = own_after own.half oth.half.direction.accepted (counts_or_does x e)

    dropped : drop mine.landed mine.sent ≡ front ∷ drop (suc mine.landed) mine.sent
    dropped = front-drop mine.sent mine.landed front at

    said : Same (reception_of q mine.receiver flit) (inner.outcome (grammar q) mine.landings flit) (counted (grammar q) mine.landings flit) (inner.checks (grammar q) (inner.mode (grammar q) mine.landings) mine.landings flit)
    said = mirrored q mine.receiver mine.landings flit is.mirrors

    kept : Keeps own.half.direction e
    kept = keeps own.half.direction e lands_e

    made : (h : Half) → h.direction ≡ happens own.half.direction e → h.stamps ≡ stamps_after (way e) oth.half.direction.accepted own.half.stamps → h.moved ≡ own.half.moved →
        Way q retry (lists_landed mine mask flit o) (record { half = h; flits = rest_of own.flits; received = lands.landed c flit (inner.outcome (grammar q) own.received flit) ∷ own.received })
    made h direction stamps moved =
        let below = front-below mine.sent mine.landed front at in
        let grows = accepted-grows q mine.receiver flit o in
        let new = receipts.accepted_by q (receipts.pending mine.receiver) (ReceiverEntry.Land flit o) in
        let t = is.takes in
        let m = more-count (receipts.accepted q mine.receiver) new in
        record {
          sends = subst (λ w. Sends q mine.sender w) (sym direction) (sends-stay q mine.sender mine.sender own.half.direction (happens own.half.direction e) (record { first = refl; acked = refl; last = refl; unfinished = refl; clears = refl }) kept.first kept.acked kept.last kept.left kept.clears is.sends);
          chosen = is.chosen;
          parts = is.parts;
          fit = is.fit;
          count = below;
          whole = is.whole;
          flits = ap rest_of (is.flits ∙ ap (map (λ (x : StampedFlit). x.flit)) dropped);
          stamps = stamps ∙ stamps-landed (way e) oth.half.direction.accepted own.half.stamps lands_e ∙ ap rest_of_stamps (is.stamps ∙ ap (map (λ (x : StampedFlit). x.stamp)) dropped);
          received = (λ i. lands.landed c flit (inner.outcome (grammar q) (is.received i) flit) ∷ is.received i) ∙ ap (λ (x : Outcome Bad). lands.landed c flit x ∷ mine.landings) (sym said.outcome ∙ ap outcome_as (sym outcome_is));
          mirrors = mirrors-landed q mine.receiver mine.landings c flit o is.mirrors outcome_is;
          spoilt = spoilt-by mask o (inner.is_spoilt (grammar q) mine.landings) ∙ ap (changed_after mask o) is.spoilt;
          takes = subst (λ (ps : List PacketFields). mine.taken ≤ length (filter is_token ps)) (sym grows) (omega arith);
          moved = moved ∙ is.moved ∙ sym (ap (flits_taken mine.taken) grows ∙ more-taken mine.taken (receipts.accepted q mine.receiver) new is.takes);
          handed = is.handed;
        }

    by_counted : (x : Option ℕ) → Way q retry (lists_landed mine mask flit o) (record { half = half_after x; flits = rest_of own.flits; received = lands.landed c flit (inner.outcome (grammar q) own.received flit) ∷ own.received })
    by_counted None = made (half_after None) refl refl refl
    by_counted (Some rrp) = made (half_after (Some rrp)) refl refl refl
