-- What each sender keeps, after a send.
use Rattle.std.proofs.Common.{◌≡◌, ◌∙◌, ◌<◌, ◌≤◌, ◌+◌, ◌%◌, ℕ, zero, suc, min, List, [], ◌∷◌, ◌++◌, length, map, get_or, Option, Some, None, sym, ap, subst, arith}
use Rattle.std.specs.Prelude.{All, nat_lt, if◌then◌else◌}
use Rattle.std.proofs.lemmas.Grind.{common_steps}
use Rattle.std.proofs.lemmas.List.{append-nil}
use Rattle.std.proofs.lemmas.List.Elements.{All-append}
use Rattle.std.proofs.lemmas.List.Sums.{sum_by_push}
use Rattle.hmc_codes.proofs.General.{back-within}
use Rattle.hmc_codes.specs.Profile.{modulus_of}
use Rattle.hmc_codes.specs.declared.profile.Profile.{Profile}
use Rattle.hmc_packet.specs.declared.kind.Kind.{Kind}
use Rattle.hmc_packet.specs.Packet.{PacketFields, flits_of}
use Rattle.hmc_retry.specs.RetryBuffer.{RetryFields, IsRetryBuffer, after_put, after_next, room_of, next_pointer, pointer_after, packet_at}
use Rattle.hmc_retry.specs.RetryBuffer as retry
use Rattle.hmc_retry.proofs.Kept.{IsRetryBuffer-put}
use Rattle.hmc_send.specs.declared.numbers.Numbers.{Numbers}
use Rattle.hmc_send.specs.declared.state.State.{State}
use Rattle.hmc_send.specs.Entries.{Part, with_place}
use Rattle.hmc_send.specs.IsSender.{IsSender, IsBegunKept}
use Rattle.hmc_send.specs.Kept.{CanBeSent}
use Rattle.hmc_send.specs.Places.{Place, flits_in}
use Rattle.hmc_send.specs.Sender.{open_places, places_held, with_kept, with_irtry}
use Rattle.hmc_send.proofs.Lists.{open-known, flits-known, flits-push}

pub few-others : (n : ℕ) → min (suc n) 64 ≤ 64
few-others n = omega arith

-- flits that carry no packet
pub keep-quiet : (held : State) (shown : ℕ) → IsSender held → IsSender (record held { others = min (suc held.others) 64; shown = shown })
keep-quiet held shown is = record {
  profile = is.profile;
  buffer = is.buffer;
  sendable = is.sendable;
  room = is.room;
  pointer = is.pointer;
  number = is.number;
  others = few-others held.others;
  begun = is.begun;
}

pub keep-irtry : (held : State) (of : Kind) (others shown : ℕ) → IsSender held → held.under_way ≡ None → others ≤ 64 → IsSender (record (with_irtry of held) { others = others; shown = shown })
keep-irtry held of others shown is nothing few = record {
  profile = is.profile;
  buffer = record {
    least = is.buffer.least;
    most = is.buffer.most;
    base = is.buffer.base;
    within = is.buffer.within;
    position = back-within _ held.retry.position (length held.retry.kept) is.buffer.position;
    pointers = is.buffer.pointers;
  };
  sendable = is.sendable;
  room = is.room;
  pointer = is.pointer;
  number = is.number;
  others = few;
  begun = subst (IsBegunKept _) (sym nothing) tt;
}

-- a packet that is kept
pub keep-kept : (held : State) (packet : PacketFields) (part : Option Part) (shown : ℕ) → IsSender held → held.under_way ≡ None → flits_of packet ≤ room_of held.retry → packet.frp ≡ next_pointer held.retry (flits_of packet) → packet.seq < 8 →
    CanBeSent held.retry.profile packet → IsBegunKept (after_put packet held.retry) (with_place (Place.known packet) part) →
    IsSender (record (with_kept packet part held) { others = min (suc held.others) 64; shown = shown })
keep-kept held packet part shown is nothing room next seq can begun =
    let closed : open_places (with_place (Place.known packet) part) ≡ [] = open-known packet part in
    let all = held.retry.kept ++ packet ∷ [] in
    let flits : flits_in (map Place.known all ++ open_places (with_place (Place.known packet) part)) ≡ retry.flits_in held.retry.kept + flits_of packet =
    (λ i. flits_in (map Place.known all ++ closed i)) ∙ ap flits_in (append-nil (map Place.known all)) ∙ flits-known all ∙ sum_by_push flits_of held.retry.kept packet in
    let within = is.buffer.within in
    record {
      profile = is.profile;
      buffer = IsRetryBuffer-put packet held.retry is.buffer room next;
      sendable = All-append (CanBeSent held.retry.profile) held.retry.kept (packet ∷ []) is.sendable (λ k d lt. one k d lt);
      room = omega (arith, flits, within, room);
      pointer = next ∙ ap (pointer_after held.retry) (sym flits);
      number = seq;
      others = few-others held.others;
      begun = begun;
    }
  where
    one : (k : ℕ) (d : PacketFields) → k < 1 → CanBeSent held.retry.profile (get_or (packet ∷ []) k d)
    one zero d lt = can
    one (suc k) d lt = absurd (omega arith)

-- a packet under way is one that may be sent
pub begun-known : (retry : RetryFields) (packet : PacketFields) (part : Option Part) → CanBeSent retry.profile packet → IsBegunKept retry (with_place (Place.known packet) part)
begun-known retry packet None can = tt
begun-known retry packet (Some part) can = can

-- the same packets are kept, and no place is or becomes open
pub keep-closed : (held : State) (after : RetryFields) (packet : PacketFields) (part : Option Part) (shown : ℕ) → IsSender held → open_places held.under_way ≡ [] →
    IsRetryBuffer after → after.profile ≡ held.retry.profile → after.flits ≡ held.retry.flits → after.kept ≡ held.retry.kept → after.base ≡ held.retry.base → CanBeSent held.retry.profile packet →
    IsSender (record held { retry = after; under_way = with_place (Place.known packet) part; others = min (suc held.others) 64; shown = shown })
keep-closed held after packet part shown is was buffer profile flits kept base can =
    let closed : open_places (with_place (Place.known packet) part) ≡ [] = open-known packet part in
    let same : map Place.known after.kept ++ open_places (with_place (Place.known packet) part) ≡ places_held held = λ i. map Place.known (kept i) ++ (closed ∙ sym was) i in
    record {
      profile = is.profile ∙ sym profile;
      buffer = buffer;
      sendable = subst (λ (q : Profile). All (CanBeSent q) after.kept) (sym profile) (subst (λ (l : List PacketFields). All (CanBeSent held.retry.profile) l) (sym kept) is.sendable);
      room = let e = ap flits_in same in let r = is.room in omega arith;
      pointer = is.pointer ∙ sym (λ i. (base i + flits_in (same i)) % modulus_of (profile i));
      number = is.number;
      others = few-others held.others;
      begun = begun-known after packet part (subst (λ (q : Profile). CanBeSent q packet) (sym profile) can);
    }

next-within : (p n : ℕ) → p ≤ n → (if nat_lt p n then suc p else p) ≤ n
next-within p n le = grind (arith, common_steps)

-- the buffer after a packet was sent again
pub buffer-next : (buffer : RetryFields) → IsRetryBuffer buffer → IsRetryBuffer (after_next buffer)
buffer-next buffer is = record {
  least = is.least;
  most = is.most;
  base = is.base;
  within = is.within;
  position = next-within buffer.position (length buffer.kept) is.position;
  pointers = is.pointers;
}

-- an open place stays open
pub keep-open : (held : State) (part longer : Part) (head : List ℕ) (flits : ℕ) (n : Numbers) (shown : ℕ) → IsSender held → held.under_way ≡ Some (record { part = part; place = Place.awaited head flits n }) →
    IsSender (record held { under_way = Some (record { part = longer; place = Place.awaited head flits n }); others = min (suc held.others) 64; shown = shown })
keep-open held part longer head flits n shown is some =
    let same : map Place.known held.retry.kept ++ Place.awaited head flits n ∷ [] ≡ places_held held = λ i. map Place.known held.retry.kept ++ open_places (sym some i) in
    record {
      profile = is.profile;
      buffer = is.buffer;
      sendable = is.sendable;
      room = let e = ap flits_in same in let r = is.room in omega arith;
      pointer = is.pointer ∙ ap (λ (l : List Place). pointer_after held.retry (flits_in l)) (sym same);
      number = is.number;
      others = few-others held.others;
      begun = subst (IsBegunKept held.retry) some is.begun;
    }

-- an open place is filled
pub keep-filled : (held : State) (part : Part) (copy : PacketFields) (head : List ℕ) (flits : ℕ) (n : Numbers) (shown : ℕ) → IsSender held → held.under_way ≡ Some (record { part = part; place = Place.awaited head flits n }) →
    flits_of copy ≡ flits → copy.frp ≡ next_pointer held.retry (flits_of copy) → CanBeSent held.retry.profile copy →
    IsSender (record held { retry = after_put copy held.retry; under_way = None; others = min (suc held.others) 64; shown = shown })
keep-filled held part copy head flits n shown is some size next can =
    let waits = Place.awaited head flits n in
    let known = map Place.known held.retry.kept in
    let same : known ++ waits ∷ [] ≡ places_held held = λ i. known ++ open_places (sym some i) in
    let before : flits_in (places_held held) ≡ retry.flits_in held.retry.kept + flits = ap flits_in (sym same) ∙ flits-push known waits ∙ ap (λ (k : ℕ). k + flits) (flits-known held.retry.kept) in
    let all = held.retry.kept ++ copy ∷ [] in
    let after : flits_in (map Place.known all ++ []) ≡ retry.flits_in held.retry.kept + flits_of copy = ap flits_in (append-nil (map Place.known all)) ∙ flits-known all ∙ sum_by_push flits_of held.retry.kept copy in
    let r = is.room in
    let within = is.buffer.within in
    record {
      profile = is.profile;
      buffer = IsRetryBuffer-put copy held.retry is.buffer (omega arith) next;
      sendable = All-append (CanBeSent held.retry.profile) held.retry.kept (copy ∷ []) is.sendable (λ k d lt. one k d lt);
      room = omega arith;
      pointer = is.pointer ∙ ap (pointer_after held.retry) (let e : flits_in (places_held held) ≡ flits_in (map Place.known all ++ []) = omega arith in e);
      number = is.number;
      others = few-others held.others;
      begun = tt;
    }
  where
    one : (k : ℕ) (d : PacketFields) → k < 1 → CanBeSent held.retry.profile (get_or (copy ∷ []) k d)
    one zero d lt = can
    one (suc k) d lt = absurd (omega arith)
