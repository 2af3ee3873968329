-- A return pointer that is counted acknowledges the packets up to the one that it names.
use Rattle.std.proofs.Common.{◌≡◌, ◌∙◌, ◌≤◌, ◌<◌, ◌+◌, ◌-◌, ℕ, zero, suc, Bool, true, false, List, [], ◌∷◌, length, take, drop, get_or, Some, None, refl, sym, ap, subst, arith, eq-eqb, one-add}
use Rattle.std.specs.Prelude.{◌==◌, not, nat_lt, position, slice_get, if◌then◌else◌}
use Rattle.std.specs.List.{position_or_len}
use Rattle.std.proofs.lemmas.Bool.{eqb-true}
use Rattle.std.proofs.lemmas.Grind.{common_steps}
use Rattle.std.proofs.lemmas.List.{length-drop, get_or-drop, get_or-take}
use Rattle.hmc_codes.specs.Link.{LinkFields}
use Rattle.hmc_codes.specs.declared.profile.Profile.{Profile}
use Rattle.hmc_packet.specs.Packet.{PacketFields, null_packet}
use Rattle.hmc_retry.specs.RetryBuffer.{place_after, packet_at}
use Rattle.hmc_send.specs.Acknowledged.{ends_at, acknowledged_after}
use Rattle.hmc_send.specs.Entries.{SenderEntry, places, acked}
use Rattle.hmc_send.specs.LinkEntries.{LinkEntry, other, accepted_packets}
use Rattle.hmc_send.specs.LinkLines.{StampedFlit, line}
use Rattle.hmc_send.specs.LinkSenders.{sender_entries, places_in}
use Rattle.hmc_send.specs.Places.{Place, numbers_at, pointer_of}
use Rattle.hmc_send.specs.declared.toward.Toward.{Toward}
use Rattle.hmc_send.proofs.Lists.{get-known}
use Rattle.hmc_wire.specs.LinkLaws.{IsKept, NamesOne, DirectionLaws}
use Rattle.hmc_wire.proofs.NumberedPlaces.{first-numbered}
use Rattle.hmc_wire.proofs.Places.{AreNumbered}
use Rattle.hmc_ends.proofs.Fed.{sender-is}
use Rattle.hmc_wire.proofs.LawsHold.{direction-laws}

first-index : (p : Place → Bool) (l : List Place) (k : ℕ) (d : Place) → k < length l → p (get_or l k d) ≡ true → ((j : ℕ) → j < k → p (get_or l j d) ≡ false) → position_or_len p l ≡ k
first-index p [] k d lt is before = absurd (omega arith)
first-index p (x ∷ l) zero d lt is before = ap (λ (b : Bool). if not b then 1 + position_or_len p l else 0) is
first-index p (x ∷ l) (suc k) d lt is before =
    ap (λ (b : Bool). if not b then 1 + position_or_len p l else 0) (before 0 (omega arith))
    ∙ ap (λ (n : ℕ). 1 + n) (first-index p l k d (omega arith) is (λ j le. before (suc j) (omega arith))) ∙ one-add k

first-at : (p : Place → Bool) (l : List Place) (k : ℕ) (d : Place) → k < length l → p (get_or l k d) ≡ true → ((j : ℕ) → j < k → p (get_or l j d) ≡ false) → position p l ≡ Some k
first-at p l k d lt is before =
    let e = first-index p l k d lt is before in
    let inside : nat_lt k (length l) ≡ true = lt-true k (length l) lt in
    ap (λ (n : ℕ). if nat_lt n (length l) then Some n else None) e ∙ ap (λ (b : Bool). if b then Some k else None) inside
  where
    lt-true : (a b : ℕ) → a < b → nat_lt a b ≡ true
    lt-true a b lt = grind (arith, common_steps)

-- a number names one place, from those acknowledged
pub record Named (q : Profile) (l : List Place) (a rrp stamp : ℕ) : Type 0 where
  pub least : a ≤ stamp
  pub most : stamp ≤ length l
  pub is : rrp ≡ pointer_of q (take stamp l)
  pub alone : (n : ℕ) → a ≤ n → n ≤ length l → pointer_of q (take n l) ≡ rrp → n ≡ stamp
  pub known : (n : ℕ) → n < stamp → (p : PacketFields) × (get_or l n (Place.known null_packet) ≡ Place.known p)

ends-known : (rrp : ℕ) (x : Place) (p : PacketFields) → x ≡ Place.known p → ends_at rrp x ≡ ((numbers_at x).frp == rrp)
ends-known rrp x p is = ap (ends_at rrp) is ∙ ap (λ (y : Place). (numbers_at y).frp == rrp) (sym is)

ends-at : (q : Profile) (l : List Place) (a rrp stamp n : ℕ) → Named q l a rrp stamp → AreNumbered q l → n < stamp → ends_at rrp (get_or l n (Place.known null_packet)) ≡ (pointer_of q (take (suc n) l) == rrp)
ends-at q l a rrp stamp n is numbered lt =
    let most = is.most in
    let known = is.known n lt in
    ends-known rrp (get_or l n (Place.known null_packet)) known.0 known.1 ∙ ap (λ (k : ℕ). k == rrp) (numbered n (omega arith)).frp

differs : (a b : ℕ) (c : Bool) → (a == b) ≡ c → (a ≡ b → ⊥) → (a == b) ≡ false
differs a b true is never = absurd (never (eqb-true a b is))
differs a b false is never = is

among-other : (q : Profile) (l : List Place) (a rrp stamp : ℕ) → Named q l a rrp stamp → AreNumbered q l → a < stamp → position (ends_at rrp) (drop a l) ≡ Some (stamp - a - 1)
among-other q l a rrp stamp is numbered lt =
    let d = Place.known null_packet in
    let most = is.most in
    let size = length-drop a l in
    let k = stamp - a - 1 in
    let at : a + k ≡ stamp - 1 = omega arith in
    let last : suc (stamp - 1) ≡ stamp = omega arith in
    let e : ends_at rrp (get_or l (stamp - 1) d) ≡ (pointer_of q (take (suc (stamp - 1)) l) == rrp) = ends-at q l a rrp stamp (stamp - 1) is numbered (omega arith) in
    let ends : ends_at rrp (get_or (drop a l) k d) ≡ true =
    ap (ends_at rrp) (get_or-drop a l k d ∙ ap (λ (n : ℕ). get_or l n d) at) ∙ e ∙ ap (λ (n : ℕ). pointer_of q (take n l) == rrp) last ∙ eq-eqb (pointer_of q (take stamp l)) rrp (sym is.is) in
    first-at (ends_at rrp) (drop a l) k d (omega arith) ends (λ j le.
    let f : ends_at rrp (get_or l (a + j) d) ≡ (pointer_of q (take (suc (a + j)) l) == rrp) = ends-at q l a rrp stamp (a + j) is numbered (omega arith) in
    ap (ends_at rrp) (get_or-drop a l j d) ∙ f
    ∙ differs (pointer_of q (take (suc (a + j)) l)) rrp _ refl (λ same. let n = is.alone (suc (a + j)) (omega arith) (omega arith) same in omega arith))

by-base : (q : Profile) (l : List Place) (a rrp stamp : ℕ) (b : Bool) → (rrp == pointer_of q (take a l)) ≡ b → Named q l a rrp stamp → AreNumbered q l →
    (if b then Some 0 else place_after (position (ends_at rrp) (drop a l))) ≡ Some (stamp - a)
by-base q l a rrp stamp true test is numbered =
    let most = is.most in
    let least = is.least in
    let e = is.alone a (omega arith) (omega arith) (sym (eqb-true rrp (pointer_of q (take a l)) test)) in
    ap (λ (n : ℕ). Some n) (let z : 0 ≡ stamp - a = omega arith in z)
by-base q l a rrp stamp false test is numbered =
    let least = is.least in
    let lt : a < stamp = by_order a stamp least (λ same. let clash : true ≡ false = sym (eq-eqb rrp (pointer_of q (take a l)) (is.is ∙ ap (λ (n : ℕ). pointer_of q (take n l)) (sym same))) ∙ test in cc) in
    ap place_after (among-other q l a rrp stamp is numbered lt) ∙ ap (λ (n : ℕ). Some n) (let z : suc (stamp - a - 1) ≡ stamp - a = omega arith in z)
  where
    by_order : (a stamp : ℕ) → a ≤ stamp → (a ≡ stamp → ⊥) → a < stamp
    by_order a stamp le never = omega arith

pub acknowledged-is : (q : Profile) (t : List SenderEntry) (rrp stamp : ℕ) → Named q (places q t) (acked t) rrp stamp → AreNumbered q (places q t) → acknowledged_after q rrp t ≡ Some (stamp - acked t)
acknowledged-is q t rrp stamp is numbered = by-base q (places q t) (acked t) rrp stamp _ refl is numbered

-- ---- of a link

pub accepted-known : (link : LinkFields) (d : Toward) (past : List LinkEntry) → DirectionLaws link d past → (n : ℕ) → n < length (accepted_packets link.profile d past) → (p : PacketFields) × (get_or (places_in link d past) n (Place.known null_packet) ≡ Place.known p)
accepted-known link d past laws n lt =
    let l = places_in link d past in
    let ps = accepted_packets link.profile d past in
    let x = Place.known null_packet in
    (packet_at ps n, sym (get_or-take (length ps) l n x lt) ∙ ap (λ (m : List Place). get_or m n x) (sym laws.accepted) ∙ get-known ps n)

some-front : (a b : StampedFlit) → Some a ≡ Some b → a ≡ b
some-front a b is = cc

-- a pointer that is counted names the packets that the front's stamp says
pub named-is : (link : LinkFields) (d : Toward) (past : List LinkEntry) (rrp : ℕ) (front : StampedFlit) → IsKept link past → NamesOne link d past rrp → slice_get (line link.profile (other d) past) 0 ≡ Some front →
    acknowledged_after link.profile rrp (sender_entries link d past) ≡ Some (front.stamp - acked (sender_entries link d past))
named-is link d past rrp front kept names is =
    let laws = direction-laws link d past kept in
    let t = sender_entries link d past in
    let same : names.front ≡ front = some-front names.front front (sym names.is_front ∙ is) in
    let stamp = names.front.stamp in
    let begun = laws.begun in
    let most = names.most in
    let sender = sender-is link d past kept in
    acknowledged-is link.profile t rrp stamp (record {
      least = names.least;
      most = omega arith;
      is = names.is;
      alone = names.alone;
      known = λ n lt. accepted-known link d past laws n (omega arith);
    }) (first-numbered link.profile link.retry t sender.chosen sender.fed)
    ∙ ap (λ (x : StampedFlit). Some (x.stamp - acked t)) same

pub stamp-least : (link : LinkFields) (d : Toward) (past : List LinkEntry) (rrp : ℕ) (front : StampedFlit) → NamesOne link d past rrp → slice_get (line link.profile (other d) past) 0 ≡ Some front → acked (sender_entries link d past) ≤ front.stamp
stamp-least link d past rrp front names is = subst (λ (x : StampedFlit). acked (sender_entries link d past) ≤ x.stamp) (some-front names.front front (sym names.is_front ∙ is)) names.least
