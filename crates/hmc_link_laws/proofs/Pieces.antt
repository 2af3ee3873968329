-- One flit more of a packet.
use Rattle.std.proofs.Common.{◌≡◌, ◌∙◌, ◌≤◌, ◌<◌, ◌+◌, ◌-◌, ℕ, zero, suc, Bool, true, false, List, [], ◌∷◌, ◌++◌, length, take, get_or, Some, None, inl, inr, refl, sym, ap, subst, arith, length-append}
use Rattle.std.specs.Prelude.{◌==◌, if◌then◌else◌}
use Rattle.std.proofs.lemmas.Bool.{eqb-true, eq-eqb}
use Rattle.hmc_codes.specs.Commands.{layout_of}
use Rattle.hmc_codes.specs.declared.profile.Profile.{Profile}
use Rattle.hmc_packet.specs.Packet.{PacketFields, IsPacket, flits_of, null_packet}
use Rattle.hmc_packet.specs.Parts.{lng_of}
use Rattle.hmc_packet.specs.Spelling.{spelling}
use Rattle.hmc_packet.proofs.GrowLemmas.{grown-front, grown-whole}
use Rattle.hmc_packet.proofs.LinkLemmas.{length-spelling}
use Rattle.hmc_packet.proofs.PacketLemmas.{flits_of-few}
use Rattle.hmc_send.specs.Entries.{Part, part_with, part_after}
use Rattle.hmc_send.specs.Places.{Place, place_at, flit_of, with_last}
use Rattle.hmc_send.proofs.Lists.{length-push, length-last}
use Rattle.hmc_wire.proofs.Marks.{first-lng}
use Rattle.hmc_wire.proofs.PacketGrammar.{IsSequenced}
use Rattle.hmc_wire.proofs.Places.{packet_of, AllFit, fit-at}
use Rattle.hmc_link_laws.specs.Wire.{Transmission, Piece, with_flit, AreWhole, ArePieces}

-- ---- places stay

pub record Keeps (l m : List Place) : Type 0 where
  pub few : length l ≤ length m
  pub same : (n : ℕ) (p : PacketFields) → n < length l → get_or l n (Place.known null_packet) ≡ Place.known p → get_or m n (Place.known null_packet) ≡ Place.known p

pub keeps-same : (l m : List Place) → m ≡ l → Keeps l m
keeps-same l m is = subst (Keeps l) (sym is) (record { few = omega arith; same = λ n p lt at. at })

get-before : (l : List Place) (x d : Place) (n : ℕ) → n < length l → get_or (l ++ x ∷ []) n d ≡ get_or l n d
get-before [] x d n lt = absurd (omega arith)
get-before (y ∷ l) x d zero lt = refl
get-before (y ∷ l) x d (suc n) lt = get-before l x d n (omega arith)

pub keeps-push : (l : List Place) (x : Place) → Keeps l (l ++ x ∷ [])
keeps-push l x = record { few = let e = length-push l x in omega arith; same = λ n p lt at. get-before l x (Place.known null_packet) n lt ∙ at }

last-keeps : (f : Place → Place) → ((p : PacketFields) → f (Place.known p) ≡ Place.known p) → (l : List Place) (n : ℕ) (p : PacketFields) → n < length l → get_or l n (Place.known null_packet) ≡ Place.known p → get_or (with_last f l) n (Place.known null_packet) ≡ Place.known p
last-keeps f known [] n p lt at = absurd (omega arith)
last-keeps f known (x ∷ []) zero p lt at = ap f at ∙ known p
last-keeps f known (x ∷ []) (suc n) p lt at = absurd (omega arith)
last-keeps f known (x ∷ y ∷ l) zero p lt at = at
last-keeps f known (x ∷ y ∷ l) (suc n) p lt at = last-keeps f known (y ∷ l) n p (omega arith) at

pub keeps-last : (f : Place → Place) (l : List Place) → ((p : PacketFields) → f (Place.known p) ≡ Place.known p) → Keeps l (with_last f l)
keeps-last f l known = record { few = let e = length-last f l in omega arith; same = last-keeps f known l }

pub whole-keeps : (q : Profile) (l m : List Place) (ps : List Piece) → Keeps l m → AreWhole q l ps → AreWhole q m ps
whole-keeps q l m [] keeps all = tt
whole-keeps q l m (Piece.alone w rrp flit ∷ ps) keeps all = (all.0, whole-keeps q l m ps keeps all.1)
whole-keeps q l m (Piece.packet x ∷ ps) keeps all =
    let is = all.0 in
    let lt = is.begun in
    let few = keeps.few in
    (record { of = is.of; begun = omega arith; at = keeps.same x.number is.of is.begun is.at; spelled = is.spelled; cut = is.cut }, whole-keeps q l m ps keeps all.1)

-- ---- a packet at its place

pub record IsAt (q : Profile) (l : List Place) (n : ℕ) (p : PacketFields) : Type 0 where
  pub begun : n < length l
  pub at : get_or l n (Place.known null_packet) ≡ Place.known p
  pub packet : IsPacket p
  pub sequenced : IsSequenced (layout_of p.command)

pub at-known : (q : Profile) (l : List Place) (n : ℕ) (p : PacketFields) → n < length l → AllFit q l → get_or l n (Place.known null_packet) ≡ Place.known p → IsAt q l n p
at-known q l n p lt all at = elim (fit-at q l n lt all) [
  | inl h ↦
      let same : h.packet ≡ p = let e : Some h.packet ≡ Some p = sym h.fits.known ∙ ap packet_of at in cc in
      record { begun = lt; at = at; packet = subst IsPacket same h.fits.packet; sequenced = subst (λ (x : PacketFields). IsSequenced (layout_of x.command)) same h.fits.sequenced }
  | inr o ↦ absurd (let clash : None ≡ Some p = sym o.none ∙ ap packet_of at in cc)
]

-- ---- one flit more

known-is : (p r : PacketFields) → Place.known p ≡ Place.known r → p ≡ r
known-is p r is = cc

pub grown : (q : Profile) (l : List Place) (p : PacketFields) (rrp last : ℕ) (part : Part) (flit : List ℕ) (x : Transmission) (ps : List Piece) → IsAt q l x.number p → suc x.number ≡ last → x.flits ≡ part.sent ++ flit ∷ [] → x.rrp ≡ rrp →
    part.flits ≡ flits_of p → length part.sent < part.flits → part.sent ≡ take (length part.sent) (spelling q p 0) → flit ≡ flit_of q p rrp (length part.sent) → AreWhole q l ps → ArePieces q l (part_with part flit) last (Piece.packet x ∷ ps)
unfolding flit_of
grown q l p rrp last part flit x ps is number flits pointer count more front next all = by_test (suc (length part.sent) == part.flits) refl
  where
    by_test : (b : Bool) → (suc (length part.sent) == part.flits) ≡ b → ArePieces q l (if b then None else Some (record part { sent = part.sent ++ flit ∷ [] })) last (Piece.packet x ∷ ps)
    by_test true e =
        let k = length part.sent in
        let done = eqb-true (suc k) part.flits e in
        let spelled : x.flits ≡ spelling q p x.rrp =
        flits ∙ (λ i. front i ++ next i ∷ []) ∙ grown-whole q p 0 rrp k is.packet (omega arith) ∙ ap (spelling q p) (sym pointer) in (
          record {
            of = p;
            begun = is.begun;
            at = is.at;
            spelled = spelled;
            cut = ap (λ (fs : List (List ℕ)). lng_of (get_or fs 0 [])) spelled ∙ first-lng q p x.rrp is.packet is.sequenced ∙ sym (length-spelling q p x.rrp is.packet) ∙ sym (ap (λ (fs : List (List ℕ)). length fs) spelled);
          },
          all,
        )
    by_test false e =
        let k = length part.sent in
        let other : suc k ≡ part.flits → ⊥ = λ same. (let clash : true ≡ false = sym (eq-eqb (suc k) part.flits same) ∙ e in cc) in
        let size : length x.flits ≡ k + 1 = ap (λ (fs : List (List ℕ)). length fs) flits ∙ length-append part.sent (flit ∷ []) in
        let begins : x.flits ≡ take (length x.flits) (spelling q p 0) =
        flits ∙ (λ i. front i ++ next i ∷ []) ∙ grown-front q p 0 rrp k is.packet (below k part.flits (flits_of p) count more other) ∙ ap (λ (n : ℕ). take n (spelling q p 0)) (sym size) in (
          record {
            number = number;
            flits = flits;
            front = λ r at. begins ∙ ap (λ (y : PacketFields). take (length x.flits) (spelling q y 0)) (known-is p r (sym is.at ∙ at));
          },
          all,
        )
      where
        below : (k n m : ℕ) → n ≡ m → k < n → (suc k ≡ n → ⊥) → k + 1 < m
        below k n m same lt never = omega arith

-- a packet begins
pub begun : (q : Profile) (l : List Place) (p : PacketFields) (rrp last : ℕ) (again : Bool) (flit : List ℕ) (x : Transmission) (ps : List Piece) → IsAt q l x.number p → suc x.number ≡ last → x.flits ≡ flit ∷ [] → x.rrp ≡ rrp → flit ≡ flit_of q p rrp 0 → AreWhole q l ps →
    ArePieces q l (part_after again flit None) last (Piece.packet x ∷ ps)
begun q l p rrp last again flit x ps is number flits pointer next all =
    let few = flits_of-few p is.packet in
    let count : lng_of flit ≡ flits_of p = ap lng_of next ∙ first-lng q p rrp is.packet is.sequenced in
    grown q l p rrp last (record { again = again; flits = lng_of flit; sent = [] }) flit x ps is number flits pointer count (omega arith) refl next all

-- what comes next of the packet that was begun last
pub data Next (q : Profile) (l m : List Place) (part : Part) (last rrp : ℕ) (flit : List ℕ) : Type 0 where
  goes : (p : PacketFields) → place_at l last ≡ Place.known p → IsAt q m (last - 1) p → part.flits ≡ flits_of p → length part.sent < part.flits → flit ≡ flit_of q p rrp (length part.sent) → Next q l m part last rrp flit
  waits : ((p : PacketFields) → place_at m last ≡ Place.known p → ⊥) → (suc (length part.sent) == part.flits) ≡ false → Next q l m part last rrp flit
  fills : (p : PacketFields) → IsAt q m (last - 1) p → part.flits ≡ flits_of p → length part.sent < part.flits → part.sent ≡ take (length part.sent) (spelling q p 0) → flit ≡ flit_of q p rrp (length part.sent) → Next q l m part last rrp flit

pub stepped : (q : Profile) (l m : List Place) (part : Part) (last number rrp : ℕ) (flit : List ℕ) (ps : List Piece) → ArePieces q l (Some part) last ps → Keeps l m → Next q l m part last rrp flit →
    ArePieces q m (part_with part flit) last (with_flit (Some part) number rrp flit ps)
stepped q l m part last number rrp flit [] are keeps next = absurd are
stepped q l m part last number rrp flit (Piece.alone w r f ∷ ps) are keeps next = absurd are
stepped q l m part last number rrp flit (Piece.packet x ∷ ps) are keeps (goes p at is count more same) =
    let b = are.0 in
    let index : last - 1 ≡ x.number = before x.number last b.number in
    let front = b.front p (ap (λ (n : ℕ). get_or l n (Place.known null_packet)) (sym index) ∙ at) in
    grown q m p rrp last part flit (record x { flits = x.flits ++ flit ∷ []; rrp = rrp }) ps (subst (λ (n : ℕ). IsAt q m n p) index is) b.number (ap (λ (fs : List (List ℕ)). fs ++ flit ∷ []) b.flits) refl count more
    (sym b.flits ∙ front ∙ ap (λ (fs : List (List ℕ)). take (length fs) (spelling q p 0)) b.flits) same (whole-keeps q l m ps keeps are.1)
  where
    before : (n last : ℕ) → suc n ≡ last → last - 1 ≡ n
    before n last is = omega arith
stepped q l m part last number rrp flit (Piece.packet x ∷ ps) are keeps (fills p is count more front same) =
    let b = are.0 in
    let index : last - 1 ≡ x.number = before x.number last b.number in
    grown q m p rrp last part flit (record x { flits = x.flits ++ flit ∷ []; rrp = rrp }) ps (subst (λ (n : ℕ). IsAt q m n p) index is) b.number (ap (λ (fs : List (List ℕ)). fs ++ flit ∷ []) b.flits) refl count more front same (whole-keeps q l m ps keeps are.1)
  where
    before : (n last : ℕ) → suc n ≡ last → last - 1 ≡ n
    before n last is = omega arith
stepped q l m part last number rrp flit (Piece.packet x ∷ ps) are keeps (waits never later) =
    let b = are.0 in
    let index : x.number ≡ last - 1 = before x.number last b.number in
    subst (λ (c : Bool). ArePieces q m (if c then None else Some (record part { sent = part.sent ++ flit ∷ [] })) last (Piece.packet (record x { flits = x.flits ++ flit ∷ []; rrp = rrp }) ∷ ps)) (sym later) (
      record {
        number = b.number;
        flits = ap (λ (fs : List (List ℕ)). fs ++ flit ∷ []) b.flits;
        front = λ p at. absurd (never p (ap (λ (n : ℕ). get_or m n (Place.known null_packet)) (sym index) ∙ at));
      },
      whole-keeps q l m ps keeps are.1,
    )
  where
    before : (n last : ℕ) → suc n ≡ last → n ≡ last - 1
    before n last is = omega arith
