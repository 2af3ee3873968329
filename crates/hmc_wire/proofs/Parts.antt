-- What a sender's entries are for the numbers, and what each send leaves of the packet under way.
-- Used by Senders and Choices.
use Rattle.std.proofs.Common.{◌≡◌, ◌≢◌, ◌∙◌, ◌<◌, ◌≤◌, ◌-◌, inl, inr, ℕ, zero, suc, Bool, true, false, List, [], ◌∷◌, ◌++◌, length, get_or, map, Option, Some, None, refl, sym, ap, arith, length-append, leb-true}
use Rattle.std.specs.Prelude.{◌==◌, nat_le, is_none, if◌then◌else◌}
use Rattle.std.proofs.lemmas.Bool.{eqb-true, eq-eqb}
use Rattle.hmc_codes.specs.declared.profile.Profile.{Profile}
use Rattle.hmc_packet.specs.Packet.{null_packet}
use Rattle.hmc_packet.specs.Parts.{lng_of}
use Rattle.hmc_tokens.specs.Account.{tokens_of_code, greatest_code, code_for}
use Rattle.hmc_send.specs.Entries.{SenderEntry, Given, Part, part_with, part_after, places_with, unfinished, places, acked, clears, last_begun}
use Rattle.hmc_send.specs.Places.{Place, flits_at, place_at}
use Rattle.hmc_numbers.specs.Direction.{Direction}
use Rattle.hmc_wire.proofs.OpenPlaces.{AreKnown, last-fed_known}
use Rattle.hmc_wire.proofs.Places.{HasPacket, AllFit}
use Rattle.hmc_wire.specs.EntryTurns.{weight, left_of}

-- a direction is what a sender's entries say
pub record Sends (q : Profile) (t : List SenderEntry) (w : Direction) : Type 0 where
  pub first : w.first ≡ map weight (places q t)
  pub acked : w.acked ≡ acked t
  pub last : w.last ≡ last_begun q t
  pub left : w.left ≡ left_of (unfinished t)
  pub clears : w.clears ≡ clears t

-- the packet under way is that of its place, and a flit of it is left to send
pub record IsPart (l : List Place) (last : ℕ) (p : Part) : Type 0 where
  pub least : 1 ≤ last
  pub flits : p.flits ≡ flits_at (place_at l last)
  pub more : length p.sent < p.flits

abbrev pub PartsFit : Profile → List SenderEntry → Type 0
PartsFit q t = (p : Part) → unfinished t ≡ Some p → IsPart (places q t) (last_begun q t) p

-- ---- a flit more

pub record Grows (part p : Part) : Type 0 where
  pub flits : p.flits ≡ part.flits
  pub again : p.again ≡ part.again
  pub sent : length p.sent ≡ suc (length part.sent)
  pub other : suc (length part.sent) ≢ part.flits

grown-by : (part : Part) (flit : List ℕ) (b : Bool) → (suc (length part.sent) == part.flits) ≡ b → (p : Part) → (if b then None else Some (record part { sent = part.sent ++ flit ∷ [] })) ≡ Some p → Grows part p
grown-by part flit true e p is = absurd cc
grown-by part flit false e p is =
    let same : record part { sent = part.sent ++ flit ∷ [] } ≡ p = cc in
    record {
      flits = ap (λ (x : Part). x.flits) (sym same);
      again = ap (λ (x : Part). x.again) (sym same);
      sent = ap (λ (x : Part). length x.sent) (sym same) ∙ (let len = length-append part.sent (flit ∷ []) in omega arith);
      other = λ is. let clash : true ≡ false = sym (eq-eqb (suc (length part.sent)) part.flits is) ∙ e in cc;
    }

pub grown-some : (part : Part) (flit : List ℕ) (p : Part) → part_with part flit ≡ Some p → Grows part p
grown-some part flit p is = grown-by part flit (suc (length part.sent) == part.flits) refl p is

left-by : (part : Part) (flit : List ℕ) (b : Bool) → (suc (length part.sent) == part.flits) ≡ b → left_of (if b then None else Some (record part { sent = part.sent ++ flit ∷ [] })) ≡ part.flits - length part.sent - 1
left-by part flit true e = let is = eqb-true (suc (length part.sent)) part.flits e in omega arith
left-by part flit false e = let len = length-append part.sent (flit ∷ []) in omega arith

pub grown-left : (part : Part) (flit : List ℕ) → left_of (part_with part flit) ≡ part.flits - length part.sent - 1
grown-left part flit = left-by part flit (suc (length part.sent) == part.flits) refl

pub part-grows : (l : List Place) (last : ℕ) (part : Part) (flit : List ℕ) → IsPart l last part → (p : Part) → part_with part flit ≡ Some p → IsPart l last p
part-grows l last part flit is p e =
    let g = grown-some part flit p e in
    let n = g.sent in
    let f = g.flits in
    let m = is.more in
    let o = g.other in
    record { least = is.least; flits = g.flits ∙ is.flits; more = omega arith }

pub part-begins : (l : List Place) (last : ℕ) (again : Bool) (flit : List ℕ) → 1 ≤ last → lng_of flit ≡ flits_at (place_at l last) → 1 ≤ lng_of flit → (p : Part) → part_after again flit None ≡ Some p → IsPart l last p
part-begins l last again flit some lng long p e =
    let g = grown-some (record { again = again; flits = lng_of flit; sent = [] }) flit p e in
    let n = g.sent in
    let f = g.flits in
    let o = g.other in
    record { least = some; flits = g.flits ∙ lng; more = omega arith }

-- what is fed changes no place that has its packet
pub new-same : (q : Profile) (given : Given) (l : List Place) (u : Option Part) (part : Part) → u ≡ Some part → AreKnown l → places_with q u given l ≡ l
new-same q given l u part some all = ap (λ (o : Option Part). places_with q o given l) some ∙ last-fed_known q part.sent given.feed l all

-- a place that is known has its packet
pub known-at : (q : Profile) (l : List Place) (n : ℕ) → n < length l → AreKnown l → AllFit q l → HasPacket q (get_or l n (Place.known null_packet))
known-at q [] n lt known all = absurd (omega arith)
known-at q (x ∷ l) zero lt known all =
    elim all.0 [ inl h ↦ h | inr other ↦ absurd (let clash : true ≡ false = ap is_none (sym other.none) ∙ known.0 in cc) ]
known-at q (x ∷ l) (suc n) lt known all = known-at q l n (omega arith) known.1 all.1

-- ---- what is returned is due

greatest-by : (k due : ℕ) (b : Bool) → nat_le (tokens_of_code (suc k)) due ≡ b → tokens_of_code (greatest_code k due) ≤ due → tokens_of_code (if b then suc k else greatest_code k due) ≤ due
greatest-by k due true is le = leb-true (tokens_of_code (suc k)) due is
greatest-by k due false is le = le

greatest-le : (most due : ℕ) → tokens_of_code (greatest_code most due) ≤ due
greatest-le zero due = omega arith
greatest-le (suc k) due = greatest-by k due (nat_le (tokens_of_code (suc k)) due) refl (greatest-le k due)

pub rtc-le : (due : ℕ) → tokens_of_code (code_for due) ≤ due
unfolding code_for
rtc-le due = greatest-le 7 due
