-- Flits that a sender sends are spelled as what they are. Used by Senders and Choices.
use Rattle.std.proofs.Common.{◌≡◌, ◌≢◌, ◌∙◌, ◌<◌, ◌≤◌, ◌+◌, ◌-◌, lit<, ℕ, zero, suc, true, List, [], ◌∷◌, ◌++◌, length, take, get_or, refl, sym, ap, subst, arith}
use Rattle.std.proofs.lemmas.List.{get_or-take}
use Rattle.std.proofs.lemmas.Bool.{false_from_ne_true}
use Rattle.hmc_codes.proofs.General.{mod_small}
use Rattle.hmc_codes.specs.Table.{table_line}
use Rattle.hmc_codes.specs.Commands.{layout_of, is_flow}
use Rattle.hmc_codes.specs.Flit.{zero_flit}
use Rattle.hmc_codes.specs.Profile.{modulus_of}
use Rattle.hmc_codes.specs.declared.command.Command.TheVariants.{Irtry, Pret}
use Rattle.hmc_codes.specs.declared.layout.Layout.{Layout}
use Rattle.hmc_codes.specs.declared.layout.Layout.TheVariants as layouts
use Rattle.hmc_codes.specs.declared.profile.Profile.{Profile}
use Rattle.hmc_codes.specs.declared.profile.Profile.TheVariants.{One, Two}
use Rattle.hmc_packet.specs.declared.kind.Kind as outer
use Rattle.hmc_packet.specs.declared.kind.Kind.TheVariants as outer_kinds
use Rattle.hmc_packet.specs.Irtry.{irtry_packet, irtry_flit}
use Rattle.hmc_packet.specs.Packet.{PacketFields, IsPacket, flits_of}
use Rattle.hmc_packet.specs.Parts.{lng_of}
use Rattle.hmc_packet.specs.Reading.{is_null, read_of}
use Rattle.hmc_packet.specs.Spelling.{FitsProfile, spelling, training_flit}
use Rattle.hmc_packet.proofs.AloneLemmas.{IsPacket-irtry_packet, irtry-spelling}
use Rattle.hmc_packet.proofs.FrontLemmas.{front-same, SameHead-refl}
use Rattle.hmc_packet.proofs.GrowLemmas.{grown-front, grown-whole}
use Rattle.hmc_packet.proofs.LinkLemmas.{length-spelling, flow-alone, lng_of-first, read_of-long}
use Rattle.hmc_packet.proofs.PacketLemmas.{IsPacket-pret, flits_of-few}
use Rattle.hmc_packet.proofs.ReadOf.{is_null-is, lng_of-null, read_of-spelling}
use Rattle.hmc_send.specs.Places.{pret_packet, flit_of}
use Rattle.hmc_numbers.specs.Weights.{Weight, size}
use Rattle.hmc_numbers.specs.Direction.{Filler as fill}
use Rattle.hmc_numbers.specs.Direction.Item.{filler, clear, part}
use Rattle.hmc_numbers.specs.Pointers.{pointer}
use Rattle.hmc_wire.proofs.Grammar.{Kind as kinds, Read as reads}
use Rattle.hmc_wire.proofs.Spelled.{Sent, fronts}
use Rattle.hmc_wire.proofs.Marked.{Mark}
use Rattle.hmc_wire.proofs.Words.{kind_as}
use Rattle.hmc_wire.proofs.PacketGrammar.{grammar, read_as, read_by, irtry_of_read, IsSequenced, IsNumbered}
use Rattle.hmc_wire.proofs.SpelledPackets.{not_null_layout, null_spelled, training_spelled, irtry_spelled, pret_spelled, front_spelled, last_spelled, whole_read}

-- Flow packets

pub mark-null : (q : Profile) (s : Sent (grammar q)) (ps qs : List Weight) (t : ℕ) → Mark (grammar q) s ps qs (filler fill.null) t zero_flit
mark-null q s ps qs t = record { spelled = null_spelled q s ps; carries = tt }

pub mark-train : (q : Profile) (s : Sent (grammar q)) (ps qs : List Weight) (t : ℕ) → Mark (grammar q) s ps qs (filler fill.train) t training_flit
mark-train q s ps qs t = record { spelled = training_spelled q s ps; carries = tt }

is_flow-pret : is_flow (layout_of Pret) ≡ true
unfolding table_line
is_flow-pret = refl

layout-pret : layout_of Pret ≡ layouts.Pret
unfolding table_line
layout-pret = refl

layout-irtry : layout_of Irtry ≡ layouts.Irtry
unfolding table_line
layout-irtry = refl

pret-fits : (q : Profile) (rrp : ℕ) → rrp < modulus_of q → FitsProfile q pret_packet rrp
pret-fits One rrp lt = record { below = lt; forward = lit< tt; errstat = lit< tt; null = λ no. absurd cc }
pret-fits Two rrp lt = record { below = lt; forward = lit< tt; errstat = lit< tt; null = λ no. absurd cc }

pub mark-pret : (q : Profile) (s : Sent (grammar q)) (ps qs : List Weight) (t rrp : ℕ) → rrp < modulus_of q → rrp ≡ pointer q qs t → Mark (grammar q) s ps qs (filler fill.pret) t (flit_of q pret_packet rrp 0)
unfolding flit_of
mark-pret q s ps qs t rrp lt is =
    let h = pret-fits q rrp lt in
    let alone = flow-alone q pret_packet rrp IsPacket-pret h is_flow-pret in
    let flit : get_or (spelling q pret_packet rrp) 0 [] ≡ alone.0 = ap (λ (l : List (List ℕ)). get_or l 0 []) alone.1 in
    let read : read_as (read_of q (alone.0 ∷ [])) ≡ reads.pret rrp = ap read_as alone.2 ∙ ap (λ (l : Layout). read_by l pret_packet rrp) layout-pret in
    subst (λ (f : List ℕ). Mark (grammar q) s ps qs (filler fill.pret) t f) (sym flit)
    (record {
      spelled = pret_spelled q pret_packet rrp alone.0 IsPacket-pret h layout-pret alone.1;
      carries = subst (λ (r : ℕ). read_as (read_of q (alone.0 ∷ [])) ≡ reads.pret r) is read;
    })

irtry-fits : (q : Profile) (kind : outer.Kind) (rrp : ℕ) → rrp < modulus_of q → FitsProfile q (irtry_packet kind) rrp
irtry-fits One outer_kinds.Start rrp lt = record { below = lt; forward = lit< tt; errstat = lit< tt; null = λ no. absurd cc }
irtry-fits One outer_kinds.Clear rrp lt = record { below = lt; forward = lit< tt; errstat = lit< tt; null = λ no. absurd cc }
irtry-fits Two outer_kinds.Start rrp lt = record { below = lt; forward = lit< tt; errstat = lit< tt; null = λ no. absurd cc }
irtry-fits Two outer_kinds.Clear rrp lt = record { below = lt; forward = lit< tt; errstat = lit< tt; null = λ no. absurd cc }

irtry-as : (kind : outer.Kind) (rrp : ℕ) → read_by layouts.Irtry (irtry_packet kind) rrp ≡ reads.irtry (kind_as kind) rrp
irtry-as outer_kinds.Start rrp = refl
irtry-as outer_kinds.Clear rrp = refl

irtry-read : (q : Profile) (kind : outer.Kind) (rrp : ℕ) → rrp < modulus_of q → read_as (read_of q (irtry_flit q kind rrp ∷ [])) ≡ reads.irtry (kind_as kind) rrp
irtry-read q kind rrp lt =
    ap (λ (fs : List (List ℕ)). read_as (read_of q fs)) (sym (irtry-spelling q kind rrp))
    ∙ ap read_as (read_of-spelling q (irtry_packet kind) rrp (IsPacket-irtry_packet kind) (irtry-fits q kind rrp lt))
    ∙ ap (λ (l : Layout). read_by l (irtry_packet kind) rrp) layout-irtry ∙ irtry-as kind rrp

pub mark-start : (q : Profile) (s : Sent (grammar q)) (ps qs : List Weight) (t rrp : ℕ) → rrp < modulus_of q → rrp ≡ pointer q qs t → Mark (grammar q) s ps qs (filler fill.start) t (irtry_flit q outer_kinds.Start rrp)
mark-start q s ps qs t rrp lt is =
    let start : outer.Kind = outer_kinds.Start in
    let read = irtry-read q start rrp lt ∙ ap (reads.irtry kinds.start) is in
    record {
      spelled = irtry_spelled q (irtry_packet start) rrp (irtry_flit q start rrp) (IsPacket-irtry_packet start) (irtry-fits q start rrp lt) layout-irtry (irtry-spelling q start rrp);
      carries = (ap irtry_of_read read, read);
    }

pub mark-clear : (q : Profile) (s : Sent (grammar q)) (ps qs : List Weight) (t rrp : ℕ) → rrp < modulus_of q → rrp ≡ pointer q qs t → Mark (grammar q) s ps qs clear t (irtry_flit q outer_kinds.Clear rrp)
mark-clear q s ps qs t rrp lt is =
    let start : outer.Kind = outer_kinds.Clear in
    let read = irtry-read q start rrp lt ∙ ap (reads.irtry kinds.clear) is in
    record {
      spelled = irtry_spelled q (irtry_packet start) rrp (irtry_flit q start rrp) (IsPacket-irtry_packet start) (irtry-fits q start rrp lt) layout-irtry (irtry-spelling q start rrp);
      carries = (ap irtry_of_read read, read);
    }

-- Flits of sequenced packets

parted : (flits : List (List ℕ)) → 1 ≤ length flits → (first : List ℕ) × (rest : List (List ℕ)) × (flits ≡ first ∷ rest)
parted [] some = absurd (omega arith)
parted (first ∷ rest) some = (first, rest, refl)

-- the first flit names the length
pub first-lng : (q : Profile) (p : PacketFields) (rrp : ℕ) → IsPacket p → IsSequenced (layout_of p.command) → lng_of (flit_of q p rrp 0) ≡ flits_of p
unfolding flit_of
first-lng q p rrp is seq =
    let count = length-spelling q p rrp is in
    let few = flits_of-few p is in
    let parts = parted (spelling q p rrp) (omega arith) in
    ap (λ (l : List (List ℕ)). lng_of (get_or l 0 [])) parts.2 ∙ lng_of-first q p rrp parts.0 parts.1 is (not_null_layout (layout_of p.command) seq) parts.2

-- a flit before the last doesn't depend on the pointer
pub front-alike : (q : Profile) (p : PacketFields) (r s k : ℕ) → IsPacket p → suc k < flits_of p → flit_of q p r k ≡ flit_of q p s k
unfolding flit_of
front-alike q p r s k is lt =
    let below : k < flits_of p - 1 = omega arith in
    sym (get_or-take (flits_of p - 1) (spelling q p r) k [] below)
    ∙ ap (λ (l : List (List ℕ)). get_or l k []) (front-same q p p r s is is (SameHead-refl p))
    ∙ get_or-take (flits_of p - 1) (spelling q p s) k [] below

-- the flits before one, as they were sent
fronts-take : (q : Profile) (p : PacketFields) (front : ℕ → List ℕ) (r k : ℕ) → IsPacket p → ((j : ℕ) → suc j < flits_of p → front j ≡ flit_of q p 0 j) → k < flits_of p → fronts front k ≡ take k (spelling q p r)
unfolding flit_of
fronts-take q p front r zero is same lt = refl
fronts-take q p front r (suc k) is same lt =
    let next : k + 1 ≡ suc k = omega arith in
    (λ i. fronts-take q p front r k is same (omega arith) i ++ same k lt i ∷ [])
    ∙ grown-front q p r 0 k is (omega arith) ∙ ap (λ (n : ℕ). take n (spelling q p r)) next

-- a sequenced packet may be sent with a return pointer
pub numbered-fits : (q : Profile) (ps : List Weight) (n : ℕ) (p : PacketFields) (rrp : ℕ) → IsNumbered q ps n p → rrp < modulus_of q → FitsProfile q p rrp
unfolding table_line
numbered-fits q ps n p rrp i lt = record {
  below = lt;
  forward = subst (λ (f : ℕ). f < modulus_of q) (sym i.frp) (mod_small q _);
  errstat = i.errstat;
  null = λ is. absurd (subst (λ c. IsSequenced (layout_of c)) is i.sequenced);
}

first-is : (q : Profile) (p : PacketFields) (r k : ℕ) (first : List ℕ) (rest : List (List ℕ)) → spelling q p r ≡ first ∷ rest → k ≡ 0 → spelling q p r ≡ flit_of q p r k ∷ rest
unfolding flit_of
first-is q p r k first rest e z =
    e ∙ ap (λ (f : List ℕ). f ∷ rest) (sym (ap (λ (j : ℕ). get_or (spelling q p r) j []) z ∙ ap (λ (l : List (List ℕ)). get_or l 0 []) e))

-- with the last flit they are its spelling
whole-is : (q : Profile) (p : PacketFields) (rrp k : ℕ) → IsPacket p → k + 1 ≡ flits_of p → take k (spelling q p rrp) ++ flit_of q p rrp k ∷ [] ≡ spelling q p rrp
unfolding flit_of
whole-is q p rrp k is last = grown-whole q p rrp rrp k is last

-- a flit of a packet whose spelling is known
pub mark-part : (q : Profile) (s : Sent (grammar q)) (ps qs : List Weight) (n k more t rrp : ℕ) (p : PacketFields) → IsNumbered q ps n p → s.packet n ≡ p → ((j : ℕ) → suc j < flits_of p → s.front n j ≡ flit_of q p 0 j) → k + suc more ≡ flits_of p →
    rrp < modulus_of q → rrp ≡ pointer q qs t → Mark (grammar q) s ps qs (part n k more) t (flit_of q p rrp k)
mark-part q s ps qs n k (suc more) t rrp p i e f count lt is =
    let len = length-spelling q p rrp i.packet in
    let few = flits_of-few p i.packet in
    let parts = parted (spelling q p rrp) (omega arith) in
    record {
      spelled = front_spelled q s ps n k more p rrp (flit_of q p rrp k) parts.1 i (numbered-fits q ps n p rrp i lt) (front-alike q p rrp 0 k i.packet (omega arith) ∙ sym (f k (omega arith))) (first-is q p rrp k parts.0 parts.1 parts.2);
      carries = tt;
    }
mark-part q s ps qs n k zero t rrp p i e f count lt is =
    let h = numbered-fits q ps n p rrp i lt in
    let whole : fronts (s.front n) k ++ flit_of q p rrp k ∷ [] ≡ spelling q p rrp =
    ap (λ (l : List (List ℕ)). l ++ flit_of q p rrp k ∷ []) (fronts-take q p (s.front n) rrp k i.packet f (omega arith)) ∙ whole-is q p rrp k i.packet (omega arith) in
    record {
      spelled = last_spelled q s ps n k rrp (flit_of q p rrp k) (subst (IsNumbered q ps n) (sym e) i) (subst (λ (x : PacketFields). FitsProfile q x rrp) (sym e) h) (ap (λ (x : PacketFields). spelling q x rrp) e ∙ sym whole);
      carries = whole_read q p rrp (fronts (s.front n) k ++ flit_of q p rrp k ∷ []) i.packet h i.sequenced whole ∙ (λ j. reads.packet (sym e j) (is j));
    }

-- a flit that is passed on, before the last one of its packet
pub mark-open : (q : Profile) (s : Sent (grammar q)) (ps qs : List Weight) (n k more t : ℕ) (flit : List ℕ) → flit ≡ s.front n k → (k ≡ 0 → (lng_of flit ≡ size ps n) × (2 ≤ size ps n)) → Mark (grammar q) s ps qs (part n k (suc more)) t flit
mark-open q s ps qs n k more t flit is first = record {
  spelled = (
    λ z. let lng = (first z).0 in let long = (first z).1 in
        let some : flit ≢ zero_flit = λ e. let zero_lng = ap lng_of e ∙ lng_of-null in omega arith in
        record {
          some = false_from_ne_true (is_null flit) (λ e. some (is_null-is flit e));
          lng = lng;
          alone = ap (λ x. irtry_of_read (read_as x)) (read_of-long q flit some (λ e. omega arith));
        },
    is,
  );
  carries = tt;
}
