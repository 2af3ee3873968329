-- Flits as hmc_packet spells them have what Spelled asks. Used by Marks.
use Rattle.std.proofs.Common.{◌≡◌, ◌≢◌, ℕ, suc, List, [], ◌∷◌, ◌++◌, true, false, refl, sym, ◌∙◌, ap, subst}
use Rattle.std.specs.Prelude.{None, Result, Ok, Err}
use Rattle.std.proofs.lemmas.Bool.{false_from_ne_true}
use Rattle.hmc_codes.specs.Commands.{layout_of, is_flow}
use Rattle.hmc_codes.specs.declared.layout.Layout.{Layout}
use Rattle.hmc_codes.specs.declared.layout.Layout.TheVariants as layouts
use Rattle.hmc_packet.specs.declared.bad.Bad.{Bad}
use Rattle.hmc_packet.specs.declared.seen.Seen.{Seen}
use Rattle.hmc_packet.specs.Packet.{PacketFields, IsPacket, flits_of, null_packet}
use Rattle.hmc_codes.specs.Flit.{zero_flit}
use Rattle.hmc_codes.specs.declared.profile.Profile.{Profile}
use Rattle.hmc_packet.specs.Spelling.{FitsProfile, spelling, training_flit}
use Rattle.hmc_packet.proofs.AloneLemmas.{read_of-null}
use Rattle.hmc_packet.specs.Reading.{is_null, read_of}
use Rattle.hmc_packet.proofs.ReadOf.{is_null-is, is_null-null, read_of-spelling}
use Rattle.hmc_packet.proofs.CommandLemmas.{layout_of-null, flow-one}
use Rattle.hmc_packet.proofs.LinkLemmas.{lng_of-first, not_null-first, command-first, read_of-training}
use Rattle.hmc_numbers.specs.Weights.{Weight, size}
use Rattle.hmc_numbers.specs.Direction.{Filler as fill}
use Rattle.hmc_numbers.specs.Direction.Item.{filler, part}
use Rattle.hmc_wire.proofs.Grammar.{Read as reads}
use Rattle.hmc_wire.proofs.Spelled.{Sent, Spelled, IsIrtry, IsPret, IsFirst, fronts}
use Rattle.hmc_packet.specs.Irtry.{kind_of}
use Rattle.hmc_wire.proofs.Words.{kind_as}
use Rattle.hmc_wire.proofs.PacketGrammar.{read_by, read_as, irtry_of_read, grammar, IsSequenced, IsNumbered}

-- a NULL and the training flit

pub null_spelled : (q : Profile) (s : Sent (grammar q)) (ps : List Weight) → Spelled (grammar q) s ps (filler fill.null) zero_flit
null_spelled q s ps =
    (is_null-null, ap (λ x. irtry_of_read (read_as x)) (read_of-null q) ∙ ap (λ l. irtry_of_read (read_by l null_packet 0)) layout_of-null)

pub training_spelled : (q : Profile) (s : Sent (grammar q)) (ps : List Weight) → Spelled (grammar q) s ps (filler fill.train) training_flit
training_spelled q s ps = ap (λ x. irtry_of_read (read_as x)) (read_of-training q [])

-- a first flit isn't zero, and names the number of flits

pub not_null_layout : (l : Layout) → IsSequenced l → l ≢ layouts.Null
not_null_layout layouts.Null s q = s
not_null_layout layouts.Irtry s q = s
not_null_layout layouts.Pret s q = s
not_null_layout layouts.Tret s q = cc
not_null_layout layouts.Ask s q = cc
not_null_layout layouts.Reply s q = cc

some_first : (q : Profile) (p : PacketFields) (r : ℕ) (f : List ℕ) (fs : List (List ℕ)) → IsPacket p → layout_of p.command ≢ layouts.Null → spelling q p r ≡ f ∷ fs → is_null f ≡ false
some_first q p r f fs i l e = false_from_ne_true (is_null f) (λ z. not_null-first q p r f fs i l e (is_null-is f z))

-- what isn't an IRTRY by its command reads as none alone
no_irtry : (x : Result Seen Bad) (l : Layout) → ((seen : Seen) → x ≡ Ok seen → layout_of seen.packet.command ≡ l) → IsSequenced l → irtry_of_read (read_as x) ≡ None
no_irtry (Err b) l h s = refl
no_irtry (Ok seen) l h s = by_layout (layout_of seen.packet.command) (h seen refl)
  where
    by_layout : (m : Layout) → m ≡ l → irtry_of_read (read_by m seen.packet seen.rrp) ≡ None
    by_layout layouts.Null e = refl
    by_layout layouts.Irtry e = absurd (subst IsSequenced (sym e) s)
    by_layout layouts.Pret e = refl
    by_layout layouts.Tret e = refl
    by_layout layouts.Ask e = refl
    by_layout layouts.Reply e = refl

pub first_spelled : (q : Profile) (p : PacketFields) (r : ℕ) (f : List ℕ) (fs : List (List ℕ)) → IsPacket p → FitsProfile q p r → IsSequenced (layout_of p.command) → spelling q p r ≡ f ∷ fs → IsFirst (grammar q) (flits_of p) f
first_spelled q p r f fs i h s e =
    let l = not_null_layout (layout_of p.command) s in
    record {
      some = some_first q p r f fs i l e;
      lng = lng_of-first q p r f fs i l e;
      alone = no_irtry (read_of q (f ∷ [])) (layout_of p.command) (λ seen z. ap (λ c. layout_of c) (command-first q p r f fs seen i h e z)) s;
    }

-- a packet that is read whole
read_sequenced : (l : Layout) (p : PacketFields) (r : ℕ) → IsSequenced l → read_by l p r ≡ reads.packet p r
read_sequenced layouts.Null p r s = absurd s
read_sequenced layouts.Irtry p r s = absurd s
read_sequenced layouts.Pret p r s = absurd s
read_sequenced layouts.Tret p r s = refl
read_sequenced layouts.Ask p r s = refl
read_sequenced layouts.Reply p r s = refl

pub whole_read : (q : Profile) (p : PacketFields) (r : ℕ) (fs : List (List ℕ)) → IsPacket p → FitsProfile q p r → IsSequenced (layout_of p.command) → fs ≡ spelling q p r → read_as (read_of q fs) ≡ reads.packet p r
whole_read q p r fs i h s e = ap (λ x. read_as (read_of q x)) e ∙ ap read_as (read_of-spelling q p r i h) ∙ read_sequenced (layout_of p.command) p r s

-- an IRTRY and a PRET
flow_first : (q : Profile) (p : PacketFields) (r : ℕ) (f : List ℕ) → IsPacket p → FitsProfile q p r → is_flow (layout_of p.command) ≡ true → spelling q p r ≡ f ∷ [] → (flits_of p ≡ 1) × (read_of q (f ∷ []) ≡ Ok (record { packet = p; rrp = r }))
flow_first q p r f i h w e = (flow-one p.command (flits_of p) w i.payload.allowed, ap (read_of q) (sym e) ∙ read_of-spelling q p r i h)

flow_layout : (l m : Layout) → l ≡ m → is_flow m ≡ true → is_flow l ≡ true
flow_layout l m e h = ap is_flow e ∙ h

irtry_not_null : (l : Layout) → l ≡ layouts.Irtry → l ≢ layouts.Null
irtry_not_null l e z = cc

pret_not_null : (l : Layout) → l ≡ layouts.Pret → l ≢ layouts.Null
pret_not_null l e z = cc

pub irtry_spelled : (q : Profile) (p : PacketFields) (r : ℕ) (f : List ℕ) → IsPacket p → FitsProfile q p r → layout_of p.command ≡ layouts.Irtry → spelling q p r ≡ f ∷ [] → IsIrtry (grammar q) (kind_as (kind_of p.frp)) f
irtry_spelled q p r f i h l e =
    let w = flow_first q p r f i h (flow_layout (layout_of p.command) layouts.Irtry l refl) e in
    let n = irtry_not_null (layout_of p.command) l in
    let d : read_as (read_of q (f ∷ [])) ≡ reads.irtry (kind_as (kind_of p.frp)) r = ap read_as w.1 ∙ ap (λ y. read_by y p r) l in
    record { r = r; some = some_first q p r f [] i n e; lng = lng_of-first q p r f [] i n e ∙ w.0; alone = ap irtry_of_read d; read = d }

pub pret_spelled : (q : Profile) (p : PacketFields) (r : ℕ) (f : List ℕ) → IsPacket p → FitsProfile q p r → layout_of p.command ≡ layouts.Pret → spelling q p r ≡ f ∷ [] → IsPret (grammar q) f
pret_spelled q p r f i h l e =
    let w = flow_first q p r f i h (flow_layout (layout_of p.command) layouts.Pret l refl) e in
    let n = pret_not_null (layout_of p.command) l in
    let d : read_as (read_of q (f ∷ [])) ≡ reads.pret r = ap read_as w.1 ∙ ap (λ y. read_by y p r) l in
    record { r = r; some = some_first q p r f [] i n e; lng = lng_of-first q p r f [] i n e ∙ w.0; alone = ap irtry_of_read d; read = d }

-- a flit of a sequenced packet

is_first : (q : Profile) (ps : List Weight) (n : ℕ) (p : PacketFields) (f : List ℕ) → IsNumbered q ps n p → IsFirst (grammar q) (flits_of p) f → IsFirst (grammar q) (size ps n) f
is_first q ps n p f i h = record { some = h.some; lng = h.lng ∙ i.flits; alone = h.alone }

pub front_spelled : (q : Profile) (s : Sent (grammar q)) (ps : List Weight) (n k more : ℕ) (p : PacketFields) (r : ℕ) (f : List ℕ) (fs : List (List ℕ)) → IsNumbered q ps n p → FitsProfile q p r → f ≡ s.front n k → (k ≡ 0 → spelling q p r ≡ f ∷ fs) →
    Spelled (grammar q) s ps (part n k (suc more)) f
front_spelled q s ps n k more p r f fs i h e z = (λ first. is_first q ps n p f i (first_spelled q p r f fs i.packet h i.sequenced (z first)), e)

pub last_spelled : (q : Profile) (s : Sent (grammar q)) (ps : List Weight) (n k : ℕ) (r : ℕ) (f : List ℕ) → IsNumbered q ps n (s.packet n) → FitsProfile q (s.packet n) r → spelling q (s.packet n) r ≡ fronts (s.front n) k ++ f ∷ [] → Spelled (grammar q) s ps (part n k 0) f
last_spelled q s ps n k r f i h e = (
  λ first. is_first q ps n (s.packet n) f i (first_spelled q (s.packet n) r f [] i.packet h i.sequenced (e ∙ ap (λ j. fronts (s.front n) j ++ f ∷ []) first)),
  (record { flits = i.flits; frp = i.frp; seq = i.seq }, (r, whole_read q (s.packet n) r (fronts (s.front n) k ++ f ∷ []) i.packet h i.sequenced (sym e))),
)
