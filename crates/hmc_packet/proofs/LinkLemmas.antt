-- What the link uses of the grammar.
use Rattle.std.proofs.Common.{◌≡◌, ◌≢◌, ◌∙◌, ◌<◌, ◌≤◌, inl, inr, lit<, ℕ, zero, suc, Bool, true, false, cond, Some, Result, Ok, Err, List, [], ◌∷◌, length, take, drop, refl, sym, ap, subst, arith}
use Rattle.std.specs.Prelude.{◌&&◌, ◌==◌, nat_le}
use Rattle.std.specs.List.{concat}
use Rattle.std.proofs.lemmas.Bool.{eqb-true, and_parts, leb-true, false_from_ne_true}
use Rattle.std.proofs.lemmas.List.{append-nil}
use Rattle.hmc_codes.specs.declared.profile.Profile.{Profile}
use Rattle.hmc_codes.specs.Commands.{layout_of, is_flow}
use Rattle.hmc_codes.specs.declared.layout.Layout.TheVariants as layouts
use Rattle.hmc_codes.specs.declared.command.Command.{Command}
use Rattle.hmc_codes.specs.declared.command.Command.TheVariants.{Null}
use Rattle.hmc_packet.specs.declared.bad.Bad.{Bad}
use Rattle.hmc_packet.specs.declared.bad.Bad.TheVariants as bads
use Rattle.hmc_packet.specs.declared.seen.Seen.{Seen}
use Rattle.hmc_packet.specs.Packet.{PacketFields, IsPacket, flits_of, null_packet}
use Rattle.hmc_packet.specs.Spelling.{FitsProfile, bytes_of, cut, training_flit, spelling}
use Rattle.hmc_codes.specs.Flit.{zero_flit}
use Rattle.hmc_packet.specs.Parts.{word_of, header_in, lng_of}
use Rattle.hmc_packet.specs.Reading.{is_null, is_null_alone, has_length, command_in, packet_from, seen_in, bytes_read, read_of}
use Rattle.hmc_packet.specs.Head.{named_by}
use Rattle.hmc_packet.proofs.CommandLemmas.{flow-one}
use Rattle.hmc_packet.proofs.PacketLemmas.{flits_of-few}
use Rattle.hmc_packet.proofs.FlitLemmas.{AreFlits, length-cut, AreFlits-cut}
use Rattle.hmc_packet.proofs.JudgementLemmas.{bytes_read-Passes}
use Rattle.hmc_packet.proofs.SpelledLemmas.{length-bytes_of, bytes_of-Passes}
use Rattle.hmc_packet.proofs.ReadOf.{is_null-is, is_null-null, lng_of-null, null_or_other, null-null_packet, spelling-other, spelling-null, header_in-front, lng_of-front, lng-bytes_of, read_of-spelling, seen_is, done}

-- ---- as many flits as the packet has

flits_of-null : flits_of null_packet ≡ 1
flits_of-null = refl

pub length-spelling : (profile : Profile) → (p : PacketFields) (rrp : ℕ) → IsPacket p → length (spelling profile p rrp) ≡ flits_of p
length-spelling profile p rrp is =
    elim (null_or_other (layout_of p.command)) [
      | inl null ↦
          let nothing = null-null_packet p is null in
          ap (λ (q : PacketFields). length (spelling profile q rrp)) nothing ∙ ap length (spelling-null profile rrp) ∙ sym (ap flits_of nothing)
      | inr other ↦ ap length (spelling-other profile p rrp other) ∙ length-cut (flits_of p) (bytes_of profile p rrp)
    ]

AreFlits-null : AreFlits (zero_flit ∷ [])
unfolding zero_flit
AreFlits-null zero lt = refl
AreFlits-null (suc k) lt = absurd (omega arith)

-- each of 16 bytes
pub AreFlits-spelling : (profile : Profile) → (p : PacketFields) (rrp : ℕ) → IsPacket p → AreFlits (spelling profile p rrp)
AreFlits-spelling profile p rrp is =
    elim (null_or_other (layout_of p.command)) [
      | inl null ↦ subst (λ (q : PacketFields). AreFlits (spelling profile q rrp)) (sym (null-null_packet p is null)) (subst AreFlits (sym (spelling-null profile rrp)) AreFlits-null)
      | inr other ↦ subst AreFlits (sym (spelling-other profile p rrp other)) (AreFlits-cut (flits_of p) (bytes_of profile p rrp) (length-bytes_of profile p rrp is))
    ]

-- ---- the first flit

heads_of : (x y : List ℕ) (xs ys : List (List ℕ)) → x ∷ xs ≡ y ∷ ys → (x ≡ y) × (xs ≡ ys)
heads_of x y xs ys is = (cc, cc)

front_of_cut : (n : ℕ) (bytes first : List ℕ) (rest : List (List ℕ)) → 1 ≤ n → cut n bytes ≡ first ∷ rest → take 16 bytes ≡ first
unfolding cut
front_of_cut zero bytes first rest some is = absurd (omega arith)
front_of_cut (suc k) bytes first rest some is = (heads_of (take 16 bytes) first (cut k (drop 16 bytes)) rest is).0

-- of a packet that is no NULL it is the front of the bytes
front : (profile : Profile) → (p : PacketFields) (rrp : ℕ) (first : List ℕ) (rest : List (List ℕ)) → IsPacket p → layout_of p.command ≢ layouts.Null → spelling profile p rrp ≡ first ∷ rest → take 16 (bytes_of profile p rrp) ≡ first
front profile p rrp first rest is other spelled = front_of_cut (flits_of p) (bytes_of profile p rrp) first rest (flits_of-few p is).0 (sym (spelling-other profile p rrp other) ∙ spelled)

pub header_in-first : (profile : Profile) → (p : PacketFields) (rrp : ℕ) (first : List ℕ) (rest : List (List ℕ)) → IsPacket p → layout_of p.command ≢ layouts.Null → spelling profile p rrp ≡ first ∷ rest → header_in first ≡ header_in (bytes_of profile p rrp)
header_in-first profile p rrp first rest is other spelled = ap header_in (sym (front profile p rrp first rest is other spelled)) ∙ header_in-front (bytes_of profile p rrp)

-- the first flit's LNG is the number of flits
pub lng_of-first : (profile : Profile) → (p : PacketFields) (rrp : ℕ) (first : List ℕ) (rest : List (List ℕ)) → IsPacket p → layout_of p.command ≢ layouts.Null → spelling profile p rrp ≡ first ∷ rest → lng_of first ≡ flits_of p
lng_of-first profile p rrp first rest is other spelled =
    ap lng_of (sym (front profile p rrp first rest is other spelled)) ∙ lng_of-front (bytes_of profile p rrp) ∙ lng-bytes_of profile p rrp is

pub not_null-first : (profile : Profile) → (p : PacketFields) (rrp : ℕ) (first : List ℕ) (rest : List (List ℕ)) → IsPacket p → layout_of p.command ≢ layouts.Null → spelling profile p rrp ≡ first ∷ rest → first ≢ zero_flit
not_null-first profile p rrp first rest is other spelled same =
    let few = flits_of-few p is in
    let none : flits_of p ≡ 0 = sym (lng_of-first profile p rrp first rest is other spelled) ∙ ap lng_of same ∙ lng_of-null in
    omega arith

-- and its command the packet's
pub named_by-first : (profile : Profile) → (p : PacketFields) (rrp : ℕ) (first : List ℕ) (rest : List (List ℕ)) → IsPacket p → FitsProfile profile p rrp → layout_of p.command ≢ layouts.Null → spelling profile p rrp ≡ first ∷ rest → named_by first ≡ Some p.command
unfolding named_by
named_by-first profile p rrp first rest is pointer other spelled =
    ap command_in (header_in-first profile p rrp first rest is other spelled) ∙ (bytes_of-Passes profile p rrp is pointer other).names

-- ---- what a flit reads as alone

-- a flit that is no NULL reads alone as its bytes do, if its LNG is 1
alone : (flit : List ℕ) → flit ≢ zero_flit → is_null_alone (flit ∷ []) ≡ false
unfolding is_null_alone
alone flit other = false_from_ne_true (is_null flit) (λ is. other (is_null-is flit is))

long_alone : (flit : List ℕ) → lng_of flit ≢ 1 → has_length (flit ∷ []) ≡ false
unfolding has_length
long_alone flit many = false_from_ne_true _ (λ is. many (sym (eqb-true 1 (lng_of flit) (and_parts (nat_le 1 (lng_of flit) && nat_le (lng_of flit) 17) (1 == lng_of flit) is).1)))

-- the first of several flits is Bad Length alone
pub read_of-long : (profile : Profile) → (flit : List ℕ) → flit ≢ zero_flit → lng_of flit ≢ 1 → read_of profile (flit ∷ []) ≡ Err bads.Length
unfolding read_of
read_of-long profile flit other many = rw (alone flit other, long_alone flit many) refl

chosen_read : (r : Result Seen Bad) (long : Bool) (seen : Seen) → cond long r (Err bads.Length) ≡ Ok seen → r ≡ Ok seen
chosen_read r true seen is = is
chosen_read r false seen is = absurd cc

read_as_bytes : (profile : Profile) → (flit : List ℕ) (seen : Seen) → flit ≢ zero_flit → read_of profile (flit ∷ []) ≡ Ok seen → bytes_read profile flit ≡ Ok seen
unfolding read_of
read_as_bytes profile flit seen other is =
    let found : cond (has_length (flit ∷ [])) (bytes_read profile (concat (flit ∷ []))) (Err bads.Length) ≡ Ok seen = rw (alone flit other) at is in
    ap (bytes_read profile) (sym (append-nil flit)) ∙ chosen_read (bytes_read profile (concat (flit ∷ []))) (has_length (flit ∷ [])) seen found

seen_in-command : (profile : Profile) → (c : Command) (poisoned : Bool) (bytes : List ℕ) → (seen_in profile c poisoned bytes).packet.command ≡ c
unfolding seen_in packet_from
seen_in-command profile c poisoned bytes = refl

some_is : (c d : Command) → Some c ≡ Some d → c ≡ d
some_is c d is = cc

-- bytes are read as the command that their front names
named_read : (profile : Profile) → (flit : List ℕ) (seen : Seen) → bytes_read profile flit ≡ Ok seen → named_by flit ≡ Some seen.packet.command
unfolding named_by
named_read profile flit seen is =
    let passed = bytes_read-Passes profile flit seen is in
    passed.2.names ∙ ap (λ (c : Command). Some c) (sym (seen_in-command profile passed.0 passed.1 flit) ∙ ap (λ (s : Seen). s.packet.command) passed.3)

null_read : (profile : Profile) → (seen : Seen) → read_of profile (zero_flit ∷ []) ≡ Ok seen → seen.packet.command ≡ Null
unfolding read_of is_null_alone
null_read profile seen is =
    let nothing : Seen = record { packet = null_packet; rrp = 0 } in
    let found : done nothing ≡ done seen = rw is_null-null at is in
    let same : nothing ≡ seen = seen_is nothing seen found in
    sym (ap (λ (s : Seen). s.packet.command) same)

-- whatever the first flit of a packet reads as alone, it has the packet's command
pub command-first : (profile : Profile) → (p : PacketFields) (rrp : ℕ) (first : List ℕ) (rest : List (List ℕ)) (seen : Seen) → IsPacket p → FitsProfile profile p rrp → spelling profile p rrp ≡ first ∷ rest → read_of profile (first ∷ []) ≡ Ok seen → seen.packet.command ≡ p.command
command-first profile p rrp first rest seen is pointer spelled read =
    elim (null_or_other (layout_of p.command)) [
      | inl null ↦
          let nothing = null-null_packet p is null in
          let same : zero_flit ≡ first = (heads_of zero_flit first [] rest (sym (spelling-null profile rrp) ∙ ap (λ (q : PacketFields). spelling profile q rrp) (sym nothing) ∙ spelled)).0 in
          null_read profile seen (ap (λ (f : List ℕ). read_of profile (f ∷ [])) same ∙ read) ∙ sym (ap (λ (q : PacketFields). q.command) nothing)
      | inr other ↦
          let found = named_read profile first seen (read_as_bytes profile first seen (not_null-first profile p rrp first rest is other spelled) read) in
          some_is seen.packet.command p.command (sym found ∙ named_by-first profile p rrp first rest is pointer other spelled)
    ]

-- the first flit of a longer packet is Bad Length alone
pub long-first : (profile : Profile) → (p : PacketFields) (rrp : ℕ) (first : List ℕ) (rest : List (List ℕ)) → IsPacket p → 1 < flits_of p → spelling profile p rrp ≡ first ∷ rest → read_of profile (first ∷ []) ≡ Err bads.Length
long-first profile p rrp first rest is long spelled =
    elim (null_or_other (layout_of p.command)) [
      | inl null ↦ let one : flits_of p ≡ 1 = ap flits_of (null-null_packet p is null) in absurd (omega arith)
      | inr other ↦ read_of-long profile first (not_null-first profile p rrp first rest is other spelled) (λ one. let same : flits_of p ≡ 1 = sym (lng_of-first profile p rrp first rest is other spelled) ∙ one in omega arith)
    ]

-- ---- flow packets are one flit

pub single : (flits : List (List ℕ)) → length flits ≡ 1 → (flit : List ℕ) × (flits ≡ flit ∷ [])
single [] is = absurd (omega arith)
single (x ∷ []) is = (x, refl)
single (x ∷ y ∷ zs) is = absurd (omega arith)

-- and read alone as they were spelled
pub flow-alone : (profile : Profile) → (p : PacketFields) (rrp : ℕ) → IsPacket p → FitsProfile profile p rrp → is_flow (layout_of p.command) ≡ true →
    (flit : List ℕ) × (spelling profile p rrp ≡ flit ∷ []) × (read_of profile (flit ∷ []) ≡ Ok (record { packet = p; rrp = rrp }))
flow-alone profile p rrp is pointer flow =
    let one = single (spelling profile p rrp) (length-spelling profile p rrp is ∙ flow-one p.command (flits_of p) flow is.payload.allowed) in
    (one.0, one.1, ap (read_of profile) (sym one.1) ∙ read_of-spelling profile p rrp is pointer)

-- ---- training

pub lng_of-training : 17 < lng_of training_flit
unfolding lng_of word_of training_flit
lng_of-training = lit< tt

too_long : (flit : List ℕ) (rest : List (List ℕ)) → 17 < lng_of flit → has_length (flit ∷ rest) ≡ false
unfolding has_length
too_long flit rest long =
    false_from_ne_true _ (λ is.
    let outer = and_parts (nat_le 1 (lng_of flit) && nat_le (lng_of flit) 17) (suc (length rest) == lng_of flit) is in
    let few = leb-true (lng_of flit) 17 (and_parts (nat_le 1 (lng_of flit)) (nat_le (lng_of flit) 17) outer.0).1 in
    omega arith)

not_null_alone : (flit : List ℕ) (rest : List (List ℕ)) → flit ≢ zero_flit → is_null_alone (flit ∷ rest) ≡ false
unfolding is_null_alone
not_null_alone flit [] other = false_from_ne_true (is_null flit) (λ is. other (is_null-is flit is))
not_null_alone flit (x ∷ xs) other = refl

pub training-not_null : training_flit ≢ zero_flit
training-not_null same = let none : lng_of training_flit ≡ 0 = ap lng_of same ∙ lng_of-null in let long = lng_of-training in omega arith

-- flits that begin with the training flit are Bad Length
pub read_of-training : (profile : Profile) → (rest : List (List ℕ)) → read_of profile (training_flit ∷ rest) ≡ Err bads.Length
unfolding read_of
read_of-training profile rest = rw (not_null_alone training_flit rest training-not_null, too_long training_flit rest lng_of-training) refl

-- ---- spelling is injective

pub spelling-injective : (profile : Profile) → (p q : PacketFields) (r s : ℕ) → IsPacket p → FitsProfile profile p r → IsPacket q → FitsProfile profile q s → spelling profile p r ≡ spelling profile q s → (p ≡ q) × (r ≡ s)
spelling-injective profile p q r s is-p pointer-p is-q pointer-q same =
    let a : Seen = record { packet = p; rrp = r } in
    let b : Seen = record { packet = q; rrp = s } in
    let both : a ≡ b = seen_is a b (sym (read_of-spelling profile p r is-p pointer-p) ∙ ap (read_of profile) same ∙ read_of-spelling profile q s is-q pointer-q) in
    (ap (λ (x : Seen). x.packet) both, ap (λ (x : Seen). x.rrp) both)
