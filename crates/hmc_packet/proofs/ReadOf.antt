-- What flits read as: a spelling as its packet, and nothing else as that packet.
use Rattle.std.proofs.Common.{◌≡◌, ◌≢◌, ◌∙◌, ◌≤◌, ◌*◌, ◌⊎◌, lit<, lit≤, inl, inr, ℕ, zero, suc, Bool, true, false, cond, Result, Ok, Err, List, [], ◌∷◌, ◌++◌, length, take, drop, refl, sym, ap, subst, arith}
use Rattle.std.specs.Prelude.{◌&&◌, ◌==◌, nat_le}
use Rattle.std.specs.List.{concat, flat_map}
use Rattle.std.proofs.lemmas.Bool.{eqb-true, eq-eqb, and_parts, and_from, leb-true, le-leb, false_from_ne_true}
use Rattle.std.proofs.lemmas.List.{nil_from_length, take-take, take-append-le}
use Rattle.std.proofs.lemmas.List.Concat.{concat_is}
use Rattle.std.proofs.lemmas.Slice.Eq.{bytes_eq-Decides}
use Rattle.hmc_codes.specs.declared.profile.Profile.{Profile}
use Rattle.hmc_codes.specs.declared.profile.Profile.TheVariants.{One, Two}
use Rattle.hmc_codes.specs.Bytes.{IsBytes}
use Rattle.hmc_codes.specs.Commands.{layout_of, is_flow}
use Rattle.hmc_codes.specs.declared.layout.Layout.{Layout}
use Rattle.hmc_codes.specs.declared.layout.Layout.TheVariants as layouts
use Rattle.hmc_codes.specs.declared.command.Command.{Command}
use Rattle.hmc_codes.specs.declared.command.Command.TheVariants.{Null}
use Rattle.hmc_packet.specs.declared.bad.Bad.{Bad}
use Rattle.hmc_packet.specs.declared.bad.Bad.TheVariants as bads
use Rattle.hmc_packet.specs.declared.seen.Seen.{Seen}
use Rattle.hmc_packet.specs.Bits.{bits_from}
use Rattle.hmc_packet.specs.Packet.{PacketFields, IsPacket, IsLaidOut, flits_of, null_packet}
use Rattle.hmc_packet.specs.Spelling.{FitsProfile, bytes_of, cut, flits_with, spelling}
use Rattle.hmc_codes.specs.Flit.{zero_flit}
use Rattle.hmc_packet.specs.Parts.{word_of, header_in, lng_of}
use Rattle.hmc_packet.specs.Reading.{is_null, is_null_alone, has_length, seen_in, judgement_of, bytes_read, read_of, AreBytesOf, IsSpelled}
use Rattle.hmc_packet.proofs.CommandLemmas.{flow-one, null_layout-null, layout_of-null}
use Rattle.hmc_packet.proofs.HeaderLemmas as headers
use Rattle.hmc_packet.proofs.PacketLemmas.{IsPacket-null, flits_of-few, IsHeader-fields}
use Rattle.hmc_packet.proofs.FlitLemmas.{AreFlits, first-length, length-concat, length-cut, cut-concat, concat-cut}
use Rattle.hmc_packet.proofs.SpelledLemmas.{length-bytes_of, header_in-bytes_of, bytes_read-bytes_of}
use Rattle.hmc_packet.proofs.ReadLemmas.{IsWhole, bytes_read-AreBytesOf, judgement_of-AreBytesOf}

-- ---- NULL

pub is_null-is : (flit : List ℕ) → is_null flit ≡ true → flit ≡ zero_flit
unfolding is_null
is_null-is flit is = (bytes_eq-Decides flit zero_flit).0 is

pub is_null-null : is_null zero_flit ≡ true
unfolding is_null
is_null-null = (bytes_eq-Decides zero_flit zero_flit).1 refl

-- NULL's LNG is 0
pub lng_of-null : lng_of zero_flit ≡ 0
unfolding lng_of word_of zero_flit
lng_of-null = refl

pub null_or_other : (layout : Layout) → (layout ≡ layouts.Null) ⊎ (layout ≢ layouts.Null)
null_or_other layouts.Null = inl refl
null_or_other layouts.Pret = inr (λ is. cc)
null_or_other layouts.Tret = inr (λ is. cc)
null_or_other layouts.Irtry = inr (λ is. cc)
null_or_other layouts.Ask = inr (λ is. cc)
null_or_other layouts.Reply = inr (λ is. cc)

null_fields : (p : PacketFields) (layout : Layout) → layout ≡ layouts.Null → IsLaidOut layout p → p.command ≡ Null → p.payload ≡ [] → p ≡ null_packet
null_fields p layouts.Null is laid command payload = λ i. record {
  command = command i;
  tag = laid.0.tag i;
  address = laid.0.address i;
  cube = laid.0.cube i;
  slid = laid.0.slid i;
  flag = laid.0.flag i;
  errstat = laid.0.errstat i;
  rtc = laid.1.rtc i;
  seq = laid.1.seq i;
  frp = laid.2 i;
  poisoned = laid.0.poisoned i;
  payload = payload i;
}
null_fields p _ is laid command payload = absurd cc

-- the one packet with NULL's layout
pub null-null_packet : (p : PacketFields) → IsPacket p → layout_of p.command ≡ layouts.Null → p ≡ null_packet
null-null_packet p is null =
    let one : flits_of p ≡ 1 = flow-one p.command (flits_of p) (ap is_flow null) is.payload.allowed in
    let whole = is.payload.whole in
    let none : p.payload ≡ [] = nil_from_length p.payload (omega arith) in
    null_fields p (layout_of p.command) null is.layout (null_layout-null p.command null) none

-- ---- spellings as flits

flits_with-other : (profile : Profile) → (layout : Layout) (p : PacketFields) (rrp : ℕ) → layout ≢ layouts.Null → flits_with profile layout p rrp ≡ cut (flits_of p) (bytes_of profile p rrp)
unfolding flits_with
flits_with-other profile layouts.Null p rrp other = absurd (other refl)
flits_with-other profile _ p rrp other = refl

pub spelling-other : (profile : Profile) → (p : PacketFields) (rrp : ℕ) → layout_of p.command ≢ layouts.Null → spelling profile p rrp ≡ cut (flits_of p) (bytes_of profile p rrp)
unfolding spelling
spelling-other profile p rrp other = flits_with-other profile (layout_of p.command) p rrp other

pub spelling-null : (profile : Profile) → (rrp : ℕ) → spelling profile null_packet rrp ≡ zero_flit ∷ []
unfolding spelling flits_with
spelling-null profile rrp = ap (λ (l : Layout). flits_with profile l null_packet rrp) layout_of-null

-- a first flit's header is that of the bytes
pub header_in-front : (bytes : List ℕ) → header_in (take 16 bytes) ≡ header_in bytes
header_in-front bytes = ap word_of (take-take 8 16 bytes (lit≤ tt))

pub lng_of-front : (bytes : List ℕ) → lng_of (take 16 bytes) ≡ bits_from 7 5 (header_in bytes)
unfolding lng_of
lng_of-front bytes = ap (bits_from 7 5) (header_in-front bytes)

not_null_alone : (flit : List ℕ) (rest : List (List ℕ)) → lng_of flit ≢ 0 → is_null_alone (flit ∷ rest) ≡ false
unfolding is_null_alone
not_null_alone flit [] some = false_from_ne_true (is_null flit) (λ is. some (ap lng_of (is_null-is flit is) ∙ lng_of-null))
not_null_alone flit (x ∷ xs) some = refl

pub has_its_length : (flit : List ℕ) (rest : List (List ℕ)) (n : ℕ) → lng_of flit ≡ n → suc (length rest) ≡ n → n ≤ 17 → has_length (flit ∷ rest) ≡ true
unfolding has_length
has_its_length flit rest n lng len few =
    and_from _ _ (and_from _ _ (le-leb 1 (lng_of flit) (omega arith)) (le-leb (lng_of flit) 17 (omega arith))) (eq-eqb (suc (length rest)) (lng_of flit) (len ∙ sym lng))

-- flits cut of bytes whose header names so many are no NULL, and as long as they say
cut_tests : (n : ℕ) (bytes : List ℕ) → bits_from 7 5 (header_in bytes) ≡ n → 1 ≤ n → n ≤ 17 → (is_null_alone (cut n bytes) ≡ false) × (has_length (cut n bytes) ≡ true)
unfolding cut
cut_tests zero bytes lng some few = absurd (omega arith)
cut_tests (suc k) bytes lng some few =
    let front = lng_of-front bytes ∙ lng in (
      not_null_alone (take 16 bytes) (cut k (drop 16 bytes)) (λ is. let clash : suc k ≡ 0 = sym front ∙ is in omega arith),
      has_its_length (take 16 bytes) (cut k (drop 16 bytes)) (suc k) front (ap suc (length-cut k (drop 16 bytes))) few,
    )

pub lng-bytes_of : (profile : Profile) → (p : PacketFields) (rrp : ℕ) → IsPacket p → bits_from 7 5 (header_in (bytes_of profile p rrp)) ≡ flits_of p
lng-bytes_of profile p rrp is = ap (bits_from 7 5) (header_in-bytes_of profile p rrp is) ∙ headers.flits-word (layout_of p.command) _ (IsHeader-fields p is)

-- ---- what is spelled is read

read_null : (profile : Profile) → (p : PacketFields) (rrp : ℕ) → p ≡ null_packet → rrp ≡ 0 → read_of profile (spelling profile p rrp) ≡ Ok (record { packet = p; rrp = rrp })
unfolding read_of is_null_alone
read_null profile p rrp is zero_pointer =
    let seen : Result Seen Bad = Ok (record { packet = null_packet; rrp = 0 }) in
    let found : read_of profile (zero_flit ∷ []) ≡ seen = rw is_null-null refl in
    (λ i. read_of profile (spelling profile (is i) (zero_pointer i))) ∙ ap (read_of profile) (spelling-null profile 0) ∙ found ∙ (λ i. Ok (record { packet = sym is i; rrp = sym zero_pointer i }))

read_other : (profile : Profile) → (p : PacketFields) (rrp : ℕ) → IsPacket p → FitsProfile profile p rrp → layout_of p.command ≢ layouts.Null → read_of profile (spelling profile p rrp) ≡ Ok (record { packet = p; rrp = rrp })
unfolding read_of
read_other profile p rrp is lt other =
    let few = flits_of-few p is in
    let bytes = bytes_of profile p rrp in
    let tests = cut_tests (flits_of p) bytes (lng-bytes_of profile p rrp is) few.0 few.1 in
    let joined : concat (cut (flits_of p) bytes) ≡ bytes = concat-cut (flits_of p) bytes (length-bytes_of profile p rrp is) in
    let found : read_of profile (cut (flits_of p) bytes) ≡ bytes_read profile bytes = rw (tests.0, tests.1, joined) refl in
    ap (read_of profile) (spelling-other profile p rrp other) ∙ found ∙ bytes_read-bytes_of profile p rrp is lt other

-- the spelling of a packet is read as that packet and its pointer
pub read_of-spelling : (profile : Profile) → (p : PacketFields) (rrp : ℕ) → IsPacket p → FitsProfile profile p rrp → read_of profile (spelling profile p rrp) ≡ Ok (record { packet = p; rrp = rrp })
read_of-spelling profile p rrp is pointer =
    elim (null_or_other (layout_of p.command)) [
      | inl null ↦ read_null profile p rrp (null-null_packet p is null) (pointer.null (null_layout-null p.command null))
      | inr other ↦ read_other profile p rrp is pointer other
    ]

-- ---- what is read is spelled so

found_null : (flits : List (List ℕ)) → is_null_alone flits ≡ true → flits ≡ zero_flit ∷ []
unfolding is_null_alone
found_null [] is = absurd cc
found_null (flit ∷ []) is = ap (λ (f : List ℕ). f ∷ []) (is_null-is flit is)
found_null (flit ∷ x ∷ xs) is = absurd cc

length-lng : (flits : List (List ℕ)) → AreFlits flits → has_length flits ≡ true → (1 ≤ length flits) × (length flits ≤ 17) × (bits_from 7 5 (header_in (concat flits)) ≡ length flits)
unfolding has_length lng_of
length-lng [] are is = absurd cc
length-lng (flit ∷ rest) are is =
    let outer = and_parts (nat_le 1 (bits_from 7 5 (header_in flit)) && nat_le (bits_from 7 5 (header_in flit)) 17) (suc (length rest) == bits_from 7 5 (header_in flit)) is in
    let inner = and_parts (nat_le 1 (bits_from 7 5 (header_in flit))) (nat_le (bits_from 7 5 (header_in flit)) 17) outer.0 in
    let same : suc (length rest) ≡ bits_from 7 5 (header_in flit) = eqb-true _ _ outer.1 in
    let low = leb-true 1 (bits_from 7 5 (header_in flit)) inner.0 in
    let high = leb-true (bits_from 7 5 (header_in flit)) 17 inner.1 in
    let size : length flit ≡ 16 = first-length flit rest are in
    let front : header_in (flit ++ concat rest) ≡ header_in flit = ap word_of (take-append-le 8 flit (concat rest) (omega arith)) in
    (omega arith, omega arith, ap (bits_from 7 5) front ∙ sym same)

whole_bytes : (flits : List (List ℕ)) → AreFlits flits → has_length flits ≡ true → IsBytes (concat flits) → IsWhole (concat flits)
whole_bytes flits are is fits =
    let lng = length-lng flits are is in
    let len = length-concat flits are in
    record { some = omega (arith, lng.0); size = len ∙ ap (λ (n : ℕ). 16 * n) (sym lng.2); are_bytes = fits }

abbrev pub done : Seen → Result Seen Bad
done seen = Ok seen

pub seen_is : (a b : Seen) → done a ≡ done b → a ≡ b
seen_is a b e = cc

null_fits : (profile : Profile) → FitsProfile profile null_packet 0
null_fits One = record { below = lit< tt; forward = lit< tt; errstat = lit< tt; null = λ null. refl }
null_fits Two = record { below = lit< tt; forward = lit< tt; errstat = lit< tt; null = λ null. refl }

pub null_is_spelled : (profile : Profile) → (flits : List (List ℕ)) → is_null_alone flits ≡ true → IsSpelled profile flits (record { packet = null_packet; rrp = 0 })
null_is_spelled profile flits is = record {
  packet = IsPacket-null;
  pointer = null_fits profile;
  spelled = found_null flits is ∙ sym (spelling-null profile 0);
}

other_is_spelled : (profile : Profile) → (flits : List (List ℕ)) (seen : Seen) → AreFlits flits → AreBytesOf profile (concat flits) seen → IsSpelled profile flits seen
other_is_spelled profile flits seen are is =
    let len = length-concat flits are in
    let same : length (concat flits) ≡ 16 * flits_of seen.packet = ap length is.bytes_are ∙ length-bytes_of profile seen.packet seen.rrp is.packet in
    let count : length flits ≡ flits_of seen.packet = omega arith in
    record {
      packet = is.packet;
      pointer = record { below = is.pointer; forward = is.forward; errstat = is.errstat; null = λ null. absurd (is.other (ap layout_of null ∙ layout_of-null)) };
      spelled = sym (cut-concat flits are) ∙ (λ i. cut (count i) (is.bytes_are i)) ∙ sym (spelling-other profile seen.packet seen.rrp is.other);
    }

found_by : (profile : Profile) → (flits : List (List ℕ)) (seen : Seen) (null long : Bool) → AreFlits flits → (is_null_alone flits ≡ false → IsBytes (concat flits)) → is_null_alone flits ≡ null → has_length flits ≡ long →
    cond null (done (record { packet = null_packet; rrp = 0 })) (cond long (bytes_read profile (concat flits)) (Err bads.Length)) ≡ Ok seen → IsSpelled profile flits seen
found_by profile flits seen true long are fits is-null is-long is =
    let nothing : Seen = record { packet = null_packet; rrp = 0 } in
    subst (λ (s : Seen). IsSpelled profile flits s) (seen_is nothing seen is) (null_is_spelled profile flits is-null)
found_by profile flits seen false true are fits is-null is-long is =
    other_is_spelled profile flits seen are (bytes_read-AreBytesOf profile (concat flits) seen (whole_bytes flits are is-long (fits is-null)) is)
found_by profile flits seen false false are fits is-null is-long is = absurd cc

-- what flits are read as, they are the spelling of
pub read_of-found : (profile : Profile) → (flits : List (List ℕ)) (seen : Seen) → AreFlits flits → (is_null_alone flits ≡ false → IsBytes (concat flits)) → read_of profile flits ≡ Ok seen → IsSpelled profile flits seen
unfolding read_of
read_of-found profile flits seen are fits is = found_by profile flits seen (is_null_alone flits) (has_length flits) are fits refl refl is

-- ---- the bytes of flits, in place

-- the bytes of flits that pass Length
pub record AreJoined (flits : List (List ℕ)) (bytes : List ℕ) : Type 0 where
  pub some : 16 ≤ length bytes
  pub few : length bytes ≤ 272
  pub whole : length bytes ≡ 16 * bits_from 7 5 (header_in bytes)
  pub joined : bytes ≡ concat flits

pub joined-bytes : (flits : List (List ℕ)) (bytes : List ℕ) → AreFlits flits → true ≡ has_length flits → bytes ≡ flat_map (λ x. x) flits → AreJoined flits bytes
joined-bytes flits bytes are is flat =
    let lng = length-lng flits are (sym is) in
    let joined : bytes ≡ concat flits = flat ∙ sym (concat_is flits) in
    let len : length bytes ≡ 16 * length flits = ap length joined ∙ length-concat flits are in
    record {
      some = omega (arith, lng.0);
      few = omega (arith, lng.1);
      whole = len ∙ ap (λ (n : ℕ). 16 * n) (sym lng.2) ∙ ap (λ (b : List ℕ). 16 * bits_from 7 5 (header_in b)) (sym joined);
      joined = joined;
    }

-- what they are read as
pub joined-judged : (profile : Profile) (flits : List (List ℕ)) (bytes : List ℕ) (command : Command) (poisoned : Bool) → AreJoined flits bytes → IsBytes bytes → Ok (command, poisoned) ≡ judgement_of profile bytes → AreBytesOf profile bytes (seen_in profile command poisoned bytes)
joined-judged profile flits bytes command poisoned are fits is = judgement_of-AreBytesOf profile bytes command poisoned are.some are.whole fits is

pub joined-spelled : (profile : Profile) (flits : List (List ℕ)) (bytes : List ℕ) (seen : Seen) → AreFlits flits → AreJoined flits bytes → AreBytesOf profile bytes seen → IsSpelled profile flits seen
joined-spelled profile flits bytes seen are joined is = other_is_spelled profile flits seen are (subst (λ (b : List ℕ). AreBytesOf profile b seen) joined.joined is)

-- ---- and only that

pub read_of-only : (profile : Profile) → (flits : List (List ℕ)) (r : Result Seen Bad) → r ≡ read_of profile flits → (p : PacketFields) (rrp : ℕ) → IsPacket p → FitsProfile profile p rrp → flits ≡ spelling profile p rrp → r ≡ Ok (record { packet = p; rrp = rrp })
read_of-only profile flits r exact p rrp is pointer spelled = exact ∙ ap (read_of profile) spelled ∙ read_of-spelling profile p rrp is pointer

-- each way in which flits are read
pub read_of-is_null : (profile : Profile) (flits : List (List ℕ)) → true ≡ is_null_alone flits → read_of profile flits ≡ Ok (record { packet = null_packet; rrp = 0 })
unfolding read_of
read_of-is_null profile flits is = rw (sym is) refl

pub read_of-no_length : (profile : Profile) (flits : List (List ℕ)) → false ≡ is_null_alone flits → false ≡ has_length flits → read_of profile flits ≡ Err bads.Length
unfolding read_of
read_of-no_length profile flits some is = rw (sym some, sym is) refl

read_of-bytes : (profile : Profile) (flits : List (List ℕ)) (bytes : List ℕ) → false ≡ is_null_alone flits → true ≡ has_length flits → AreJoined flits bytes → read_of profile flits ≡ bytes_read profile bytes
unfolding read_of
read_of-bytes profile flits bytes some is are = rw (sym some, sym is) (ap (bytes_read profile) (sym are.joined))

pub read_of-bad : (profile : Profile) (flits : List (List ℕ)) (bytes : List ℕ) (bad : Bad) → false ≡ is_null_alone flits → true ≡ has_length flits → AreJoined flits bytes → Err bad ≡ judgement_of profile bytes → read_of profile flits ≡ Err bad
unfolding bytes_read
read_of-bad profile flits bytes bad some is are judged = read_of-bytes profile flits bytes some is are ∙ (rw (sym judged) refl)

pub read_of-seen : (profile : Profile) (flits : List (List ℕ)) (bytes : List ℕ) (command : Command) (poisoned : Bool) → false ≡ is_null_alone flits → true ≡ has_length flits → AreJoined flits bytes → Ok (command, poisoned) ≡ judgement_of profile bytes → read_of profile flits ≡ Ok (seen_in profile command poisoned bytes)
unfolding bytes_read
read_of-seen profile flits bytes command poisoned some is are judged = read_of-bytes profile flits bytes some is are ∙ (rw (sym judged) refl)
