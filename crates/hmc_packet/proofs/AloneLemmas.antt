-- What a flit alone reads as: an IRTRY, or none.
use Rattle.std.proofs.Common.{◌≡◌, ◌≢◌, ◌∙◌, ◌<◌, ◌+◌, ◌-◌, ◌*◌, ◌^◌, lit<, lit≤, ℕ, Bool, true, false, List, [], ◌∷◌, ◌++◌, length, take, drop, get_or, eqb, Some, None, Option, Result, Ok, Err, refl, sym, ap, append-nil, arith}
use mathlib.Core.Bool.{xor}
use Rattle.std.specs.Prelude.{◌&&◌, ◌==◌, nat_le, if◌then◌else◌}
use Rattle.std.proofs.lemmas.Bool.{eqb-true, eqb-false, and_parts, false_from_ne_true}
use Rattle.std.proofs.lemmas.List.{length-take}
use Rattle.hmc_codes.specs.Bytes.{IsBytes}
use Rattle.hmc_codes.specs.Codes.{all_commands, command_of}
use Rattle.hmc_codes.specs.declared.layout.Layout.TheVariants as layouts
use Rattle.hmc_codes.specs.declared.profile.Profile.{Profile}
use Rattle.hmc_codes.specs.declared.profile.Profile.TheVariants.{One, Two}
use Rattle.hmc_codes.specs.Commands.{layout_of, is_flow}
use Rattle.hmc_codes.specs.Flit.{zero_flit}
use Rattle.hmc_codes.specs.Profile.{modulus_of}
use Rattle.hmc_codes.specs.Table.{table_line}
use Rattle.hmc_codes.specs.declared.command.Command.{Command}
use Rattle.hmc_codes.specs.declared.command.Command.TheVariants.{Pret, Irtry}
use Rattle.hmc_codes.proofs.BytesLemmas.{IsBytes-take}
use Rattle.hmc_crc.specs.Bits.{bits_below, bits_of, number_of}
use Rattle.hmc_crc.specs.Remainder.{coefficients, divisor, zeros, plus, divide, remainder, crc_of}
use Rattle.hmc_packet.specs.declared.bad.Bad.{Bad}
use Rattle.hmc_packet.specs.declared.bad.Bad.TheVariants as bads
use Rattle.hmc_packet.specs.declared.kind.Kind.{Kind}
use Rattle.hmc_packet.specs.declared.kind.Kind.TheVariants.{Start, Clear}
use Rattle.hmc_packet.specs.declared.seen.Seen.{Seen}
use Rattle.hmc_packet.specs.Bits.{bits_from}
use Rattle.hmc_packet.specs.Draft.{front_bytes, tail_of_packet}
use Rattle.hmc_packet.specs.Header.{header_word, header_is_clean}
use Rattle.hmc_packet.specs.Irtry.{kind_pointer, irtry_packet, irtry_header, irtry_flit, kind_of, irtry_by, irtry_seen, irtry_in}
use Rattle.hmc_packet.specs.Laws.{IsSentAs}
use Rattle.hmc_packet.specs.Packet.{PacketFields, IsPacket, null_packet}
use Rattle.hmc_packet.specs.Parts.{word_of, header_in, tail_in, check_in, covered_in, lng_of}
use Rattle.hmc_packet.specs.Pret.{pret_packet, pret_header, pret_flit}
use Rattle.hmc_packet.specs.Reading.{is_null, is_null_alone, has_length, fitting, command_in, is_clean, poison_in, packet_from, seen_in, ◌>>=◌, judgement_of, bytes_read, read_of}
use Rattle.hmc_packet.specs.Spelling.{FitsProfile, word_bytes, half_bytes, check_of, covered, spelling, training_flit}
use Rattle.hmc_packet.specs.Tail.{tail_word, tail_of, tail_is_clean}
use Rattle.hmc_packet.proofs.CommandLemmas.{flow-one}
use Rattle.hmc_packet.proofs.DraftLemmas.{take-two, last-at, check-is}
use Rattle.hmc_packet.proofs.JudgementLemmas.{Passes, judgement_of-Passes, command_in-Names}
use Rattle.hmc_packet.proofs.PacketLemmas.{IsPacket-pret, IsPacket-irtry}
use Rattle.hmc_packet.proofs.PartLemmas.{word_bytes-word_of}
use Rattle.hmc_packet.proofs.ReadOf.{is_null-is, is_null-null, has_its_length, read_of-spelling}
use Rattle.hmc_packet.proofs.LinkLemmas.{single, length-spelling, command-first, read_of-training}

-- ---- an IRTRY

pub IsPacket-irtry_packet : (kind : Kind) → IsPacket (irtry_packet kind)
IsPacket-irtry_packet Start = IsPacket-irtry 1 (lit≤ tt) (lit≤ tt)
IsPacket-irtry_packet Clear = IsPacket-irtry 2 (lit≤ tt) (lit≤ tt)

is_flow-irtry : is_flow (layout_of Irtry) ≡ true
unfolding table_line
is_flow-irtry = refl

irtry-fits : (profile : Profile) (kind : Kind) (rrp : ℕ) → rrp < modulus_of profile → FitsProfile profile (irtry_packet kind) rrp
irtry-fits One Start rrp lt = record { below = lt; forward = lit< tt; errstat = lit< tt; null = λ no. absurd cc }
irtry-fits One Clear rrp lt = record { below = lt; forward = lit< tt; errstat = lit< tt; null = λ no. absurd cc }
irtry-fits Two Start rrp lt = record { below = lt; forward = lit< tt; errstat = lit< tt; null = λ no. absurd cc }
irtry-fits Two Clear rrp lt = record { below = lt; forward = lit< tt; errstat = lit< tt; null = λ no. absurd cc }

-- it is one flit
pub irtry-spelling : (profile : Profile) (kind : Kind) (rrp : ℕ) → spelling profile (irtry_packet kind) rrp ≡ irtry_flit profile kind rrp ∷ []
unfolding irtry_flit
irtry-spelling profile kind rrp =
    let is = IsPacket-irtry_packet kind in
    let one = single (spelling profile (irtry_packet kind) rrp) (length-spelling profile (irtry_packet kind) rrp is ∙ flow-one Irtry 1 is_flow-irtry is.payload.allowed) in
    one.1 ∙ ap (λ (l : List (List ℕ)). get_or l 0 [] ∷ []) (sym one.1)

irtry_seen-irtry : (kind : Kind) (rrp : ℕ) → irtry_seen (Ok (record { packet = irtry_packet kind; rrp = rrp })) ≡ Some (kind, rrp)
irtry_seen-irtry Start rrp = refl
irtry_seen-irtry Clear rrp = refl

-- and reads alone as it was spelled
pub irtry_in-flit : (profile : Profile) (kind : Kind) (rrp : ℕ) → rrp < modulus_of profile → irtry_in profile (irtry_flit profile kind rrp) ≡ Some (kind, rrp)
unfolding irtry_in
irtry_in-flit profile kind rrp lt =
    ap irtry_seen (ap (read_of profile) (sym (irtry-spelling profile kind rrp)) ∙ read_of-spelling profile (irtry_packet kind) rrp (IsPacket-irtry_packet kind) (irtry-fits profile kind rrp lt))
    ∙ irtry_seen-irtry kind rrp

-- ---- no IRTRY

not_irtry : (c : Command) (frp rrp : ℕ) → c ≢ Irtry → irtry_by c frp rrp ≡ None
not_irtry Irtry frp rrp other = absurd (other refl)
not_irtry _ frp rrp other = refl

no_irtry : (r : Result Seen Bad) → ((seen : Seen) → r ≡ Ok seen → seen.packet.command ≢ Irtry) → irtry_seen r ≡ None
no_irtry (Err bad) none = refl
no_irtry (Ok seen) none = not_irtry seen.packet.command seen.packet.frp seen.rrp (none seen refl)

-- the first flit of any other packet
pub irtry_in-first : (profile : Profile) (p : PacketFields) (rrp : ℕ) (first : List ℕ) (rest : List (List ℕ)) → IsSentAs profile p rrp first rest → p.command ≢ Irtry → irtry_in profile first ≡ None
unfolding irtry_in
irtry_in-first profile p rrp first rest sent other =
    no_irtry (read_of profile (first ∷ [])) (λ seen read irtry. other (sym (command-first profile p rrp first rest seen sent.packet sent.pointer sent.flits read) ∙ irtry))

pub read_of-null : (profile : Profile) → read_of profile (zero_flit ∷ []) ≡ Ok (record { packet = null_packet; rrp = 0 })
unfolding read_of is_null_alone
read_of-null profile = rw is_null-null refl

pub irtry_in-null : (profile : Profile) → irtry_in profile zero_flit ≡ None
unfolding irtry_in
irtry_in-null profile = ap irtry_seen (read_of-null profile)

pub irtry_in-training : (profile : Profile) → irtry_in profile training_flit ≡ None
unfolding irtry_in
irtry_in-training profile = ap irtry_seen (read_of-training profile [])

-- ---- read without a packet

irtry_in-is_null : (profile : Profile) (flit : List ℕ) → is_null flit ≡ true → irtry_in profile flit ≡ None
irtry_in-is_null profile flit null = ap (irtry_in profile) (is_null-is flit null) ∙ irtry_in-null profile

-- a flit that names another length than its own
no_length_alone : (flit : List ℕ) → lng_of flit ≢ 1 → has_length (flit ∷ []) ≡ false
unfolding has_length
no_length_alone flit other =
    false_from_ne_true _ (λ is. other (sym (eqb-true 1 (lng_of flit) (and_parts (nat_le 1 (lng_of flit) && nat_le (lng_of flit) 17) (1 == lng_of flit) is).1)))

irtry_in-no_length : (profile : Profile) (flit : List ℕ) → is_null flit ≡ false → lng_of flit ≢ 1 → irtry_in profile flit ≡ None
unfolding irtry_in read_of is_null_alone
irtry_in-no_length profile flit some other =
    let long : has_length (flit ∷ []) ≡ false = no_length_alone flit other in
    rw (some, long) refl

-- what a flit reads as that passes Length
abbrev pub irtry_judged : (profile : Profile) → Result (Command × Bool) Bad → List ℕ → Option (Kind × ℕ)
irtry_judged profile (Ok found) flit =
    let tail = tail_of profile (layout_of found.0) (tail_in flit) in
    irtry_by found.0 tail.frp tail.rrp
irtry_judged profile (Err bad) flit = None

by_judgement : (profile : Profile) (flit : List ℕ) (judged : Result (Command × Bool) Bad) → irtry_seen (judged >>= λ found. Ok (seen_in profile found.0 found.1 flit)) ≡ irtry_judged profile judged flit
unfolding seen_in packet_from
by_judgement profile flit (Ok found) = refl
by_judgement profile flit (Err bad) = refl

irtry_in-judgement : (profile : Profile) (flit : List ℕ) (judged : Result (Command × Bool) Bad) → is_null flit ≡ false → lng_of flit ≡ 1 → judged ≡ judgement_of profile flit → irtry_in profile flit ≡ irtry_judged profile judged flit
unfolding irtry_in read_of is_null_alone bytes_read
irtry_in-judgement profile flit judged some one is =
    let long : has_length (flit ∷ []) ≡ true = has_its_length flit [] 1 one refl (lit≤ tt) in
    rw (some, long, append-nil flit, is) (by_judgement profile flit (judgement_of profile flit))

-- ---- flits made with no packet

-- a packet between the ends of a link
abbrev flow : Command → (frp : ℕ) → PacketFields
flow command frp = record null_packet { command = command; frp = frp }

-- its flit, of its header, its tail, and the check of both
flow_flit : (profile : Profile) (command : Command) (frp rrp header : ℕ) (tail : List ℕ) → IsPacket (flow command frp) → layout_of command ≢ layouts.Null → word_bytes header ≡ front_bytes (flow command frp) → tail ≡ tail_of_packet profile (flow command frp) rrp →
    word_bytes header ++ (tail ++ half_bytes (crc_of (word_bytes header ++ tail))) ≡ get_or (spelling profile (flow command frp) rrp) 0 []
unfolding word_bytes
flow_flit profile command frp rrp header tail is other front tail_is =
    let p = flow command frp in
    let right : crc_of (word_bytes header ++ tail) ≡ check_of false (covered profile p rrp) = check-is profile p rrp (crc_of (word_bytes header ++ tail)) tail tail_is (ap (λ (l : List ℕ). crc_of (l ++ tail)) front) in
    (λ i. take 8 (drop 0 (front i)) ++ (tail_is i ++ half_bytes (right i))) ∙ last-at profile p rrp is other

pub pret_check : crc_of (word_bytes pret_header) ≡ 0x1932A2B5
unfolding word_bytes crc_of remainder divide plus zeros divisor coefficients bits_below bits_of number_of xor
pret_check = refl

pret_front : word_bytes pret_header ≡ front_bytes pret_packet
unfolding front_bytes header_word table_line word_bytes
pret_front = refl

pret_other : layout_of Pret ≢ layouts.Null
unfolding table_line
pret_other = λ null. absurd cc

pret_tail : (profile : Profile) (rrp : ℕ) → half_bytes rrp ≡ tail_of_packet profile pret_packet rrp
unfolding tail_of_packet tail_word table_line
pret_tail One rrp = let word : rrp ≡ rrp + 0 * 2 ^ 9 + 0 * 2 ^ 18 + 0 * 2 ^ 26 + 0 * 2 ^ 29 = omega arith in ap half_bytes word
pret_tail Two rrp = let word : rrp ≡ rrp + 0 * 2 ^ 11 + 0 * 2 ^ 22 + 0 * 2 ^ 25 + 0 * 2 ^ 29 = omega arith in ap half_bytes word

pub pret_flit-is : (profile : Profile) (rrp : ℕ) → word_bytes pret_header ++ (half_bytes rrp ++ half_bytes (crc_of (word_bytes pret_header ++ half_bytes rrp))) ≡ pret_flit profile rrp
pret_flit-is profile rrp = flow_flit profile Pret 0 rrp pret_header (half_bytes rrp) IsPacket-pret pret_other pret_front (pret_tail profile rrp)

pub irtry_check : crc_of (word_bytes irtry_header) ≡ 0x15D7267A
unfolding word_bytes crc_of remainder divide plus zeros divisor coefficients bits_below bits_of number_of xor
irtry_check = refl

irtry_front : (kind : Kind) → word_bytes irtry_header ≡ front_bytes (irtry_packet kind)
unfolding front_bytes header_word table_line word_bytes
irtry_front kind = refl

irtry_other : layout_of Irtry ≢ layouts.Null
unfolding table_line
irtry_other = λ null. absurd cc

pub irtry_flit-is : (profile : Profile) (kind : Kind) (rrp : ℕ) (tail : List ℕ) → tail ≡ tail_of_packet profile (irtry_packet kind) rrp →
    word_bytes irtry_header ++ (tail ++ half_bytes (crc_of (word_bytes irtry_header ++ tail))) ≡ irtry_flit profile kind rrp
unfolding irtry_flit
irtry_flit-is profile kind rrp tail tail_is = flow_flit profile Irtry (kind_pointer kind) rrp irtry_header tail (IsPacket-irtry_packet kind) irtry_other (irtry_front kind) tail_is

-- the check goes on over the tail of a flit with that header
pub checked_front : (flit : List ℕ) → length flit ≡ 16 → IsBytes flit → header_in flit ≡ irtry_header → 0x15D7267A ≡ crc_of (take 8 flit)
checked_front flit long bytes header =
    let front : word_bytes (header_in flit) ≡ take 8 flit = word_bytes-word_of (take 8 flit) (length-take 8 flit ∙ omega (arith, long)) (IsBytes-take 8 flit bytes) in
    sym irtry_check ∙ ap crc_of (ap word_bytes (sym header) ∙ front)

pub covered_twelve : (flit : List ℕ) → length flit ≡ 16 → take 8 flit ++ take 4 (drop 8 flit) ≡ covered_in flit
covered_twelve flit long = take-two 8 4 flit ∙ ap (λ (n : ℕ). take (n - 4) flit) (sym long)

-- ---- a flit with that header

header_named : command_in irtry_header ≡ Some Irtry
unfolding command_in fitting all_commands command_of table_line
header_named = refl

header_clean : header_is_clean layouts.Irtry irtry_header ≡ true
unfolding header_is_clean
header_clean = refl

header_one : (flit : List ℕ) → header_in flit ≡ irtry_header → lng_of flit ≡ 1
unfolding lng_of
header_one flit header = ap (bits_from 7 5) header

zero_header : header_in zero_flit ≡ irtry_header → ⊥
unfolding zero_flit word_of
zero_header is = let none : ◌≡◌ {A = ℕ} 0 0x83 = is in absurd (omega arith)

header_some : (flit : List ℕ) → header_in flit ≡ irtry_header → is_null flit ≡ false
header_some flit header =
    false_from_ne_true _ (λ null. let zero_is : header_in zero_flit ≡ irtry_header = ap (λ (l : List ℕ). header_in l) (sym (is_null-is flit null)) ∙ header in absurd (zero_header zero_is))

judged : (profile : Profile) (flit : List ℕ) (clean right : Bool) → header_in flit ≡ irtry_header → tail_is_clean profile layouts.Irtry (tail_in flit) ≡ clean → (check_in flit == crc_of (covered_in flit)) ≡ right →
    judgement_of profile flit ≡ (if clean then if right then Ok (Irtry, false) else Err bads.Crc else Err bads.Reserved)
unfolding judgement_of is_clean poison_in table_line
judged profile flit true true header tail check =
    let named : command_in (header_in flit) ≡ Some Irtry = ap command_in header ∙ header_named in
    let clean : header_is_clean layouts.Irtry (header_in flit) ≡ true = ap (header_is_clean layouts.Irtry) header ∙ header_clean in
    rw (named, clean, tail, check) refl
judged profile flit true false header tail check =
    let named : command_in (header_in flit) ≡ Some Irtry = ap command_in header ∙ header_named in
    let clean : header_is_clean layouts.Irtry (header_in flit) ≡ true = ap (header_is_clean layouts.Irtry) header ∙ header_clean in
    rw (named, clean, tail, check) refl
judged profile flit false right header tail check =
    let named : command_in (header_in flit) ≡ Some Irtry = ap command_in header ∙ header_named in
    let clean : header_is_clean layouts.Irtry (header_in flit) ≡ true = ap (header_is_clean layouts.Irtry) header ∙ header_clean in
    rw (named, clean, tail) refl

by_parts : (profile : Profile) (flit : List ℕ) (clean right : Bool) → header_in flit ≡ irtry_header → tail_is_clean profile layouts.Irtry (tail_in flit) ≡ clean → (check_in flit == crc_of (covered_in flit)) ≡ right →
    irtry_in profile flit ≡ irtry_judged profile (if clean then if right then Ok (Irtry, false) else Err bads.Crc else Err bads.Reserved) flit
by_parts profile flit clean right header tail check =
    irtry_in-judgement profile flit _ (header_some flit header) (header_one flit header) (sym (judged profile flit clean right header tail check))

pub irtry_in-unclean : (profile : Profile) (flit : List ℕ) → header_in flit ≡ irtry_header → tail_is_clean profile layouts.Irtry (tail_in flit) ≡ false → irtry_in profile flit ≡ None
irtry_in-unclean profile flit header tail = by_parts profile flit false _ header tail refl

pub irtry_in-unchecked : (profile : Profile) (flit : List ℕ) → header_in flit ≡ irtry_header → tail_is_clean profile layouts.Irtry (tail_in flit) ≡ true → (check_in flit == crc_of (covered_in flit)) ≡ false → irtry_in profile flit ≡ None
irtry_in-unchecked profile flit header tail check = by_parts profile flit true false header tail check

pub irtry_in-tail : (profile : Profile) (flit : List ℕ) → header_in flit ≡ irtry_header → tail_is_clean profile layouts.Irtry (tail_in flit) ≡ true → (check_in flit == crc_of (covered_in flit)) ≡ true →
    irtry_in profile flit ≡ (let tail = tail_of profile layouts.Irtry (tail_in flit) in Some (kind_of tail.frp, tail.rrp))
unfolding table_line
irtry_in-tail profile flit header tail check = by_parts profile flit true true header tail check

-- ---- a flit with another header

irtry_word : (h : ℕ) → h < 2 ^ 64 → bits_from 0 7 h ≡ 3 → bits_from 7 5 h ≡ 1 → bits_from 12 52 h ≡ 0 → h ≡ irtry_header
irtry_word h below code lng rest = omega arith

word_passed : (profile : Profile) (flit : List ℕ) (poisoned : Bool) → header_in flit < 2 ^ 64 → lng_of flit ≡ 1 → Passes profile flit Irtry poisoned → header_in flit ≡ irtry_header
unfolding table_line lng_of header_is_clean
word_passed profile flit poisoned below one passes =
    irtry_word (header_in flit) below (command_in-Names (header_in flit) Irtry passes.names).code one (eqb-true (bits_from 12 52 (header_in flit)) 0 passes.header)

judged_other : (profile : Profile) (flit : List ℕ) (found : Result (Command × Bool) Bad) → header_in flit < 2 ^ 64 → lng_of flit ≡ 1 → header_in flit ≢ irtry_header → found ≡ judgement_of profile flit → irtry_judged profile found flit ≡ None
judged_other profile flit (Err bad) below one other is = refl
judged_other profile flit (Ok found) below one other is =
    not_irtry found.0 _ _ (λ irtry. other (word_passed profile flit found.1 below one (judgement_of-Passes profile flit Irtry found.1 (sym is ∙ ap (λ (c : Command). Ok (c, found.1)) irtry))))

by_length : (profile : Profile) (flit : List ℕ) (one : Bool) → eqb (lng_of flit) 1 ≡ one → is_null flit ≡ false → header_in flit < 2 ^ 64 → header_in flit ≢ irtry_header → irtry_in profile flit ≡ None
by_length profile flit true is some below other =
    let one = eqb-true (lng_of flit) 1 is in
    irtry_in-judgement profile flit (judgement_of profile flit) some one refl ∙ judged_other profile flit (judgement_of profile flit) below one other refl
by_length profile flit false is some below other = irtry_in-no_length profile flit some (eqb-false (lng_of flit) 1 is)

by_null : (profile : Profile) (flit : List ℕ) (null : Bool) → is_null flit ≡ null → header_in flit < 2 ^ 64 → header_in flit ≢ irtry_header → irtry_in profile flit ≡ None
by_null profile flit true is below other = irtry_in-is_null profile flit is
by_null profile flit false is below other = by_length profile flit (eqb (lng_of flit) 1) refl is below other

pub irtry_in-other : (profile : Profile) (flit : List ℕ) → header_in flit < 2 ^ 64 → header_in flit ≢ irtry_header → irtry_in profile flit ≡ None
irtry_in-other profile flit below other = by_null profile flit (is_null flit) refl below other
