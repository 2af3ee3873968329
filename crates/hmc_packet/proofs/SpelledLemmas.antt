-- The bytes of a packet read as that packet.
use Rattle.std.proofs.Common.{◌≡◌, ◌≢◌, ◌∙◌, ◌<◌, ◌*◌, ◌^◌, ℕ, Bool, true, false, Ok, List, length, refl, sym, ap, subst, arith}
use Rattle.hmc_codes.specs.declared.profile.Profile.{Profile}
use Rattle.hmc_codes.specs.Commands.{layout_of, allows_of, is_flow}
use Rattle.hmc_codes.specs.declared.layout.Layout.{Layout}
use Rattle.hmc_codes.specs.declared.layout.Layout.TheVariants as layouts
use Rattle.hmc_crc.specs.Remainder.{crc_of}
use Rattle.hmc_crc.proofs.Check.{crc_of-lt}
use Rattle.hmc_packet.specs.declared.tail.Tail.{Tail}
use Rattle.hmc_packet.specs.Bits.{bits_from}
use Rattle.hmc_packet.specs.Header.{header_word, header_of, header_is_clean}
use Rattle.hmc_packet.specs.Tail.{tail_word, tail_of, tail_is_clean}
use Rattle.hmc_packet.specs.Packet.{PacketFields, IsPacket, IsLaidOut, flits_of}
use Rattle.hmc_packet.specs.Spelling.{FitsProfile, header_fields, tail_fields, word_bytes, half_bytes, covered, check_of, bytes_of}
use Rattle.hmc_packet.specs.Parts.{word_of, half_of, header_in, payload_in, tail_in, check_in, covered_in}
use Rattle.hmc_packet.specs.Reading.{poison_in, packet_from, seen_in, bytes_read}
use Rattle.hmc_packet.proofs.CommandLemmas.{code_zero-null, layout_of-null}
use Rattle.hmc_packet.proofs.HeaderLemmas as headers
use Rattle.hmc_packet.proofs.TailLemmas as tails
use Rattle.hmc_packet.proofs.TailLemmas.{TailFits}
use Rattle.hmc_packet.proofs.PacketLemmas.{IsHeader-fields, IsTail-fields}
use Rattle.hmc_packet.proofs.PartLemmas.{length-word_bytes, length-half_bytes, word_of-word_bytes, half_of-half_bytes, HasParts, joined-HasParts}
use Rattle.hmc_packet.proofs.PoisonLemmas.{check_from, poison_in-check}
use Rattle.hmc_packet.proofs.JudgementLemmas.{Names, Names-command_in, Passes, bytes_read-ok}

-- ---- what the layout makes of the fields

pub flow_header : (layout : Layout) (p : PacketFields) → IsLaidOut layout p → is_flow layout ≡ true → (p.tag ≡ 0) × (p.address ≡ 0) × (p.cube ≡ 0)
flow_header layouts.Null p is flow = (is.0.tag, is.0.address, is.0.cube)
flow_header layouts.Pret p is flow = (is.0.tag, is.0.address, is.0.cube)
flow_header layouts.Tret p is flow = (is.tag, is.address, is.cube)
flow_header layouts.Irtry p is flow = (is.0.tag, is.0.address, is.0.cube)
flow_header layouts.Ask p is flow = absurd cc
flow_header layouts.Reply p is flow = absurd cc

flow_sound : (layout : Layout) (p : PacketFields) → IsLaidOut layout p → is_flow layout ≡ true → p.poisoned ≡ false
flow_sound layouts.Null p is flow = is.0.poisoned
flow_sound layouts.Pret p is flow = is.0.poisoned
flow_sound layouts.Tret p is flow = is.poisoned
flow_sound layouts.Irtry p is flow = is.0.poisoned
flow_sound layouts.Ask p is flow = absurd cc
flow_sound layouts.Reply p is flow = absurd cc

tail_fits : (layout : Layout) (p : PacketFields) (rrp : ℕ) → IsLaidOut layout p → layout ≢ layouts.Null → TailFits layout (tail_fields p rrp)
tail_fits layouts.Null p rrp is other = absurd (other refl)
tail_fits layouts.Pret p rrp is other = (is.2, is.1.seq, is.0.slid, is.1.rtc)
tail_fits layouts.Tret p rrp is other = is.slid
tail_fits layouts.Irtry p rrp is other = (is.2, is.3, is.1.seq, is.0.slid, is.1.rtc)
tail_fits layouts.Ask p rrp is other = tt
tail_fits layouts.Reply p rrp is other = tt

-- what is kept of the fields gives the packet back
pub packet_from-kept : (layout : Layout) (p : PacketFields) (rrp : ℕ) → IsLaidOut layout p →
    packet_from layout p.command (headers.kept layout (header_fields p)) (tails.kept layout (tail_fields p rrp)) p.poisoned p.payload ≡ p
unfolding packet_from headers.kept tails.kept
packet_from-kept layouts.Null p rrp is = λ i. record p { flag = sym is.0.flag i; errstat = sym is.0.errstat i }
packet_from-kept layouts.Pret p rrp is = λ i. record p { flag = sym is.0.flag i; errstat = sym is.0.errstat i }
packet_from-kept layouts.Tret p rrp is = λ i. record p { flag = sym is.flag i; errstat = sym is.errstat i }
packet_from-kept layouts.Irtry p rrp is = λ i. record p { flag = sym is.0.flag i; errstat = sym is.0.errstat i }
packet_from-kept layouts.Ask p rrp is = λ i. record p { flag = sym is.0 i; errstat = sym is.1 i }
packet_from-kept layouts.Reply p rrp is = λ i. record p { address = sym is i }

pub kept-rrp : (layout : Layout) (t : Tail) → (tails.kept layout t).rrp ≡ t.rrp
unfolding tails.kept
kept-rrp layouts.Reply t = refl
kept-rrp _ t = refl

-- ---- the bytes

pub bytes_of-HasParts : (profile : Profile) → (p : PacketFields) (rrp : ℕ) →
    HasParts (bytes_of profile p rrp) (word_bytes (header_word (layout_of p.command) (header_fields p))) p.payload (half_bytes (tail_word profile (layout_of p.command) (tail_fields p rrp))) (half_bytes (check_of p.poisoned (covered profile p rrp)))
unfolding bytes_of covered
bytes_of-HasParts profile p rrp =
    joined-HasParts (word_bytes (header_word (layout_of p.command) (header_fields p))) p.payload (half_bytes (tail_word profile (layout_of p.command) (tail_fields p rrp))) (half_bytes (check_of p.poisoned (covered profile p rrp)))
    (length-word_bytes _) (length-half_bytes _) (length-half_bytes _)

pub length-bytes_of : (profile : Profile) → (p : PacketFields) (rrp : ℕ) → IsPacket p → length (bytes_of profile p rrp) ≡ 16 * flits_of p
length-bytes_of profile p rrp is = let len = (bytes_of-HasParts profile p rrp).len in let whole = is.payload.whole in omega arith

covered_in-bytes_of : (profile : Profile) → (p : PacketFields) (rrp : ℕ) → covered_in (bytes_of profile p rrp) ≡ covered profile p rrp
unfolding covered
covered_in-bytes_of profile p rrp = (bytes_of-HasParts profile p rrp).covered

pub header_in-bytes_of : (profile : Profile) → (p : PacketFields) (rrp : ℕ) → IsPacket p → header_in (bytes_of profile p rrp) ≡ header_word (layout_of p.command) (header_fields p)
header_in-bytes_of profile p rrp is =
    ap word_of (bytes_of-HasParts profile p rrp).front ∙ word_of-word_bytes _ (headers.header_word-lt (layout_of p.command) (header_fields p) (IsHeader-fields p is))

tail_in-bytes_of : (profile : Profile) → (p : PacketFields) (rrp : ℕ) → IsPacket p → FitsProfile profile p rrp → tail_in (bytes_of profile p rrp) ≡ tail_word profile (layout_of p.command) (tail_fields p rrp)
tail_in-bytes_of profile p rrp is lt =
    ap half_of (bytes_of-HasParts profile p rrp).end ∙ half_of-half_bytes _ (tails.tail_word-lt profile (layout_of p.command) (tail_fields p rrp) (IsTail-fields profile p rrp is lt))

check_of-is : (poisoned : Bool) (bytes : List ℕ) → check_of poisoned bytes ≡ check_from poisoned (crc_of bytes)
unfolding check_of
check_of-is poisoned bytes = refl

pub check_from-lt : (poisoned : Bool) (right : ℕ) → right < 2 ^ 32 → check_from poisoned right < 2 ^ 32
check_from-lt true right lt = omega arith
check_from-lt false right lt = lt

check_in-bytes_of : (profile : Profile) → (p : PacketFields) (rrp : ℕ) → check_in (bytes_of profile p rrp) ≡ check_from p.poisoned (crc_of (covered profile p rrp))
check_in-bytes_of profile p rrp =
    let small : check_of p.poisoned (covered profile p rrp) < 2 ^ 32 = subst (λ (n : ℕ). n < 2 ^ 32) (sym (check_of-is p.poisoned (covered profile p rrp))) (check_from-lt p.poisoned (crc_of (covered profile p rrp)) (crc_of-lt (covered profile p rrp))) in
    ap half_of (bytes_of-HasParts profile p rrp).last ∙ half_of-half_bytes _ small ∙ check_of-is p.poisoned (covered profile p rrp)

-- ---- the tests

names : (profile : Profile) → (p : PacketFields) (rrp : ℕ) → IsPacket p → layout_of p.command ≢ layouts.Null → Names (header_in (bytes_of profile p rrp)) p.command
names profile p rrp is other =
    let head = header_in-bytes_of profile p rrp is in
    let fields = IsHeader-fields p is in
    record {
      code = ap (bits_from 0 7) head ∙ headers.code-word (layout_of p.command) (header_fields p) fields;
      some = λ zero. other (ap layout_of (code_zero-null p.command zero) ∙ layout_of-null);
      allowed = ap (λ (n : ℕ). allows_of p.command n) (ap (bits_from 7 5) head ∙ headers.flits-word (layout_of p.command) (header_fields p) fields) ∙ is.payload.allowed;
    }

pub bytes_of-Passes : (profile : Profile) → (p : PacketFields) (rrp : ℕ) → IsPacket p → FitsProfile profile p rrp → layout_of p.command ≢ layouts.Null → Passes profile (bytes_of profile p rrp) p.command p.poisoned
bytes_of-Passes profile p rrp is lt other =
    let layout = layout_of p.command in
    record {
      names = Names-command_in (header_in (bytes_of profile p rrp)) p.command (names profile p rrp is other);
      header = ap (header_is_clean layout) (header_in-bytes_of profile p rrp is) ∙ headers.header_is_clean-word layout (header_fields p) (IsHeader-fields p is) (flow_header layout p is.layout);
      tail = ap (tail_is_clean profile layout) (tail_in-bytes_of profile p rrp is lt) ∙ tails.tail_is_clean-word profile layout (tail_fields p rrp) (IsTail-fields profile p rrp is lt) (tail_fits layout p rrp is.layout other);
      check =
          (λ i. poison_in layout (check_in-bytes_of profile p rrp i) (crc_of (covered_in-bytes_of profile p rrp i)))
          ∙ poison_in-check layout p.poisoned (crc_of (covered profile p rrp)) (crc_of-lt (covered profile p rrp)) (flow_sound layout p is.layout);
    }

pub seen_in-bytes_of : (profile : Profile) → (p : PacketFields) (rrp : ℕ) → IsPacket p → FitsProfile profile p rrp → seen_in profile p.command p.poisoned (bytes_of profile p rrp) ≡ record { packet = p; rrp = rrp }
unfolding seen_in
seen_in-bytes_of profile p rrp is lt =
    let layout = layout_of p.command in
    let header : header_of layout (header_in (bytes_of profile p rrp)) ≡ headers.kept layout (header_fields p) =
    ap (header_of layout) (header_in-bytes_of profile p rrp is) ∙ headers.header_of-word layout (header_fields p) (IsHeader-fields p is) in
    let tail : tail_of profile layout (tail_in (bytes_of profile p rrp)) ≡ tails.kept layout (tail_fields p rrp) =
    ap (tail_of profile layout) (tail_in-bytes_of profile p rrp is lt) ∙ tails.tail_of-word profile layout (tail_fields p rrp) (IsTail-fields profile p rrp is lt) in
    let payload : payload_in (bytes_of profile p rrp) ≡ p.payload = (bytes_of-HasParts profile p rrp).middle in
    let packet : packet_from layout p.command (header_of layout (header_in (bytes_of profile p rrp))) (tail_of profile layout (tail_in (bytes_of profile p rrp))) p.poisoned (payload_in (bytes_of profile p rrp)) ≡ p =
    (λ i. packet_from layout p.command (header i) (tail i) p.poisoned (payload i)) ∙ packet_from-kept layout p rrp is.layout in
    let pointer : (tail_of profile layout (tail_in (bytes_of profile p rrp))).rrp ≡ rrp = ap (λ (t : Tail). t.rrp) tail ∙ kept-rrp layout (tail_fields p rrp) in
    λ i. record { packet = packet i; rrp = pointer i }

-- the bytes of a packet that is no NULL are read as it and its pointer
pub bytes_read-bytes_of : (profile : Profile) → (p : PacketFields) (rrp : ℕ) → IsPacket p → FitsProfile profile p rrp → layout_of p.command ≢ layouts.Null → bytes_read profile (bytes_of profile p rrp) ≡ Ok (record { packet = p; rrp = rrp })
bytes_read-bytes_of profile p rrp is lt other =
    bytes_read-ok profile (bytes_of profile p rrp) p.command p.poisoned (bytes_of-Passes profile p rrp is lt other) ∙ ap Ok (seen_in-bytes_of profile p rrp is lt)
