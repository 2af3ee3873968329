-- Bytes that pass the tests are those of the packet that is seen in them.
use Rattle.std.proofs.Common.{◌≡◌, ◌≢◌, ◌∙◌, ◌<◌, ◌≤◌, ◌+◌, ◌-◌, ◌*◌, ◌/◌, ◌%◌, ◌^◌, ℕ, Bool, true, false, Ok, List, ◌++◌, length, take, drop, refl, sym, ap, subst, arith}
use Rattle.std.proofs.lemmas.List.{length-take, length-drop, take-append-drop}
use Rattle.hmc_codes.specs.Profile.{modulus_of}
use Rattle.hmc_codes.specs.declared.profile.Profile.{Profile}
use Rattle.hmc_codes.specs.declared.profile.Profile.TheVariants.{One, Two}
use Rattle.hmc_codes.specs.Bytes.{IsBytes}
use Rattle.hmc_codes.specs.Commands.{code_of, layout_of, allows_of, is_flow}
use Rattle.hmc_codes.specs.declared.command.Command.{Command}
use Rattle.hmc_codes.specs.declared.layout.Layout.{Layout}
use Rattle.hmc_codes.specs.declared.layout.Layout.TheVariants as layouts
use Rattle.hmc_codes.proofs.BytesLemmas.{IsBytes-take, IsBytes-drop}
use Rattle.hmc_crc.specs.Remainder.{crc_of}
use Rattle.hmc_packet.specs.declared.header.Header.{Header}
use Rattle.hmc_packet.specs.declared.tail.Tail.{Tail}
use Rattle.hmc_packet.specs.declared.seen.Seen.{Seen}
use Rattle.hmc_packet.specs.Bits.{bits_from}
use Rattle.hmc_packet.specs.Header.{IsHeader, header_word, header_of, header_is_clean}
use Rattle.hmc_packet.specs.Tail.{IsTail, tail_word, tail_of, tail_is_clean}
use Rattle.hmc_packet.specs.Packet.{PacketFields, IsInRange, IsLaidOut, IsFlow, flits_of}
use Rattle.hmc_packet.specs.Spelling.{header_fields, tail_fields, word_bytes, half_bytes, covered, check_of, bytes_of}
use Rattle.hmc_packet.specs.Parts.{header_in, payload_in, tail_in, check_in, covered_in}
use Rattle.hmc_packet.specs.Reading.{slid_in, packet_from, seen_in, judgement_of, bytes_read, AreBytesOf}
use Rattle.hmc_packet.proofs.CommandLemmas.{null_layout-null, code_of-null}
use Rattle.hmc_packet.proofs.HeaderLemmas as headers
use Rattle.hmc_packet.proofs.TailLemmas as tails
use Rattle.hmc_packet.proofs.TailLemmas.{rrp-below, frp-below, seq-below, slid-below, rtc-below, errstat-below}
use Rattle.hmc_packet.proofs.PartLemmas.{word_bytes-word_of, half_bytes-half_of, word_of-lt, half_of-lt, covered-join}
use Rattle.hmc_packet.proofs.PoisonLemmas.{check_from, poison_in-is}
use Rattle.hmc_packet.proofs.JudgementLemmas.{Names, command_in-Names, Passes, judgement_of-Passes, bytes_read-Passes}

-- ---- what clean words make a packet of

slid-lt : (profile : Profile) → (layout : Layout) (h : Header) (t : Tail) → IsHeader h → IsTail profile t → slid_in layout h t < 8
slid-lt profile layouts.Reply h t p q = p.slid
slid-lt profile _ h t p q = slid-below profile t.slid q.slid

two_at_most : (profile : Profile) (n : ℕ) → n < modulus_of profile → n < 2 ^ 11
two_at_most One n lt = omega arith
two_at_most Two n lt = lt

in_range : (profile : Profile) → (layout : Layout) (c : Command) (h : Header) (t : Tail) (poisoned : Bool) (payload : List ℕ) → IsHeader h → IsTail profile t → IsInRange (packet_from layout c h t poisoned payload)
unfolding packet_from
in_range profile layout c h t poisoned payload p q = record {
  tag = p.tag;
  address = p.address;
  cube = p.cube;
  slid = slid-lt profile layout h t p q;
  errstat = errstat-below profile t.errstat q.errstat;
  rtc = rtc-below profile t.rtc q.rtc;
  seq = seq-below profile t.seq q.seq;
  frp = two_at_most profile t.frp (frp-below profile t.frp q.frp);
}

-- header_of and tail_of leave zero what a flow packet lacks
flow_flag : (layout : Layout) (word : ℕ) → is_flow layout ≡ true → (header_of layout word).flag ≡ false
unfolding header_of
flow_flag layouts.Reply word flow = absurd cc
flow_flag _ word flow = refl

flow_errstat : (profile : Profile) → (layout : Layout) (word : ℕ) → is_flow layout ≡ true → (tail_of profile layout word).errstat ≡ 0
unfolding tail_of
flow_errstat profile layouts.Reply word flow = absurd cc
flow_errstat profile _ word flow = refl

flow_slid : (layout : Layout) (h : Header) (t : Tail) → is_flow layout ≡ true → t.slid ≡ 0 → slid_in layout h t ≡ 0
flow_slid layouts.Reply h t flow is = absurd cc
flow_slid layouts.Ask h t flow is = absurd cc
flow_slid _ h t flow is = is

is_flow_packet : (profile : Profile) → (layout : Layout) (c : Command) (w v : ℕ) (poisoned : Bool) (payload : List ℕ) → w < 2 ^ 64 → is_flow layout ≡ true → header_is_clean layout w ≡ true → (tail_of profile layout v).slid ≡ 0 → poisoned ≡ false →
    IsFlow (packet_from layout c (header_of layout w) (tail_of profile layout v) poisoned payload)
unfolding packet_from
is_flow_packet profile layout c w v poisoned payload lt flow clean slid sound =
    let zeros = headers.clean_flow-header layout w lt flow clean in
    record {
      tag = zeros.0;
      address = zeros.1;
      cube = zeros.2;
      slid = flow_slid layout (header_of layout w) (tail_of profile layout v) flow slid;
      flag = flow_flag layout w flow;
      errstat = flow_errstat profile layout v flow;
      poisoned = sound;
    }

laid_out : (profile : Profile) → (layout : Layout) (c : Command) (w v : ℕ) (poisoned : Bool) (payload : List ℕ) → w < 2 ^ 64 → v < 2 ^ 32 → header_is_clean layout w ≡ true → tail_is_clean profile layout v ≡ true → (is_flow layout ≡ true → poisoned ≡ false) →
    IsLaidOut layout (packet_from layout c (header_of layout w) (tail_of profile layout v) poisoned payload)
unfolding packet_from header_of tail_of
laid_out profile layouts.Null c w v poisoned payload wlt vlt hc tc sound =
    let f = tails.TailFits-of profile layouts.Null v tc in
    (is_flow_packet profile layouts.Null c w v poisoned payload wlt refl hc f.3 (sound refl), record { rtc = f.4; seq = f.2 }, f.1)
laid_out profile layouts.Pret c w v poisoned payload wlt vlt hc tc sound =
    let f = tails.TailFits-of profile layouts.Pret v tc in
    (is_flow_packet profile layouts.Pret c w v poisoned payload wlt refl hc f.2 (sound refl), record { rtc = f.3; seq = f.1 }, f.0)
laid_out profile layouts.Tret c w v poisoned payload wlt vlt hc tc sound =
    is_flow_packet profile layouts.Tret c w v poisoned payload wlt refl hc (tails.TailFits-of profile layouts.Tret v tc) (sound refl)
laid_out profile layouts.Irtry c w v poisoned payload wlt vlt hc tc sound =
    let f = tails.TailFits-of profile layouts.Irtry v tc in
    (is_flow_packet profile layouts.Irtry c w v poisoned payload wlt refl hc f.3 (sound refl), record { rtc = f.4; seq = f.2 }, f.0, f.1)
laid_out profile layouts.Ask c w v poisoned payload wlt vlt hc tc sound = (refl, refl)
laid_out profile layouts.Reply c w v poisoned payload wlt vlt hc tc sound = refl

-- ---- the packet's words are those that were read

header_word-from : (layout : Layout) (c : Command) (h : Header) (t : Tail) (poisoned : Bool) (payload : List ℕ) → code_of c ≡ h.code → flits_of (packet_from layout c h t poisoned payload) ≡ h.flits →
    header_word layout (header_fields (packet_from layout c h t poisoned payload)) ≡ header_word layout h
unfolding packet_from header_word
header_word-from layouts.Reply c h t poisoned payload code flits = λ i. header_word layouts.Reply (record h { code = code i; flits = flits i })
header_word-from _ c h t poisoned payload code flits = λ i. code i + flits i * 2 ^ 7 + h.tag * 2 ^ 12 + h.address * 2 ^ 24 + h.cube * 2 ^ 61

tail_word-from : (profile : Profile) → (layout : Layout) (c : Command) (h : Header) (t : Tail) (poisoned : Bool) (payload : List ℕ) →
    tail_word profile layout (tail_fields (packet_from layout c h t poisoned payload) t.rrp) ≡ tail_word profile layout t
unfolding packet_from tail_word
tail_word-from profile layouts.Reply c h t poisoned payload = refl
tail_word-from profile _ c h t poisoned payload = refl

-- ---- all of the bytes

-- bytes that may be a packet's: as many as the header names flits
pub record IsWhole (bytes : List ℕ) : Type 0 where
  pub some : 16 ≤ length bytes
  pub size : length bytes ≡ 16 * bits_from 7 5 (header_in bytes)
  pub are_bytes : IsBytes bytes

not_null : (c : Command) (header : ℕ) → Names header c → layout_of c ≢ layouts.Null
not_null c header names is = names.some (ap code_of (null_layout-null c is) ∙ code_of-null)

payload_size : (bytes : List ℕ) → 16 ≤ length bytes → length (payload_in bytes) ≡ length bytes - 16
payload_size bytes some = omega (arith, length-take (length bytes - 16) (drop 8 bytes), length-drop 8 bytes)

payload_flits : (n k payload : ℕ) → payload ≡ n - 16 → 16 ≤ n → n ≡ 16 * k → (payload % 16 ≡ 0) × (1 + payload / 16 ≡ k)
payload_flits n k payload p q r = (omega arith, omega arith)

header_back : (layout : Layout) (bytes : List ℕ) (c : Command) (t : Tail) (poisoned : Bool) (payload : List ℕ) → IsWhole bytes → header_is_clean layout (header_in bytes) ≡ true →
    code_of c ≡ bits_from 0 7 (header_in bytes) → 1 + length payload / 16 ≡ bits_from 7 5 (header_in bytes) →
    word_bytes (header_word layout (header_fields (packet_from layout c (header_of layout (header_in bytes)) t poisoned payload))) ≡ take 8 bytes
unfolding packet_from
header_back layout bytes c t poisoned payload whole clean code flits =
    let w = header_in bytes in
    let front = IsBytes-take 8 bytes whole.are_bytes in
    let some = whole.some in
    ap word_bytes
    (header_word-from layout c (header_of layout w) t poisoned payload (code ∙ sym (headers.header_of-code layout w)) (flits ∙ sym (headers.header_of-flits layout w))
    ∙ headers.header_word-of layout w (word_of-lt (take 8 bytes) front) clean)
    ∙ word_bytes-word_of (take 8 bytes) (omega (arith, length-take 8 bytes)) front

tail_back : (profile : Profile) → (layout : Layout) (bytes : List ℕ) (c : Command) (h : Header) (poisoned : Bool) (payload : List ℕ) → IsWhole bytes → tail_is_clean profile layout (tail_in bytes) ≡ true →
    half_bytes (tail_word profile layout (tail_fields (packet_from layout c h (tail_of profile layout (tail_in bytes)) poisoned payload) (tail_of profile layout (tail_in bytes)).rrp)) ≡ take 4 (drop (length bytes - 8) bytes)
tail_back profile layout bytes c h poisoned payload whole clean =
    let v = tail_in bytes in
    let end = drop (length bytes - 8) bytes in
    let fits = IsBytes-take 4 end (IsBytes-drop (length bytes - 8) bytes whole.are_bytes) in
    let some = whole.some in
    ap half_bytes (tail_word-from profile layout c h (tail_of profile layout v) poisoned payload ∙ tails.tail_word-of profile layout v clean)
    ∙ half_bytes-half_of (take 4 end) (omega (arith, length-take 4 end, length-drop (length bytes - 8) bytes)) fits

check_back : (bytes : List ℕ) (poisoned : Bool) (right : ℕ) → IsWhole bytes → check_in bytes ≡ check_from poisoned right → half_bytes (check_from poisoned right) ≡ drop (length bytes - 4) bytes
check_back bytes poisoned right whole is =
    let some = whole.some in
    ap half_bytes (sym is) ∙ half_bytes-half_of (drop (length bytes - 4) bytes) (omega (arith, length-drop (length bytes - 4) bytes)) (IsBytes-drop (length bytes - 4) bytes whole.are_bytes)

bytes_back : (profile : Profile) → (bytes : List ℕ) (c : Command) (poisoned : Bool) (p : PacketFields) (rrp : ℕ) → IsWhole bytes → p.poisoned ≡ poisoned → p.payload ≡ payload_in bytes →
    word_bytes (header_word (layout_of p.command) (header_fields p)) ≡ take 8 bytes →
    half_bytes (tail_word profile (layout_of p.command) (tail_fields p rrp)) ≡ take 4 (drop (length bytes - 8) bytes) →
    check_in bytes ≡ check_from poisoned (crc_of (covered_in bytes)) → bytes ≡ bytes_of profile p rrp
unfolding bytes_of covered check_of
bytes_back profile bytes c poisoned p rrp whole sound payload front end check =
    let cov : covered profile p rrp ≡ covered_in bytes = (λ i. front i ++ (payload i ++ end i)) ∙ sym (covered-join bytes whole.some) in
    let last : half_bytes (check_of p.poisoned (covered profile p rrp)) ≡ drop (length bytes - 4) bytes =
    (λ i. half_bytes (check_of (sound i) (cov i))) ∙ check_back bytes poisoned (crc_of (covered_in bytes)) whole check in
    sym ((λ i. cov i ++ last i) ∙ take-append-drop (length bytes - 4) bytes)

-- bytes that pass are those of the packet
pub seen_in-AreBytesOf : (profile : Profile) → (bytes : List ℕ) (c : Command) (poisoned : Bool) → IsWhole bytes → Passes profile bytes c poisoned → AreBytesOf profile bytes (seen_in profile c poisoned bytes)
unfolding seen_in packet_from
seen_in-AreBytesOf profile bytes c poisoned whole passes =
    let layout = layout_of c in
    let w = header_in bytes in
    let v = tail_in bytes in
    let h = header_of layout w in
    let t = tail_of profile layout v in
    let payload = payload_in bytes in
    let names = command_in-Names w c passes.names in
    let wlt : w < 2 ^ 64 = word_of-lt (take 8 bytes) (IsBytes-take 8 bytes whole.are_bytes) in
    let vlt : v < 2 ^ 32 = half_of-lt (take 4 (drop (length bytes - 8) bytes)) (IsBytes-take 4 (drop (length bytes - 8) bytes) (IsBytes-drop (length bytes - 8) bytes whole.are_bytes)) in
    let poison = poison_in-is layout (check_in bytes) (crc_of (covered_in bytes)) poisoned passes.check in
    let size = payload_flits (length bytes) (bits_from 7 5 w) (length payload) (payload_size bytes whole.some) whole.some whole.size in
    record {
      packet = record {
        ranges = in_range profile layout c h t poisoned payload (headers.IsHeader-of layout w) (tails.IsTail-of profile layout v);
        layout = laid_out profile layout c w v poisoned payload wlt vlt passes.header passes.tail poison.1;
        payload = record {
          bytes = IsBytes-take (length bytes - 16) (drop 8 bytes) (IsBytes-drop 8 bytes whole.are_bytes);
          whole = size.0;
          allowed = ap (λ (n : ℕ). allows_of c n) size.1 ∙ names.allowed;
        };
      };
      pointer = rrp-below profile t.rrp (tails.IsTail-of profile layout v).rrp;
      forward = frp-below profile t.frp (tails.IsTail-of profile layout v).frp;
      errstat = (tails.IsTail-of profile layout v).errstat;
      bytes_are = bytes_back profile bytes c poisoned (packet_from layout c h t poisoned payload) t.rrp whole refl refl
          (header_back layout bytes c t poisoned payload whole passes.header (sym names.code) size.1)
          (tail_back profile layout bytes c h poisoned payload whole passes.tail)
          poison.0;
      other = not_null c w names;
    }

pub bytes_read-AreBytesOf : (profile : Profile) → (bytes : List ℕ) (seen : Seen) → IsWhole bytes → bytes_read profile bytes ≡ Ok seen → AreBytesOf profile bytes seen
bytes_read-AreBytesOf profile bytes seen whole is =
    let passed = bytes_read-Passes profile bytes seen is in
    subst (λ (s : Seen). AreBytesOf profile bytes s) passed.3 (seen_in-AreBytesOf profile bytes passed.0 passed.1 whole passed.2)

-- the same of what the three tests answered
pub judgement_of-AreBytesOf : (profile : Profile) → (bytes : List ℕ) (c : Command) (poisoned : Bool) → 16 ≤ length bytes → length bytes ≡ 16 * bits_from 7 5 (header_in bytes) → IsBytes bytes → Ok (c, poisoned) ≡ judgement_of profile bytes → AreBytesOf profile bytes (seen_in profile c poisoned bytes)
judgement_of-AreBytesOf profile bytes c poisoned some size fits is =
    seen_in-AreBytesOf profile bytes c poisoned (record { some = some; size = size; are_bytes = fits }) (judgement_of-Passes profile bytes c poisoned (sym is))
