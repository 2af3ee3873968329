-- The copy of what came is a packet whose flits before the last are those that came, whatever came.
use Rattle.std.proofs.Common.{◌≡◌, ◌≢◌, ◌∙◌, ◌≤◌, ◌+◌, ◌-◌, ◌*◌, ◌/◌, ℕ, Bool, true, false, cond, List, [], ◌++◌, length, take, drop, get_or, Option, Some, None, refl, sym, ap, subst, arith, append_assoc}
use Rattle.std.specs.Prelude.{◌&&◌, not, option_and_then}
use Rattle.std.specs.List.{concat}
use Rattle.std.proofs.lemmas.Bool.{and_parts, not-true}
use Rattle.std.proofs.lemmas.List.{take_all, take-append-drop, length-take, length-drop, take_at, drop_at}
use Rattle.hmc_codes.proofs.BytesLemmas.{IsBytes-append, IsBytes-take, IsBytes-drop}
use Rattle.hmc_codes.specs.Commands.{layout_of, allows_of, is_flow}
use Rattle.hmc_codes.specs.declared.profile.Profile.{Profile}
use Rattle.hmc_codes.specs.declared.command.Command.{Command}
use Rattle.hmc_codes.specs.declared.layout.Layout.{Layout}
use Rattle.hmc_codes.specs.declared.layout.Layout.TheVariants as layouts
use Rattle.hmc_crc.specs.Remainder.{crc_of}
use Rattle.hmc_crc.proofs.Check.{crc_of-lt}
use Rattle.hmc_packet.specs.declared.head.Head.{Head}
use Rattle.hmc_packet.specs.declared.header.Header.{Header}
use Rattle.hmc_packet.specs.declared.seen.Seen.{Seen}
use Rattle.hmc_packet.specs.declared.tail.Tail.{Tail}
use Rattle.hmc_packet.specs.Bits.{bits_from}
use Rattle.hmc_packet.specs.Copy.{IsFront, IsTailAfter, copied_packet}
use Rattle.hmc_packet.specs.Draft.{header_of_packet, front_bytes}
use Rattle.hmc_packet.specs.Head.{named_by, head_with, head_in}
use Rattle.hmc_packet.specs.Header.{header_of, header_is_clean}
use Rattle.hmc_packet.specs.Packet.{PacketFields, IsPacket, IsLaidOut, flits_of}
use Rattle.hmc_packet.specs.Parts.{word_of, half_of, header_in, tail_in, check_in}
use Rattle.hmc_packet.specs.Reading.{command_in, packet_from, poison_in, seen_in, AreBytesOf}
use Rattle.hmc_packet.specs.Spelling.{header_fields, half_bytes, cut, spelling, word_bytes}
use Rattle.hmc_packet.specs.Tail.{tail_word, tail_of, tail_is_clean}
use Rattle.hmc_packet.proofs.CommandLemmas.{allows_few}
use Rattle.hmc_packet.proofs.HeaderLemmas as headers
use Rattle.hmc_packet.proofs.TailLemmas as tails
use Rattle.hmc_packet.proofs.PacketLemmas.{flits_of-few, IsHeader-fields}
use Rattle.hmc_packet.proofs.PartLemmas.{joined-HasParts, length-word_bytes, length-half_bytes, word_of-word_bytes, half_of-half_bytes, IsBytes-half_bytes}
use Rattle.hmc_packet.proofs.PoisonLemmas.{check_from, poison_in-check}
use Rattle.hmc_packet.proofs.JudgementLemmas.{command_in-Names, Passes}
use Rattle.hmc_packet.proofs.ReadLemmas.{IsWhole, seen_in-AreBytesOf}
use Rattle.hmc_packet.proofs.FlitLemmas.{AreFlits, length-concat, cut-concat, concat-cut}
use Rattle.hmc_packet.proofs.FrontLemmas.{cut-take, bytes_of-before, front-is, not_null}
use Rattle.hmc_packet.proofs.DraftLemmas.{take-two, length-front_bytes, last-at}
use Rattle.hmc_packet.proofs.SpelledLemmas.{check_from-lt, kept-rrp}

-- ---- what a head says of the bytes

-- what the head of a front says of its word
record Says (word : ℕ) (head : Head) : Type 0 where
  no_flow : is_flow (layout_of head.command) ≡ false
  clean : header_is_clean (layout_of head.command) word ≡ true
  lng : bits_from 7 5 word ≡ head.flits

abbrev some_head : Head → Option Head
some_head head = Some head

kept_if : (test : Bool) (found head : Head) → cond test (some_head found) None ≡ Some head → (test ≡ true) × (found ≡ head)
kept_if true found head is = (refl, cc)
kept_if false found head is = absurd cc

head_with-says : (c : Command) (word : ℕ) (head : Head) → head_with (layout_of c) c word ≡ Some head → (c ≡ head.command) × Says word head
unfolding head_with
head_with-says c word head is =
    let layout = layout_of c in
    let found : Head = record { command = c; flits = bits_from 7 5 word; cube = (header_of layout word).cube; slid = (header_of layout word).slid } in
    let kept = kept_if (not (is_flow layout) && header_is_clean layout word) found head is in
    let parts = and_parts (not (is_flow layout)) (header_is_clean layout word) kept.0 in
    let same : c ≡ head.command = ap (λ (h : Head). h.command) kept.1 in (
      same,
      record {
        no_flow = subst (λ (d : Command). is_flow (layout_of d) ≡ false) same (not-true (is_flow layout) parts.0);
        clean = subst (λ (d : Command). header_is_clean (layout_of d) word ≡ true) same parts.1;
        lng = ap (λ (h : Head). h.flits) kept.1;
      },
    )

named_says : (named : Option Command) (word : ℕ) (head : Head) → option_and_then (λ (c : Command). head_with (layout_of c) c word) named ≡ Some head → (named ≡ Some head.command) × Says word head
named_says None word head is = absurd cc
named_says (Some c) word head is =
    let said = head_with-says c word head is in
    (ap (λ (d : Command). Some d) said.0, said.1)

head_in-says : (bytes : List ℕ) (head : Head) → head_in bytes ≡ Some head → (command_in (header_in bytes) ≡ Some head.command) × Says (header_in bytes) head
unfolding head_in named_by
head_in-says bytes head is = named_says (command_in (header_in bytes)) (header_in bytes) head is

front-few : (bytes : List ℕ) (head : Head) → IsFront bytes head → (1 ≤ head.flits) × (head.flits ≤ 17)
front-few bytes head is =
    let said = head_in-says bytes head is.names in
    let names = command_in-Names (header_in bytes) head.command said.0 in
    allows_few head.command head.flits (subst (λ (n : ℕ). allows_of head.command n ≡ true) said.1.lng names.allowed)

-- ---- the bytes of the copy

no_flow-fits : (layout : Layout) (t : Tail) → is_flow layout ≡ false → tails.TailFits layout t
no_flow-fits layouts.Ask t no_flow = tt
no_flow-fits layouts.Reply t no_flow = tt
no_flow-fits layouts.Null t no_flow = absurd cc
no_flow-fits layouts.Pret t no_flow = absurd cc
no_flow-fits layouts.Tret t no_flow = absurd cc
no_flow-fits layouts.Irtry t no_flow = absurd cc

-- what a layout keeps of the tail makes the same packet
kept-packet : (layout : Layout) (c : Command) (h : Header) (t : Tail) (poisoned : Bool) (payload : List ℕ) → is_flow layout ≡ false → (layout ≡ layouts.Ask → t.errstat ≡ 0) →
    packet_from layout c h (tails.kept layout t) poisoned payload ≡ packet_from layout c h t poisoned payload
unfolding packet_from tails.kept
kept-packet layouts.Ask c h t poisoned payload no_flow none = λ i. record {
  command = c;
  tag = h.tag;
  address = h.address;
  cube = h.cube;
  slid = t.slid;
  flag = h.flag;
  errstat = sym (none refl) i;
  rtc = t.rtc;
  seq = t.seq;
  frp = t.frp;
  poisoned = poisoned;
  payload = payload;
}
kept-packet layouts.Reply c h t poisoned payload no_flow none = refl
kept-packet layouts.Null c h t poisoned payload no_flow none = absurd cc
kept-packet layouts.Pret c h t poisoned payload no_flow none = absurd cc
kept-packet layouts.Tret c h t poisoned payload no_flow none = absurd cc
kept-packet layouts.Irtry c h t poisoned payload no_flow none = absurd cc

-- the front with a tail and a check
abbrev with_end : List ℕ → (tail check : ℕ) → List ℕ
with_end bytes tail check = (take 8 bytes ++ (drop 8 bytes ++ half_bytes tail)) ++ half_bytes check

abbrev end_check : List ℕ → (tail : ℕ) → (good : Bool) → ℕ
end_check bytes tail good = check_from (not good) (crc_of (take 8 bytes ++ (drop 8 bytes ++ half_bytes tail)))

-- with a tail and its check the front is the bytes of the copy
copy-bytes : (profile : Profile) (bytes : List ℕ) (head : Head) (t : Tail) (good : Bool) → IsFront bytes head → IsTailAfter profile head.command t →
    let tail = tail_word profile (layout_of head.command) t in
    AreBytesOf profile (with_end bytes tail (end_check bytes tail good)) (record { packet = copied_packet head.command bytes t good; rrp = t.rrp })
unfolding copied_packet seen_in
copy-bytes profile bytes head t good is after =
    let c = head.command in
    let layout = layout_of c in
    let said = head_in-says bytes head is.names in
    let says = said.1 in
    let few = front-few bytes head is in
    let size = is.size in
    let tail = tail_word profile layout t in
    let covered : List ℕ = take 8 bytes ++ (drop 8 bytes ++ half_bytes tail) in
    let check = end_check bytes tail good in
    let all = with_end bytes tail check in
    let front-length : length (take 8 bytes) ≡ 8 = omega (arith, length-take 8 bytes) in
    let parts = joined-HasParts (take 8 bytes) (drop 8 bytes) (half_bytes tail) (half_bytes check) front-length (length-half_bytes tail) (length-half_bytes check) in
    let len = parts.len in
    let header : header_in all ≡ header_in bytes = ap word_of parts.front in
    let tail-is : tail_in all ≡ tail = ap half_of parts.end ∙ half_of-half_bytes tail (tails.tail_word-lt profile layout t after.fits) in
    let check-is : check_in all ≡ check = ap half_of parts.last ∙ half_of-half_bytes check (check_from-lt (not good) (crc_of covered) (crc_of-lt covered)) in
    let whole : IsWhole all = record {
      some = omega (arith, length-drop 8 bytes);
      size = let lng : bits_from 7 5 (header_in all) ≡ head.flits = ap (bits_from 7 5) header ∙ says.lng in omega (arith, length-drop 8 bytes);
      are_bytes =
          IsBytes-append covered (half_bytes check)
          (IsBytes-append (take 8 bytes) (drop 8 bytes ++ half_bytes tail) (IsBytes-take 8 bytes is.are_bytes)
          (IsBytes-append (drop 8 bytes) (half_bytes tail) (IsBytes-drop 8 bytes is.are_bytes) (IsBytes-half_bytes tail)))
          (IsBytes-half_bytes check);
    } in
    let passes : Passes profile all c (not good) = record {
      names = ap command_in header ∙ said.0;
      header = ap (header_is_clean layout) header ∙ says.clean;
      tail = ap (tail_is_clean profile layout) tail-is ∙ tails.tail_is_clean-word profile layout t after.fits (no_flow-fits layout t says.no_flow);
      check = (λ i. poison_in layout (check-is i) (crc_of (parts.covered i))) ∙ poison_in-check layout (not good) (crc_of covered) (crc_of-lt covered) (λ flow. let clash : true ≡ false = sym flow ∙ says.no_flow in absurd cc);
    } in
    let read : Seen = seen_in profile c (not good) all in
    let unpacked : tail_of profile layout (tail_in all) ≡ tails.kept layout t = ap (tail_of profile layout) tail-is ∙ tails.tail_of-word profile layout t after.fits in
    let same : read ≡ record { packet = copied_packet c bytes t good; rrp = t.rrp } =
    (λ i. record { packet = packet_from layout c (header_of layout (header i)) (unpacked i) (not good) (parts.middle i); rrp = (unpacked i).rrp })
    ∙ (λ i. record { packet = kept-packet layout c (header_of layout (header_in bytes)) t (not good) (drop 8 bytes) says.no_flow after.errstat i; rrp = kept-rrp layout t i }) in
    subst (λ (s : Seen). AreBytesOf profile all s) same (seen_in-AreBytesOf profile all c (not good) whole passes)

-- ---- the copy

-- it is a packet
pub copied-IsPacket : (profile : Profile) (bytes : List ℕ) (head : Head) (t : Tail) (good : Bool) → IsFront bytes head → IsTailAfter profile head.command t → IsPacket (copied_packet head.command bytes t good)
copied-IsPacket profile bytes head t good is after = (copy-bytes profile bytes head t good is after).packet

copied-payload : (c : Command) (bytes : List ℕ) (t : Tail) (good : Bool) → (copied_packet c bytes t good).payload ≡ drop 8 bytes
unfolding copied_packet packet_from
copied-payload c bytes t good = refl

copied-command : (c : Command) (bytes : List ℕ) (t : Tail) (good : Bool) → (copied_packet c bytes t good).command ≡ c
unfolding copied_packet packet_from
copied-command c bytes t good = refl

-- as long as the head says
pub copied-flits : (bytes : List ℕ) (head : Head) (t : Tail) (good : Bool) → IsFront bytes head → flits_of (copied_packet head.command bytes t good) ≡ head.flits
copied-flits bytes head t good is =
    let few = front-few bytes head is in
    let size = is.size in
    let long : length (drop 8 bytes) ≡ 16 * (head.flits - 1) = omega (arith, length-drop 8 bytes) in
    ap (λ (l : List ℕ). 1 + length l / 16) (copied-payload head.command bytes t good) ∙ ap (λ (n : ℕ). 1 + n / 16) long ∙ omega arith

with_end-front : (bytes : List ℕ) (tail check : ℕ) → take (length bytes) (with_end bytes tail check) ≡ bytes
with_end-front bytes tail check =
    let a = take 8 bytes in
    let b = drop 8 bytes in
    ap (take (length bytes))
    (append_assoc a (b ++ half_bytes tail) (half_bytes check) ∙ ap (λ (l : List ℕ). a ++ l) (append_assoc b (half_bytes tail) (half_bytes check))
    ∙ sym (append_assoc a b (half_bytes tail ++ half_bytes check)) ∙ ap (λ (l : List ℕ). l ++ (half_bytes tail ++ half_bytes check)) (take-append-drop 8 bytes))
    ∙ take_at bytes (half_bytes tail ++ half_bytes check) (length bytes) refl

-- with these bytes before its tail
pub copied-front : (profile : Profile) (bytes : List ℕ) (head : Head) (t : Tail) (good : Bool) → IsFront bytes head → IsTailAfter profile head.command t → front_bytes (copied_packet head.command bytes t good) ≡ bytes
copied-front profile bytes head t good is after =
    let q = copied_packet head.command bytes t good in
    let tail = tail_word profile (layout_of head.command) t in
    let few = front-few bytes head is in
    let size = is.size in
    let found = copy-bytes profile bytes head t good is after in
    let payload : length q.payload ≡ length bytes - 8 = ap length (copied-payload head.command bytes t good) ∙ length-drop 8 bytes in
    let long : length (front_bytes q) ≡ length bytes = length-front_bytes q ∙ omega arith in
    sym (take_all (length bytes) (front_bytes q) (omega (arith, long)))
    ∙ sym (bytes_of-before profile q t.rrp (length bytes) (omega arith))
    ∙ ap (take (length bytes)) (sym found.bytes_are)
    ∙ with_end-front bytes tail (end_check bytes tail good)

-- so its flits before the last are those that came
pub copied-flits_before : (profile : Profile) (flits : List (List ℕ)) (half : List ℕ) (head : Head) (t : Tail) (good : Bool) (rrp : ℕ) → AreFlits flits → length flits ≡ head.flits - 1 →
    IsFront (concat flits ++ half) head → IsTailAfter profile head.command t → take (head.flits - 1) (spelling profile (copied_packet head.command (concat flits ++ half) t good) rrp) ≡ flits
copied-flits_before profile flits half head t good rrp are count is after =
    let bytes = concat flits ++ half in
    let q = copied_packet head.command bytes t good in
    let k = head.flits - 1 in
    let said = head_in-says bytes head is.names in
    let same : k ≡ flits_of q - 1 = ap (λ (n : ℕ). n - 1) (sym (copied-flits bytes head t good is)) in
    let other : layout_of q.command ≢ layouts.Null = λ null. not_null (layout_of head.command) said.1.no_flow (ap layout_of (sym (copied-command head.command bytes t good)) ∙ null) in
    let long : length (concat flits) ≡ 16 * k = length-concat flits are ∙ ap (λ (n : ℕ). 16 * n) count in
    ap (λ (n : ℕ). take n (spelling profile q rrp)) same
    ∙ front-is profile q rrp (copied-IsPacket profile bytes head t good is after) other
    ∙ (λ i. cut (sym same i) (copied-front profile bytes head t good is after i))
    ∙ sym (cut-take k (16 * k) bytes (omega arith))
    ∙ ap (cut k) (take_at (concat flits) half (16 * k) long)
    ∙ ap (λ (n : ℕ). cut n (concat flits)) (sym count) ∙ cut-concat flits are

-- ---- of a packet that came whole

-- its flits before the last and the first half of the last are its bytes before the tail
pub flits-front : (profile : Profile) (p : PacketFields) (rrp : ℕ) → IsPacket p → is_flow (layout_of p.command) ≡ false →
    concat (take (flits_of p - 1) (spelling profile p rrp)) ++ take 8 (get_or (spelling profile p rrp) (flits_of p - 1) []) ≡ front_bytes p
flits-front profile p rrp is no_flow =
    let n = flits_of p in
    let k = n - 1 in
    let few = flits_of-few p is in
    let whole = is.payload.whole in
    let front = front_bytes p in
    let long : length front ≡ 8 + length p.payload = length-front_bytes p in
    let at : length p.payload ≡ 16 * k = omega arith in
    let other = not_null (layout_of p.command) no_flow in
    let before : concat (take k (spelling profile p rrp)) ≡ take (16 * k) front =
    ap concat (front-is profile p rrp is other ∙ sym (cut-take k (16 * k) front (omega arith))) ∙ concat-cut k (take (16 * k) front) (omega (arith, length-take (16 * k) front)) in
    let eight : length (take 8 (drop (length p.payload) front)) ≡ 8 = omega (arith, length-take 8 (drop (length p.payload) front), length-drop (length p.payload) front) in
    let last : take 8 (get_or (spelling profile p rrp) k []) ≡ take 8 (drop (16 * k) front) =
    ap (take 8) (sym (last-at profile p rrp is other)) ∙ take_at (take 8 (drop (length p.payload) front)) _ 8 eight ∙ ap (λ (m : ℕ). take 8 (drop m front)) at in
    (λ i. before i ++ last i) ∙ take-two (16 * k) 8 front ∙ take_all (16 * k + 8) front (omega arith)

-- the fields of a packet's own header and of another tail
same_packet : (layout : Layout) (p : PacketFields) (t : Tail) (poisoned : Bool) → IsLaidOut layout p → is_flow layout ≡ false → (layout ≡ layouts.Ask → t.slid ≡ p.slid) → t.errstat ≡ p.errstat →
    packet_from layout p.command (headers.kept layout (header_fields p)) t poisoned p.payload ≡ record p { frp = t.frp; seq = t.seq; rtc = t.rtc; poisoned = poisoned }
unfolding packet_from headers.kept
same_packet layouts.Ask p t poisoned is no_flow slid errstat =
    λ i. record p { flag = sym is.0 i; slid = slid refl i; errstat = errstat i; frp = t.frp; seq = t.seq; rtc = t.rtc; poisoned = poisoned }
same_packet layouts.Reply p t poisoned is no_flow slid errstat =
    λ i. record p { address = sym is i; errstat = errstat i; frp = t.frp; seq = t.seq; rtc = t.rtc; poisoned = poisoned }
same_packet layouts.Null p t poisoned is no_flow slid errstat = absurd cc
same_packet layouts.Pret p t poisoned is no_flow slid errstat = absurd cc
same_packet layouts.Tret p t poisoned is no_flow slid errstat = absurd cc
same_packet layouts.Irtry p t poisoned is no_flow slid errstat = absurd cc

-- its copy is the packet with other numbers
pub copied-same : (p : PacketFields) (t : Tail) (good : Bool) → IsPacket p → is_flow (layout_of p.command) ≡ false → (layout_of p.command ≡ layouts.Ask → t.slid ≡ p.slid) → t.errstat ≡ p.errstat →
    copied_packet p.command (front_bytes p) t good ≡ record p { frp = t.frp; seq = t.seq; rtc = t.rtc; poisoned = not good }
unfolding copied_packet front_bytes
copied-same p t good is no_flow slid errstat =
    let layout = layout_of p.command in
    let word = header_of_packet p in
    let fields = IsHeader-fields p is in
    let header : header_in (word_bytes word ++ p.payload) ≡ word =
    ap word_of (take_at (word_bytes word) p.payload 8 (length-word_bytes word)) ∙ word_of-word_bytes word (headers.header_word-lt layout (header_fields p) fields) in
    let unpacked : header_of layout (header_in (word_bytes word ++ p.payload)) ≡ headers.kept layout (header_fields p) =
    ap (header_of layout) header ∙ headers.header_of-word layout (header_fields p) fields in
    (λ i. packet_from layout p.command (unpacked i) t (not good) (drop_at (word_bytes word) p.payload 8 (length-word_bytes word) i))
    ∙ same_packet layout p t (not good) is.layout no_flow slid errstat
