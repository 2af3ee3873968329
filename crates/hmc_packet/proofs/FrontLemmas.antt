-- The flits before the last, and what the first one tells.
use Rattle.std.proofs.Common.{◌≡◌, ◌≢◌, ◌∙◌, ◌≤◌, ◌+◌, ◌-◌, ◌*◌, ◌/◌, ◌^◌, inl, inr, ℕ, zero, suc, Bool, true, false, cond, Option, Some, None, List, [], ◌∷◌, ◌++◌, length, take, drop, refl, sym, ap, arith, append_assoc, length-append}
use Rattle.std.specs.Prelude.{◌&&◌, not, option_and_then}
use Rattle.std.proofs.lemmas.Bool.{and_from}
use Rattle.std.proofs.lemmas.List.{take-take, take-append-le, drop-take}
use Rattle.hmc_codes.specs.declared.profile.Profile.{Profile}
use Rattle.hmc_codes.specs.Commands.{code_of, layout_of, is_flow}
use Rattle.hmc_codes.specs.declared.layout.Layout.{Layout}
use Rattle.hmc_codes.specs.declared.layout.Layout.TheVariants as layouts
use Rattle.hmc_codes.specs.declared.command.Command.{Command}
use Rattle.hmc_packet.specs.declared.header.Header.{Header}
use Rattle.hmc_packet.specs.declared.head.Head.{Head}
use Rattle.hmc_packet.specs.Bits.{bits_from, bit}
use Rattle.hmc_packet.specs.Header.{header_word, header_of, header_is_clean}
use Rattle.hmc_packet.specs.Packet.{PacketFields, IsPacket, flits_of, null_packet}
use Rattle.hmc_packet.specs.Draft.{front_bytes}
use Rattle.hmc_packet.specs.Spelling.{FitsProfile, header_fields, word_bytes, covered, bytes_of, cut, spelling}
use Rattle.hmc_packet.specs.Parts.{header_in}
use Rattle.hmc_packet.specs.Head.{head_with, head_in, head_slid, packet_head, SameHead}
use Rattle.hmc_packet.proofs.HeaderLemmas as headers
use Rattle.hmc_packet.proofs.PacketLemmas.{flits_of-few, IsHeader-fields}
use Rattle.hmc_packet.proofs.PartLemmas.{length-word_bytes}
use Rattle.hmc_packet.proofs.SpelledLemmas.{header_in-bytes_of, flow_header}
use Rattle.hmc_packet.proofs.ReadOf.{null_or_other, null-null_packet, spelling-other}
use Rattle.hmc_packet.proofs.LinkLemmas.{named_by-first, header_in-first}

-- ---- the flits before the last

take-cut : (n k : ℕ) (bytes : List ℕ) → k ≤ n → take k (cut n bytes) ≡ cut k bytes
unfolding cut
take-cut n zero bytes le = refl
take-cut zero (suc k) bytes le = absurd (omega arith)
take-cut (suc n) (suc k) bytes le = ap (λ (l : List (List ℕ)). take 16 bytes ∷ l) (take-cut n k (drop 16 bytes) (omega arith))

-- flits are cut from the front of the bytes
pub cut-take : (k m : ℕ) (bytes : List ℕ) → 16 * k ≤ m → cut k (take m bytes) ≡ cut k bytes
unfolding cut
cut-take zero m bytes le = refl
cut-take (suc k) m bytes le =
    let first : take 16 (take m bytes) ≡ take 16 bytes = take-take 16 m bytes (omega arith) in
    let later : drop 16 (take m bytes) ≡ take (m - 16) (drop 16 bytes) = ap (λ (n : ℕ). drop 16 (take n bytes)) (omega arith) ∙ drop-take 16 (m - 16) bytes in
    λ i. first i ∷ (ap (cut k) later ∙ cut-take k (m - 16) (drop 16 bytes) (omega arith)) i

front_of_joined : (m : ℕ) (a p b c : List ℕ) → m ≤ length (a ++ p) → take m ((a ++ (p ++ b)) ++ c) ≡ take m (a ++ p)
front_of_joined m a p b c le =
    ap (take m) (append_assoc a (p ++ b) c ∙ ap (λ (l : List ℕ). a ++ l) (append_assoc p b c) ∙ sym (append_assoc a p (b ++ c))) ∙ take-append-le m (a ++ p) (b ++ c) le

pub bytes_of-before : (profile : Profile) → (p : PacketFields) (rrp m : ℕ) → m ≤ 8 + length p.payload → take m (bytes_of profile p rrp) ≡ take m (front_bytes p)
unfolding bytes_of covered front_bytes
bytes_of-before profile p rrp m le =
    front_of_joined m (word_bytes (header_word (layout_of p.command) (header_fields p))) p.payload _ _
    (omega (arith, length-append (word_bytes (header_word (layout_of p.command) (header_fields p))) p.payload, length-word_bytes (header_word (layout_of p.command) (header_fields p))))

header_word-same : (layout : Layout) (g h : Header) → g.code ≡ h.code → g.flits ≡ h.flits → g.tag ≡ h.tag → g.address ≡ h.address → g.flag ≡ h.flag → (layout ≡ layouts.Reply → g.slid ≡ h.slid) → g.cube ≡ h.cube → header_word layout g ≡ header_word layout h
unfolding header_word
header_word-same layouts.Reply g h code flits tag address flag slid cube = λ i. code i + flits i * 2 ^ 7 + tag i * 2 ^ 12 + bit (flag i) * 2 ^ 33 + slid refl i * 2 ^ 39 + cube i * 2 ^ 61
header_word-same _ g h code flits tag address flag slid cube = λ i. code i + flits i * 2 ^ 7 + tag i * 2 ^ 12 + address i * 2 ^ 24 + cube i * 2 ^ 61

before-same : (p q : PacketFields) → SameHead p q → front_bytes p ≡ front_bytes q
unfolding front_bytes
before-same p q same =
    let words : header_word (layout_of p.command) (header_fields p) ≡ header_word (layout_of p.command) (header_fields q) =
    header_word-same (layout_of p.command) (header_fields p) (header_fields q) (ap code_of same.command) (ap (λ (l : List ℕ). 1 + length l / 16) same.payload) same.tag same.address same.flag same.slid same.cube in
    λ i. word_bytes ((words ∙ ap (λ (c : Command). header_word (layout_of c) (header_fields q)) same.command) i) ++ same.payload i

pub front-is : (profile : Profile) → (p : PacketFields) (rrp : ℕ) → IsPacket p → layout_of p.command ≢ layouts.Null → take (flits_of p - 1) (spelling profile p rrp) ≡ cut (flits_of p - 1) (front_bytes p)
front-is profile p rrp is other =
    let n = flits_of p in
    let k = n - 1 in
    let few = flits_of-few p is in
    let fits : 16 * k ≤ 8 + length p.payload = omega arith in
    ap (take k) (spelling-other profile p rrp other) ∙ take-cut n k (bytes_of profile p rrp) (omega arith) ∙ sym (cut-take k (16 * k) (bytes_of profile p rrp) (omega arith))
    ∙ ap (cut k) (bytes_of-before profile p rrp (16 * k) fits) ∙ cut-take k (16 * k) (front_bytes p) (omega arith)

none_before : (profile : Profile) → (p : PacketFields) (rrp : ℕ) → p ≡ null_packet → take (flits_of p - 1) (spelling profile p rrp) ≡ []
none_before profile p rrp is = ap (λ (q : PacketFields). take (flits_of q - 1) (spelling profile q rrp)) is

-- they don't depend on tail and check
pub front-same : (profile : Profile) → (p q : PacketFields) (r s : ℕ) → IsPacket p → IsPacket q → SameHead p q → take (flits_of p - 1) (spelling profile p r) ≡ take (flits_of q - 1) (spelling profile q s)
front-same profile p q r s is-p is-q same =
    let layouts-same : layout_of p.command ≡ layout_of q.command = ap layout_of same.command in
    elim (null_or_other (layout_of p.command)) [
      | inl null ↦ none_before profile p r (null-null_packet p is-p null) ∙ sym (none_before profile q s (null-null_packet q is-q (sym layouts-same ∙ null)))
      | inr other ↦
          front-is profile p r is-p other
          ∙ (λ i. cut (1 + length (same.payload i) / 16 - 1) (before-same p q same i))
          ∙ sym (front-is profile q s is-q (λ null. other (layouts-same ∙ null)))
    ]

pub SameHead-refl : (p : PacketFields) → SameHead p p
SameHead-refl p = record { command = refl; tag = refl; address = refl; cube = refl; flag = refl; slid = λ is. refl; payload = refl }

-- ---- the head of a packet

kept-cube : (layout : Layout) (h : Header) → (headers.kept layout h).cube ≡ h.cube
unfolding headers.kept
kept-cube layouts.Reply h = refl
kept-cube _ h = refl

kept-slid : (layout : Layout) (h : Header) → (headers.kept layout h).slid ≡ head_slid layout h.slid
unfolding headers.kept
kept-slid layouts.Reply h = refl
kept-slid _ h = refl

pub not_null : (layout : Layout) → is_flow layout ≡ false → layout ≢ layouts.Null
not_null layout no_flow null = let clash : true ≡ false = ap is_flow (sym null) ∙ no_flow in absurd cc

-- a request's or response's first flit tells its head
pub head_in-first : (profile : Profile) → (p : PacketFields) (rrp : ℕ) (first : List ℕ) (rest : List (List ℕ)) → IsPacket p → FitsProfile profile p rrp → is_flow (layout_of p.command) ≡ false → spelling profile p rrp ≡ first ∷ rest → head_in first ≡ Some (packet_head p)
unfolding head_in head_with
head_in-first profile p rrp first rest is pointer no_flow spelled =
    let layout = layout_of p.command in
    let other = not_null layout no_flow in
    let fields = IsHeader-fields p is in
    let word : header_in first ≡ header_word layout (header_fields p) = header_in-first profile p rrp first rest is other spelled ∙ header_in-bytes_of profile p rrp is in
    let clean : header_is_clean layout (header_in first) ≡ true = ap (header_is_clean layout) word ∙ headers.header_is_clean-word layout (header_fields p) fields (flow_header layout p is.layout) in
    let unpacked : header_of layout (header_in first) ≡ headers.kept layout (header_fields p) = ap (header_of layout) word ∙ headers.header_of-word layout (header_fields p) fields in
    let flits : bits_from 7 5 (header_in first) ≡ flits_of p = ap (bits_from 7 5) word ∙ headers.flits-word layout (header_fields p) fields in
    let cube : (header_of layout (header_in first)).cube ≡ p.cube = ap (λ (h : Header). h.cube) unpacked ∙ kept-cube layout (header_fields p) in
    let slid : (header_of layout (header_in first)).slid ≡ head_slid layout p.slid = ap (λ (h : Header). h.slid) unpacked ∙ kept-slid layout (header_fields p) in
    let found : head_in first ≡ head_with layout p.command (header_in first) = ap (λ (o : Option Command). option_and_then (λ command. head_with (layout_of command) command (header_in first)) o) (named_by-first profile p rrp first rest is pointer other spelled) in
    let told : Option Head = Some (record { command = p.command; flits = bits_from 7 5 (header_in first); cube = (header_of layout (header_in first)).cube; slid = (header_of layout (header_in first)).slid }) in
    let tested : (not (is_flow layout) && header_is_clean layout (header_in first)) ≡ true = and_from _ _ (ap not no_flow) clean in
    found ∙ ap (λ (b : Bool). cond b told None) tested ∙ (λ i. Some (record { command = p.command; flits = flits i; cube = cube i; slid = slid i }))
