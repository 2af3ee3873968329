-- The flits of a packet, made of eight bytes at a time.
use Rattle.std.proofs.Common.{◌≡◌, ◌≢◌, ◌∙◌, ◌≤◌, ◌<◌, ◌+◌, ◌-◌, ◌*◌, ℕ, zero, suc, List, [], ◌∷◌, ◌++◌, length, take, drop, get_or, refl, sym, ap, arith, append_assoc, length-append}
use Rattle.std.specs.Prelude.{if◌then◌else◌}
use Rattle.std.proofs.lemmas.List.{append-nil, drop_all, take_all, take_at, drop_at, drop-drop, drop-append-le, length-drop, get_or-take}
use borrow.Rule.Slice.PartMut.{put_mid}
use Rattle.hmc_codes.specs.declared.profile.Profile.{Profile}
use Rattle.hmc_codes.specs.Commands.{layout_of}
use Rattle.hmc_codes.specs.declared.layout.Layout.TheVariants as layouts
use Rattle.hmc_codes.specs.Flit.{zero_flit}
use Rattle.hmc_crc.specs.Remainder.{crc_of}
use Rattle.hmc_packet.specs.Packet.{PacketFields, IsPacket, flits_of}
use Rattle.hmc_packet.specs.Spelling.{inverse, word_bytes, half_bytes, check_of, covered, bytes_of, cut, spelling}
use Rattle.hmc_packet.specs.Draft.{header_of_packet, front_bytes, tail_of_packet, draft_of}
use Rattle.hmc_packet.specs.declared.draft.Draft.{Draft}
use Rattle.hmc_packet.proofs.PacketLemmas.{flits_of-few}
use Rattle.hmc_packet.proofs.PartLemmas.{length-word_bytes}
use Rattle.hmc_packet.proofs.SpelledLemmas.{length-bytes_of}
use Rattle.hmc_packet.proofs.FrontLemmas.{front-is}
use Rattle.hmc_packet.proofs.ReadOf.{null-null_packet, spelling-other, spelling-null}

-- ---- eight bytes at a time

-- the first eight bytes are the first of two lists
pub first_eight : (a b : List ℕ) (at : ℕ) → length a ≡ 8 → at ≡ 0 → take 8 (drop (8 * at) (a ++ b)) ≡ a
first_eight a b at long none = ap (λ (n : ℕ). take 8 (drop (8 * n) (a ++ b))) none ∙ take_at a b 8 long

-- the others are of the second
pub later_eight : (a b : List ℕ) (at : ℕ) → length a ≡ 8 → 1 ≤ at → take 8 (drop (8 * at) (a ++ b)) ≡ take 8 (drop (8 * (at - 1)) b)
later_eight a b at long some =
    let split : 8 * at ≡ 8 + 8 * (at - 1) = omega arith in
    ap (take 8) (ap (λ (n : ℕ). drop n (a ++ b)) split ∙ sym (drop-drop (8 * (at - 1)) 8 (a ++ b)) ∙ ap (drop (8 * (at - 1))) (drop_at a b 8 long))

take-none : (n : ℕ) → ◌≡◌ {A = List ℕ} (take n []) []
take-none zero = refl
take-none (suc n) = refl

pub take-two : (m n : ℕ) (l : List ℕ) → take m l ++ take n (drop m l) ≡ take (m + n) l
take-two zero n l = let e : zero + n ≡ n = omega arith in rw e refl
take-two (suc m) n [] = let e : suc m + n ≡ suc (m + n) = omega arith in rw e (take-none n)
take-two (suc m) n (x ∷ xs) = let e : suc m + n ≡ suc (m + n) = omega arith in rw e (ap (λ (l : List ℕ). x ∷ l) (take-two m n xs))

-- two times eight bytes are a flit
pub two_eights : (at : ℕ) (bytes : List ℕ) → take 8 (drop (8 * (2 * at)) bytes) ++ take 8 (drop (8 * (2 * at + 1)) bytes) ≡ take 16 (drop (16 * at) bytes)
two_eights at bytes =
    let first : 8 * (2 * at) ≡ 16 * at = omega arith in
    let second : 8 * (2 * at + 1) ≡ 16 * at + 8 = omega arith in
    (λ i. take 8 (drop (first i) bytes) ++ take 8 (drop (second i) bytes))
    ∙ ap (λ (l : List ℕ). take 8 (drop (16 * at) bytes) ++ take 8 l) (sym (drop-drop 8 (16 * at) bytes))
    ∙ take-two 8 8 (drop (16 * at) bytes)

-- what was written over the second half of a list
pub second_half : (n : ℕ) (a b zeros : List ℕ) → length a ≡ n → length zeros ≡ n → length b ≡ n → put_mid n n (a ++ zeros) b ≡ a ++ b
second_half n a b zeros long-a long-zeros long-b =
    let rest : drop n (drop n (a ++ zeros)) ≡ [] = ap (drop n) (drop_at a zeros n long-a) ∙ drop_all n zeros (omega (arith, long-zeros)) in
    (λ i. take_at a zeros n long-a i ++ (b ++ rest i)) ∙ ap (λ (l : List ℕ). a ++ l) (append-nil b)

-- ---- the flit at a place

pub cut-at : (n k : ℕ) (bytes : List ℕ) → k < n → get_or (cut n bytes) k [] ≡ take 16 (drop (16 * k) bytes)
unfolding cut
cut-at zero k bytes lt = absurd (omega arith)
cut-at (suc n) zero bytes lt = refl
cut-at (suc n) (suc k) bytes lt =
    let split : 16 + 16 * k ≡ 16 * suc k = omega arith in
    cut-at n k (drop 16 bytes) (omega arith) ∙ ap (take 16) (drop-drop (16 * k) 16 bytes ∙ ap (λ (m : ℕ). drop m bytes) split)

one_null : (p : PacketFields) → IsPacket p → layout_of p.command ≡ layouts.Null → flits_of p ≡ 1
one_null p is null = ap flits_of (null-null_packet p is null)

-- before the last it is of header and payload
pub front-at : (profile : Profile) (p : PacketFields) (rrp at : ℕ) → IsPacket p → at + 1 < flits_of p →
    take 16 (drop (16 * at) (front_bytes p)) ≡ get_or (spelling profile p rrp) at []
front-at profile p rrp at is lt =
    let k = flits_of p - 1 in
    let below : at < k = omega arith in
    let other : layout_of p.command ≢ layouts.Null = λ null. let one : flits_of p ≡ 1 = one_null p is null in absurd (omega arith) in
    sym (cut-at k at (front_bytes p) below)
    ∙ ap (λ (l : List (List ℕ)). get_or l at []) (sym (front-is profile p rrp is other))
    ∙ get_or-take k (spelling profile p rrp) at [] below

pub length-front_bytes : (p : PacketFields) → length (front_bytes p) ≡ 8 + length p.payload
unfolding front_bytes
length-front_bytes p = omega (arith, length-append (word_bytes (header_of_packet p)) p.payload, length-word_bytes (header_of_packet p))

pub covered-is : (profile : Profile) (p : PacketFields) (rrp : ℕ) → front_bytes p ++ tail_of_packet profile p rrp ≡ covered profile p rrp
unfolding covered front_bytes tail_of_packet
covered-is profile p rrp = append_assoc _ p.payload _

-- the last is eight more bytes of them, the tail and the check
pub last-at : (profile : Profile) (p : PacketFields) (rrp : ℕ) → IsPacket p → layout_of p.command ≢ layouts.Null →
    take 8 (drop (length p.payload) (front_bytes p)) ++ (tail_of_packet profile p rrp ++ half_bytes (check_of p.poisoned (covered profile p rrp)))
    ≡ get_or (spelling profile p rrp) (flits_of p - 1) []
unfolding bytes_of
last-at profile p rrp is other =
    let n = flits_of p in
    let k = n - 1 in
    let few = flits_of-few p is in
    let whole = is.payload.whole in
    let at : 16 * k ≡ length p.payload = omega arith in
    let front = front_bytes p in
    let end = tail_of_packet profile p rrp ++ half_bytes (check_of p.poisoned (covered profile p rrp)) in
    let size : length front ≡ 8 + length p.payload = length-front_bytes p in
    let split : bytes_of profile p rrp ≡ front ++ end = ap (λ (l : List ℕ). l ++ half_bytes (check_of p.poisoned (covered profile p rrp))) (sym (covered-is profile p rrp)) ∙ append_assoc front (tail_of_packet profile p rrp) (half_bytes (check_of p.poisoned (covered profile p rrp))) in
    let eight : take 8 (drop (length p.payload) front) ≡ drop (length p.payload) front = take_all 8 (drop (length p.payload) front) (omega (arith, length-drop (length p.payload) front)) in
    let rest : drop (16 * k) (bytes_of profile p rrp) ≡ drop (length p.payload) front ++ end =
    (λ i. drop (at i) (split i)) ∙ drop-append-le (length p.payload) front end (omega arith) in
    ap (λ (l : List ℕ). l ++ end) eight
    ∙ sym rest
    ∙ sym (take_all 16 (drop (16 * k) (bytes_of profile p rrp)) (omega (arith, length-drop (16 * k) (bytes_of profile p rrp), length-bytes_of profile p rrp is)))
    ∙ sym (cut-at n k (bytes_of profile p rrp) (omega arith))
    ∙ ap (λ (l : List (List ℕ)). get_or l k []) (sym (spelling-other profile p rrp other))

-- a NULL's is all zero
pub null-at : (profile : Profile) (p : PacketFields) (rrp : ℕ) → IsPacket p → layout_of p.command ≡ layouts.Null → zero_flit ≡ get_or (spelling profile p rrp) (flits_of p - 1) []
null-at profile p rrp is null =
    let nothing = null-null_packet p is null in
    ap (λ (l : List (List ℕ)). get_or l 0 []) (sym (spelling-null profile rrp))
    ∙ ap (λ (q : PacketFields). get_or (spelling profile q rrp) (flits_of q - 1) []) (sym nothing)

-- ---- the draft of a packet

-- its word and the payload are the bytes before the tail
pub front_from : (d : Draft) (p : PacketFields) (payload : List ℕ) → d ≡ draft_of p → payload ≡ p.payload → word_bytes d.header ++ payload ≡ front_bytes p
unfolding draft_of front_bytes
front_from d p payload drafted same = λ i. word_bytes (drafted i).header ++ same i

-- its check is theirs
pub check_from_draft : (d : Draft) (p : PacketFields) → d ≡ draft_of p → d.check ≡ crc_of (front_bytes p)
unfolding draft_of
check_from_draft d p drafted = ap (λ (e : Draft). e.check) drafted

-- carried on over the tail it is the one that the packet carries
pub check-is : (profile : Profile) (p : PacketFields) (rrp right : ℕ) (tail : List ℕ) → tail ≡ tail_of_packet profile p rrp → right ≡ crc_of (front_bytes p ++ tail) →
    (if p.poisoned then inverse right else right) ≡ check_of p.poisoned (covered profile p rrp)
unfolding check_of
check-is profile p rrp right tail same is =
    ap (λ (n : ℕ). if p.poisoned then inverse n else n) (is ∙ ap (λ (l : List ℕ). crc_of (front_bytes p ++ l)) same ∙ ap crc_of (covered-is profile p rrp))
