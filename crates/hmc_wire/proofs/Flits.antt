-- What is sent is a flit of 16 bytes, whatever is sent, and stays one under a mask. Used by Senders,
-- Choices, Ways and Links.
use Rattle.std.proofs.Common.{◌≡◌, ◌∙◌, ◌<◌, ◌*◌, ℕ, zero, suc, List, [], ◌∷◌, ◌++◌, length, get_or, drop, Some, refl, sym, ap, subst, arith}
use Rattle.std.specs.Prelude.{slice_get, replicate}
use Rattle.std.proofs.lemmas.List.{length-take, length-drop}
use Rattle.std.proofs.lemmas.Nat.{xor_of_8}
use Rattle.hmc_codes.specs.Bytes.{IsBytes}
use Rattle.hmc_codes.specs.Commands.{layout_of}
use Rattle.hmc_codes.specs.Flit.{zero_flit, IsFlit}
use Rattle.hmc_codes.specs.declared.layout.Layout.{Layout}
use Rattle.hmc_codes.specs.declared.layout.Layout.TheVariants as layouts
use Rattle.hmc_codes.specs.declared.profile.Profile.{Profile}
use Rattle.hmc_codes.proofs.BytesLemmas.{IsBytes-append, IsBytes-take, IsBytes-drop, IsBytes-zeros}
use Rattle.hmc_packet.specs.declared.kind.Kind.{Kind}
use Rattle.hmc_packet.specs.Irtry.{irtry_flit, irtry_packet}
use Rattle.hmc_packet.specs.Packet.{PacketFields, IsPacket, flits_of, null_packet}
use Rattle.hmc_packet.specs.Spelling.{bytes_of, covered, cut, training_flit, word_bytes}
use Rattle.hmc_packet.proofs.AloneLemmas.{IsPacket-irtry_packet}
use Rattle.hmc_packet.proofs.DraftLemmas.{cut-at}
use Rattle.hmc_packet.proofs.PacketLemmas.{IsPacket-pret}
use Rattle.hmc_packet.proofs.PartLemmas.{IsBytes-half_bytes}
use Rattle.hmc_packet.proofs.ReadOf.{null-null_packet, spelling-null, spelling-other}
use Rattle.hmc_packet.proofs.SpelledLemmas.{length-bytes_of}
use Rattle.hmc_packet.specs.Masks.{under_mask}
use Rattle.hmc_send.specs.LinkLines.{StampedFlit}
use Rattle.hmc_send.specs.Places.{flit_of, pret_packet}

-- each of these has a flit
abbrev pub AreFlits : List StampedFlit → Type 0
AreFlits [] = Unit {0}
AreFlits (x ∷ xs) = IsFlit x.flit × AreFlits xs

pub flits-push : (l : List StampedFlit) (x : StampedFlit) → AreFlits l → IsFlit x.flit → AreFlits (l ++ x ∷ [])
flits-push [] x all is = (is, tt)
flits-push (y ∷ l) x all is = (all.0, flits-push l x all.1 is)

-- so has each that is left
pub flits-left : (l : List StampedFlit) (k n : ℕ) (x : StampedFlit) → AreFlits l → slice_get (drop k l) n ≡ Some x → IsFlit x.flit
flits-left [] zero n x all e = absurd cc
flits-left [] (suc k) n x all e = absurd cc
flits-left (y ∷ l) zero zero x all e = let same : y ≡ x = cc in subst (λ (z : StampedFlit). IsFlit z.flit) same all.0
flits-left (y ∷ l) zero (suc n) x all e = flits-left l zero n x all.1 e
flits-left (y ∷ l) (suc k) n x all e = flits-left l k n x all.1 e

-- Flits of a packet

IsBytes-word_bytes : (word : ℕ) → IsBytes (word_bytes word)
unfolding word_bytes
IsBytes-word_bytes word zero = omega arith
IsBytes-word_bytes word (suc zero) = omega arith
IsBytes-word_bytes word (suc (suc zero)) = omega arith
IsBytes-word_bytes word (suc (suc (suc zero))) = omega arith
IsBytes-word_bytes word (suc (suc (suc (suc zero)))) = omega arith
IsBytes-word_bytes word (suc (suc (suc (suc (suc zero))))) = omega arith
IsBytes-word_bytes word (suc (suc (suc (suc (suc (suc zero)))))) = omega arith
IsBytes-word_bytes word (suc (suc (suc (suc (suc (suc (suc zero))))))) = omega arith
IsBytes-word_bytes word (suc (suc (suc (suc (suc (suc (suc (suc k)))))))) = omega arith

IsBytes-bytes_of : (q : Profile) (p : PacketFields) (rrp : ℕ) → IsBytes p.payload → IsBytes (bytes_of q p rrp)
unfolding bytes_of covered
IsBytes-bytes_of q p rrp payload =
    IsBytes-append (covered q p rrp) _ (IsBytes-append (word_bytes _) _ (IsBytes-word_bytes _) (IsBytes-append p.payload _ payload (IsBytes-half_bytes _))) (IsBytes-half_bytes _)

-- one of so many flits into which bytes are cut
cut-flit : (n k : ℕ) (bytes : List ℕ) → length bytes ≡ 16 * n → IsBytes bytes → k < n → IsFlit (get_or (cut n bytes) k [])
cut-flit n k bytes long are lt =
    let a = length-drop (16 * k) bytes in
    let b = length-take 16 (drop (16 * k) bytes) in
    subst IsFlit (sym (cut-at n k bytes lt)) (record { bytes = IsBytes-take 16 _ (IsBytes-drop (16 * k) bytes are); long = omega arith })

pub null-flit : IsFlit zero_flit
unfolding zero_flit
null-flit = record { bytes = IsBytes-zeros 16; long = refl }

null-first : (q : Profile) (rrp k : ℕ) → k < 1 → IsFlit (flit_of q null_packet rrp k)
unfolding flit_of
null-first q rrp zero lt = subst (λ (l : List (List ℕ)). IsFlit (get_or l 0 [])) (sym (spelling-null q rrp)) null-flit
null-first q rrp (suc k) lt = absurd (omega arith)

by_layout : (q : Profile) (p : PacketFields) (rrp k : ℕ) (l : Layout) → layout_of p.command ≡ l → IsPacket p → k < flits_of p → IsFlit (flit_of q p rrp k)
unfolding flit_of
by_layout q p rrp k layouts.Null e is lt =
    let same = null-null_packet p is e in
    let one : flits_of p ≡ 1 = ap flits_of same in
    subst (λ (x : PacketFields). IsFlit (flit_of q x rrp k)) (sym same) (null-first q rrp k (omega arith))
by_layout q p rrp k l e is lt =
    subst (λ (fs : List (List ℕ)). IsFlit (get_or fs k [])) (sym (spelling-other q p rrp (λ z. let clash : l ≡ layouts.Null = sym e ∙ z in cc)))
    (cut-flit (flits_of p) k (bytes_of q p rrp) (length-bytes_of q p rrp is) (IsBytes-bytes_of q p rrp is.payload.bytes) lt)

-- each flit of a packet
pub packet-flit : (q : Profile) (p : PacketFields) (rrp k : ℕ) → IsPacket p → k < flits_of p → IsFlit (flit_of q p rrp k)
packet-flit q p rrp k is lt = by_layout q p rrp k (layout_of p.command) refl is lt

-- its first one
pub first-flit : (q : Profile) (p : PacketFields) (rrp : ℕ) → IsPacket p → IsFlit (flit_of q p rrp 0)
first-flit q p rrp is = packet-flit q p rrp 0 is (omega arith)

-- Flits that are no part of a packet that is handed

pub irtry-flit : (q : Profile) (kind : Kind) (rrp : ℕ) → IsFlit (irtry_flit q kind rrp)
unfolding irtry_flit flit_of
irtry-flit q kind rrp = first-flit q (irtry_packet kind) rrp (IsPacket-irtry_packet kind)

pub pret-flit : (q : Profile) (rrp : ℕ) → IsFlit (flit_of q pret_packet rrp 0)
pret-flit q rrp = first-flit q pret_packet rrp IsPacket-pret

IsBytes-same : (n : ℕ) → IsBytes (replicate n 0x5a)
IsBytes-same zero k = omega arith
IsBytes-same (suc n) zero = omega arith
IsBytes-same (suc n) (suc k) = IsBytes-same n k

pub training-is_flit : IsFlit training_flit
unfolding training_flit
training-is_flit = record { bytes = IsBytes-same 16; long = refl }

-- Flits under a mask

masked-long : (mask flit : List ℕ) → length mask ≡ length flit → length (under_mask mask flit) ≡ length flit
masked-long [] [] e = refl
masked-long [] (y ∷ flit) e = absurd (omega arith)
masked-long (x ∷ mask) [] e = absurd (omega arith)
masked-long (x ∷ mask) (y ∷ flit) e = ap suc (masked-long mask flit (omega arith))

IsBytes-masked : (mask flit : List ℕ) → IsBytes mask → IsBytes flit → IsBytes (under_mask mask flit)
IsBytes-masked [] flit m f k = omega arith
IsBytes-masked (x ∷ mask) [] m f k = omega arith
IsBytes-masked (x ∷ mask) (y ∷ flit) m f zero = xor_of_8 x y (m 0) (f 0)
IsBytes-masked (x ∷ mask) (y ∷ flit) m f (suc k) = IsBytes-masked mask flit (λ j. m (suc j)) (λ j. f (suc j)) k

pub masked-flit : (mask flit : List ℕ) → length mask ≡ 16 → IsBytes mask → IsFlit flit → IsFlit (under_mask mask flit)
masked-flit mask flit long bytes is =
    record { bytes = IsBytes-masked mask flit bytes is.bytes; long = masked-long mask flit (long ∙ sym is.long) ∙ is.long }
