-- What every buffer keeps, through each call.
use Rattle.std.proofs.Common.{◌≡◌, ◌≤◌, ◌<◌, ◌+◌, ◌-◌, ◌%◌, ◌∙◌, ◌⊎◌, inl, inr, ℕ, zero, suc, Bool, true, false, ◌==◌, if◌then◌else◌, Some, List, [], ◌∷◌, ◌++◌, length, take, drop, get_or, refl, sym, ap, ap₂, subst, arith, length-append, length-drop, take-append-drop, eqb-true}
use Rattle.std.proofs.lemmas.List.{take-append-le, get_or-drop, drop-take, take_all}
use Rattle.std.proofs.lemmas.List.Sums.{sum_by-cons, sum_by-append, sum_by_push}
use Rattle.std.specs.List.{position}
use Rattle.std.proofs.lemmas.List.Quantifiers.{position-Some}
use Rattle.std.proofs.Math.ListN.{get_or-append}
use Rattle.std.proofs.Math.Seq.{get_or-append_seam}
use Rattle.hmc_codes.proofs.General.{mod_again, mod_small}
use Rattle.hmc_codes.specs.Profile.{modulus_of, most_retry}
use Rattle.hmc_codes.specs.declared.profile.Profile.{Profile}
use Rattle.hmc_codes.specs.declared.profile.Profile.TheVariants.{One, Two}
use Rattle.hmc_packet.specs.Packet.{PacketFields, flits_of, null_packet}
use Rattle.hmc_retry.specs.RetryBuffer.{RetryFields, flits_in, pointer_after, room_of, next_pointer, after_put, after_acknowledge, packet_at, IsRetryBuffer, IsKept}

-- each packet has a flit
pub length-flits : (packets : List PacketFields) → length packets ≤ flits_in packets
length-flits [] = omega arith
length-flits (packet ∷ rest) = omega (arith, sum_by-cons flits_of packet rest, length-flits rest)

-- a kept packet has the pointer of the flits up to and including it
abbrev pub HasPointer : (modulus base : ℕ) → List PacketFields → ℕ → Type 0
HasPointer modulus base kept place = (packet_at kept place).frp ≡ (base + flits_in (take (suc place) kept)) % modulus

pointer-push : (modulus base : ℕ) (kept : List PacketFields) (packet : PacketFields) → packet.frp ≡ (base + (flits_in kept + flits_of packet)) % modulus
    → ((place : ℕ) → place < length kept → HasPointer modulus base kept place) → (place : ℕ) → (place < length kept) ⊎ (place ≡ length kept) → HasPointer modulus base (kept ++ packet ∷ []) place
pointer-push modulus base kept packet next before place (inl inside) =
    ap (λ (p : PacketFields). p.frp) (get_or-append kept (packet ∷ []) null_packet place inside) ∙ before place inside
    ∙ ap (λ (l : List PacketFields). (base + flits_in l) % modulus) (sym (take-append-le (suc place) kept (packet ∷ []) (omega arith)))
pointer-push modulus base kept packet next before place (inr at_end) =
    let whole : take (suc place) (kept ++ packet ∷ []) ≡ kept ++ packet ∷ [] = take_all (suc place) (kept ++ packet ∷ []) (omega (arith, length-append kept (packet ∷ []))) in
    ap (λ (n : ℕ). (get_or (kept ++ packet ∷ []) n null_packet).frp) at_end
    ∙ ap (λ (p : PacketFields). p.frp) (get_or-append_seam kept packet [] null_packet)
    ∙ next ∙ ap (λ (n : ℕ). (base + n) % modulus) (sym (sum_by_push flits_of kept packet))
    ∙ ap (λ (l : List PacketFields). (base + flits_in l) % modulus) (sym whole)

-- the flits of the first packets, and of those after them
flits-split : (count : ℕ) (kept : List PacketFields) → flits_in (take count kept) + flits_in (drop count kept) ≡ flits_in kept
flits-split count kept = sym (sum_by-append flits_of (take count kept) (drop count kept)) ∙ ap flits_in (take-append-drop count kept)

flits-more : (count more : ℕ) (kept : List PacketFields) → flits_in (take (count + more) kept) ≡ flits_in (take count kept) + flits_in (take more (drop count kept))
flits-more count more kept =
    sym (flits-split count (take (count + more) kept))
    ∙ ap₂ (λ (a b : List PacketFields). flits_in a + flits_in b) (take_of_take count more kept) (drop-take count more kept)
  where
    take_of_take : (count more : ℕ) (kept : List PacketFields) → take count (take (count + more) kept) ≡ take count kept
    take_of_take zero more kept = refl
    take_of_take (suc count) more [] = let e : suc count + more ≡ suc (count + more) = omega arith in rw e refl
    take_of_take (suc count) more (packet ∷ kept) = let e : suc count + more ≡ suc (count + more) = omega arith in rw e (ap (λ (l : List PacketFields). packet ∷ l) (take_of_take count more kept))

pointer-drop : (profile : Profile) (base count : ℕ) (kept : List PacketFields) → ((place : ℕ) → place < length kept → HasPointer (modulus_of profile) base kept place)
    → (place : ℕ) → place < length (drop count kept) → HasPointer (modulus_of profile) ((base + flits_in (take count kept)) % modulus_of profile) (drop count kept) place
pointer-drop profile base count kept before place inside =
    let e : suc (count + place) ≡ count + suc place = omega arith in
    ap (λ (p : PacketFields). p.frp) (get_or-drop count kept place null_packet)
    ∙ before (count + place) (omega (arith, length-drop count kept))
    ∙ ap (λ (n : ℕ). (base + flits_in (take n kept)) % modulus_of profile) e
    ∙ ap (λ (n : ℕ). (base + n) % modulus_of profile) (flits-more count (suc place) kept)
    ∙ ap (λ (n : ℕ). n % modulus_of profile) (omega arith)
    ∙ sym (mod_again profile (base + flits_in (take count kept)) (flits_in (take (suc place) (drop count kept))))

-- the flits between two pointers
pub flits_between : (profile : Profile) (base flits pointer : ℕ) → base < modulus_of profile → flits ≤ most_retry profile → pointer ≡ (base + flits) % modulus_of profile
    → (pointer + modulus_of profile - base) % modulus_of profile ≡ flits
flits_between One base flits pointer small few is = omega arith
flits_between Two base flits pointer small few is = omega arith

pub most_small : (profile : Profile) → most_retry profile ≤ 1024
most_small One = omega arith
most_small Two = omega arith

-- there is a place for each kept packet, and for one more whose flits have room
pub few_kept : (buffer : RetryFields) → IsRetryBuffer buffer → length buffer.kept ≤ buffer.flits
few_kept buffer is = omega (arith, length-flits buffer.kept, is.within)

pub room_for_packet : (buffer : RetryFields) (packet : PacketFields) (used capacity : ℕ) → IsKept buffer used capacity → flits_of packet ≤ room_of buffer → length buffer.kept < capacity
room_for_packet buffer packet used capacity is room = omega (arith, length-flits buffer.kept, is.is_buffer.within, is.reserves)

-- a packet is kept
position_within : (place end : ℕ) → place ≤ end → (if place == end then suc place else place) ≤ suc end
position_within place end within = by_test (place == end)
  where
    by_test : (at_end : Bool) → (if at_end then suc place else place) ≤ suc end
    by_test true = omega arith
    by_test false = omega arith

pub IsRetryBuffer-put : (packet : PacketFields) (buffer : RetryFields) → IsRetryBuffer buffer → flits_of packet ≤ room_of buffer → packet.frp ≡ next_pointer buffer (flits_of packet) → IsRetryBuffer (after_put packet buffer)
IsRetryBuffer-put packet buffer is room next = record {
  least = is.least;
  most = is.most;
  base = is.base;
  within = omega (arith, sum_by_push flits_of buffer.kept packet, is.within);
  position = let one : length (buffer.kept ++ packet ∷ []) ≡ suc (length buffer.kept) = length-append buffer.kept (packet ∷ []) ∙ omega arith in
      omega (arith, position_within buffer.position (length buffer.kept) is.position);
  pointers = λ place inside.
      pointer-push (modulus_of buffer.profile) buffer.base buffer.kept packet next is.pointers place
      (in_or_end place (length buffer.kept) (omega (arith, length-append buffer.kept (packet ∷ []))));
}
  where
    in_or_end : (place end : ℕ) → place ≤ end → (place < end) ⊎ (place ≡ end)
    in_or_end place end within = grind arith

-- the front is dropped
pub IsRetryBuffer-dropped : (buffer : RetryFields) (count rrp : ℕ) → IsRetryBuffer buffer → count ≤ length buffer.kept → rrp ≡ pointer_after buffer (flits_in (take count buffer.kept))
    → IsRetryBuffer (after_acknowledge rrp (Some count) buffer)
IsRetryBuffer-dropped buffer count rrp is there pointer = record {
  least = is.least;
  most = is.most;
  base = let small : (buffer.base + flits_in (take count buffer.kept)) % modulus_of buffer.profile < modulus_of buffer.profile = mod_small buffer.profile _ in omega arith;
  within = omega (arith, flits-split count buffer.kept, is.within);
  position = omega (arith, length-drop count buffer.kept, is.position);
  pointers = subst (λ (base : ℕ). (place : ℕ) → place < length (drop count buffer.kept) → HasPointer (modulus_of buffer.profile) base (drop count buffer.kept) place) (sym pointer)
      (pointer-drop buffer.profile buffer.base count buffer.kept is.pointers);
}

-- and its flits are those between the two pointers
pub used-dropped : (buffer : RetryFields) (count rrp used : ℕ) → IsRetryBuffer buffer → used ≡ flits_in buffer.kept → rrp ≡ pointer_after buffer (flits_in (take count buffer.kept))
    → used - (rrp + modulus_of buffer.profile - buffer.base) % modulus_of buffer.profile ≡ flits_in (drop count buffer.kept)
used-dropped buffer count rrp used is counts pointer =
    let between : (rrp + modulus_of buffer.profile - buffer.base) % modulus_of buffer.profile ≡ flits_in (take count buffer.kept) =
    flits_between buffer.profile buffer.base (flits_in (take count buffer.kept)) rrp is.base (omega (arith, flits-split count buffer.kept, is.within, is.most)) pointer in
    omega (arith, flits-split count buffer.kept)

-- the last of the first packets has the pointer of their flits
pub last_pointer : (buffer : RetryFields) (count rrp : ℕ) → IsRetryBuffer buffer → 1 ≤ count → count ≤ length buffer.kept → (packet_at buffer.kept (count - 1)).frp ≡ rrp → rrp ≡ pointer_after buffer (flits_in (take count buffer.kept))
last_pointer buffer count rrp is some there pointer =
    let e : suc (count - 1) ≡ count = omega arith in
    sym pointer ∙ is.pointers (count - 1) (omega arith) ∙ ap (λ (n : ℕ). pointer_after buffer (flits_in (take n buffer.kept))) e

-- a pointer that is found is that of a kept packet
pub record IsFound (buffer : RetryFields) (rrp place : ℕ) : Type 0 where
  pub there : place < length buffer.kept
  pub few : place < 1024
  pub pointer : (packet_at buffer.kept place).frp ≡ rrp

pub found : (buffer : RetryFields) (rrp place : ℕ) → IsRetryBuffer buffer → Some place ≡ position (λ packet. packet.frp == rrp) buffer.kept → IsFound buffer rrp place
found buffer rrp place is at =
    let facts = position-Some (λ (packet : PacketFields). packet.frp == rrp) buffer.kept place null_packet (sym at) in record {
      there = facts.0;
      few = omega (arith, facts.0, few_kept buffer is, is.most, most_small buffer.profile);
      pointer = eqb-true (packet_at buffer.kept place).frp rrp facts.1;
    }

-- a buffer with one packet more, by its insides
pub kept_with : (packet : PacketFields) (buffer : RetryFields) (used capacity : ℕ) (kept' : List PacketFields) (position' flits' capacity' : ℕ) → IsKept buffer used capacity → flits_of packet ≤ room_of buffer → packet.frp ≡ next_pointer buffer (flits_of packet)
    → kept' ≡ buffer.kept ++ packet ∷ [] → position' ≡ (after_put packet buffer).position → flits' ≡ flits_of packet → capacity' ≡ capacity
    → IsKept (record { flits = buffer.flits; profile = buffer.profile; kept = kept'; base = buffer.base; position = position' }) (used + flits') capacity'
kept_with packet buffer used capacity kept' position' flits' capacity' is room next kept_is position_is flits_is same = record {
  is_buffer = subst IsRetryBuffer (λ i. record { flits = buffer.flits; profile = buffer.profile; kept = sym kept_is i; base = buffer.base; position = sym position_is i }) (IsRetryBuffer-put packet buffer is.is_buffer room next);
  counts = ap₂ (λ (a b : ℕ). a + b) is.counts flits_is ∙ sym (sum_by_push flits_of buffer.kept packet) ∙ ap flits_in (sym kept_is);
  reserves = same ∙ is.reserves;
}

-- a buffer without its first packets, by its insides
pub kept_without : (buffer : RetryFields) (count rrp used capacity modulus : ℕ) (kept' : List PacketFields) (position' capacity' : ℕ) → IsKept buffer used capacity → 1 ≤ count → count ≤ length buffer.kept → (packet_at buffer.kept (count - 1)).frp ≡ rrp
    → modulus ≡ modulus_of buffer.profile → kept' ≡ drop count buffer.kept → position' ≡ buffer.position - count → capacity' ≡ capacity
    → IsKept (record { flits = buffer.flits; profile = buffer.profile; kept = kept'; base = rrp; position = position' }) (used - (rrp + modulus - buffer.base) % modulus) capacity'
kept_without buffer count rrp used capacity modulus kept' position' capacity' is some there pointer modulus_is kept_is position_is same =
    let ends = last_pointer buffer count rrp is.is_buffer some there pointer in record {
      is_buffer = subst IsRetryBuffer (λ i. record { flits = buffer.flits; profile = buffer.profile; kept = sym kept_is i; base = rrp; position = sym position_is i }) (IsRetryBuffer-dropped buffer count rrp is.is_buffer there ends);
      counts = ap (λ (m : ℕ). used - (rrp + m - buffer.base) % m) modulus_is ∙ used-dropped buffer count rrp used is.is_buffer is.counts ends ∙ ap flits_in (sym kept_is);
      reserves = same ∙ is.reserves;
    }
