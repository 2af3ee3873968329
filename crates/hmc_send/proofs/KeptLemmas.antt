-- What a sender keeps, in its steps.
use Rattle.std.proofs.Common.{◌≡◌, ◌≢◌, ◌∙◌, ◌<◌, ◌≤◌, ◌+◌, ◌-◌, ◌%◌, ◌^◌, inl, inr, ℕ, zero, suc, Bool, true, false, List, [], ◌∷◌, ◌++◌, length, drop, map, get_or, Option, Some, None, refl, sym, ap, subst, arith}
use Rattle.std.specs.Prelude.{All, slice_get, nat_le, if◌then◌else◌}
use Rattle.std.proofs.lemmas.List.{append-nil}
use Rattle.hmc_codes.proofs.General.{mod_again, mod_small}
use Rattle.hmc_codes.specs.Profile.{modulus_of}
use Rattle.hmc_codes.specs.declared.command.Command.TheVariants.{Null, Tret}
use Rattle.hmc_codes.specs.declared.profile.Profile.{Profile}
use Rattle.hmc_codes.specs.declared.profile.Profile.TheVariants.{One, Two}
use Rattle.hmc_packet.specs.declared.feed.Feed.{Feed}
use Rattle.hmc_packet.specs.Copy.{copied_packet}
use Rattle.hmc_packet.specs.declared.feed.Feed.TheVariants.{Waiting, Whole, Last}
use Rattle.hmc_packet.specs.Reading.{packet_from}
use Rattle.hmc_packet.specs.Packet.{PacketFields, IsPacket, flits_of}
use Rattle.hmc_packet.specs.Spelling.{FitsProfile}
use Rattle.hmc_packet.specs.Tail.{FitsField, tail_layout}
use Rattle.hmc_packet.proofs.PacketLemmas.{IsPacket-numbered, IsPacket-tret}
use Rattle.hmc_retry.specs.RetryBuffer.{RetryFields, IsRetryBuffer, room_of, next_pointer, pointer_after}
use Rattle.hmc_retry.specs.RetryBuffer as retry
use Rattle.hmc_tokens.specs.Account.{greatest_code, code_for, tokens_of_code}
use Rattle.hmc_send.specs.declared.state.State.{State}
use Rattle.hmc_send.specs.Given.{IsTaken}
use Rattle.hmc_send.specs.Entries.{Part, UnderWay}
use Rattle.hmc_send.specs.IsSender.{IsSender, IsSequenced, IsPlaceKept, IsBegunKept}
use Rattle.hmc_send.specs.Kept.{CanBeSent, IsPartFit, copy_fed}
use Rattle.hmc_send.specs.Copies.{copy_of}
use Rattle.hmc_send.specs.Places.{Place, flits_in, with_numbers, numbers_after}
use Rattle.hmc_send.specs.Sender.{places_held, open_places, room_held}
use Rattle.hmc_send.proofs.CopyLemmas.{null-flow}
use Rattle.hmc_send.proofs.Lists.{flits-known}

pub cons-first : (l : List (List ℕ)) → 1 ≤ length l → l ≡ get_or l 0 [] ∷ drop 1 l
cons-first [] some = absurd (omega arith)
cons-first (x ∷ l) some = refl

pub FitsProfile-of : (profile : Profile) (p : PacketFields) (rrp : ℕ) → CanBeSent profile p → rrp < modulus_of profile → FitsProfile profile p rrp
FitsProfile-of profile p rrp can below = record { below = below; forward = can.forward; errstat = can.errstat; null = λ is. absurd (can.other is) }

get-at : (l : List PacketFields) (n : ℕ) (p : PacketFields) → Some p ≡ slice_get l n → (n < length l) × (get_or l n p ≡ p)
get-at [] n p is = absurd cc
get-at (x ∷ l) zero p is = let e : x ≡ p = cc in (omega arith, e)
get-at (x ∷ l) (suc n) p is = let at = get-at l n p is in let lt = at.0 in (omega arith, at.1)

pub All-at : (P : PacketFields → Type 0) (l : List PacketFields) (n : ℕ) (p : PacketFields) → All P l → Some p ≡ slice_get l n → P p
All-at P l n p all is = let at = get-at l n p is in subst P at.1 (all n p at.0)

modulus-few : (profile : Profile) → modulus_of profile ≤ 2 ^ 11
modulus-few One = omega arith
modulus-few Two = omega arith

-- a packet with its numbers is one
pub IsPacket-next : (profile : Profile) (pointer number rtc : ℕ) (p : PacketFields) → IsSequenced p → IsPacket p → rtc < 8 →
    IsPacket (record p { rtc = rtc; seq = (number + 1) % 8; frp = (pointer + flits_of p) % modulus_of profile })
IsPacket-next profile pointer number rtc p (inl no_flow) is fits =
    let small = mod_small profile (pointer + flits_of p) in let few = modulus-few profile in
    IsPacket-numbered p rtc ((number + 1) % 8) ((pointer + flits_of p) % modulus_of profile) no_flow is fits (omega arith) (omega arith)
IsPacket-next profile pointer number rtc p (inr same) is fits =
    let small = mod_small profile (pointer + flits_of p) in let few = modulus-few profile in
    subst (λ (t : PacketFields). IsPacket (record t { rtc = rtc; seq = (number + 1) % 8; frp = (pointer + flits_of p) % modulus_of profile })) (sym same)
    (IsPacket-tret rtc ((number + 1) % 8) ((pointer + flits_of p) % modulus_of profile) fits (omega arith) (omega arith))

sequenced-other : (p : PacketFields) → IsSequenced p → p.command ≢ Null
sequenced-other p (inl no_flow) = null-flow p.command no_flow
sequenced-other p (inr same) = λ is. let clash : Tret ≡ Null = ap (λ (t : PacketFields). t.command) (sym same) ∙ is in absurd cc

-- and may be sent
pub CanBeSent-next : (profile : Profile) (pointer number rtc : ℕ) (p : PacketFields) → IsSequenced p → FitsField (tail_layout profile).errstat p.errstat →
    CanBeSent profile (with_numbers (numbers_after profile pointer number (flits_of p) rtc) p)
CanBeSent-next profile pointer number rtc p is fits = record { forward = mod_small profile (pointer + flits_of p); errstat = fits; other = sequenced-other p is }

-- a front's error number fits the tail of its profile: in One that of each packet does
pub errstat-taken : (profile : Profile) (p : PacketFields) → IsTaken profile p → p.errstat < 2 ^ 7 → FitsField (tail_layout profile).errstat p.errstat
errstat-taken One p taken few = few
errstat-taken Two p taken few = taken.errstat refl

-- where nothing is under way, the places are the kept packets
pub flits-bare : (held : State) → held.under_way ≡ None → flits_in (places_held held) ≡ retry.flits_in held.retry.kept
flits-bare held nothing =
    ap (λ (u : Option UnderWay). flits_in (map Place.known held.retry.kept ++ open_places u)) nothing ∙ ap flits_in (append-nil (map Place.known held.retry.kept)) ∙ flits-known held.retry.kept

pub room-bare : (held : State) → held.under_way ≡ None → room_held held ≡ room_of held.retry
room-bare held nothing = ap (λ (n : ℕ). held.retry.flits - n) (flits-bare held nothing)

pub next-bare : (held : State) (flits : ℕ) → IsSender held → held.under_way ≡ None → (held.pointer + flits) % modulus_of held.profile ≡ next_pointer held.retry flits
next-bare held flits is nothing =
    let q = held.retry.profile in
    let bare = flits-bare held nothing in
    (λ i. (held.pointer + flits) % modulus_of (is.profile i)) ∙ ap (λ (n : ℕ). (n + flits) % modulus_of q) is.pointer
    ∙ mod_again q (held.retry.base + flits_in (places_held held)) flits
    ∙ ap (λ (n : ℕ). (held.retry.base + n + flits) % modulus_of q) bare
    ∙ ap (λ (n : ℕ). n % modulus_of q) (let e : held.retry.base + retry.flits_in held.retry.kept + flits ≡ held.retry.base + (retry.flits_in held.retry.kept + flits) = omega arith in e)

-- a copy that is complete has the pointer that comes next
copy-pointer : (profile : Profile) (retry : RetryFields) (part : Part) (place : Place) (feed : Feed) (copy : PacketFields) → Some copy ≡ copy_fed profile part place feed → IsPlaceKept retry place → IsPartFit part place → flits_of copy ≡ part.flits →
    copy.frp ≡ next_pointer retry (flits_of copy)
unfolding copy_of copied_packet packet_from
copy-pointer profile retry part (Place.known packet) feed copy is kept fit size = absurd cc
copy-pointer profile retry part (Place.awaited head flits n) Waiting copy is kept fit size = absurd cc
copy-pointer profile retry part (Place.awaited head flits n) (Whole flit) copy is kept fit size = absurd cc
copy-pointer profile retry part (Place.awaited head flits n) (Last half slid errstat good) copy is kept fit size =
    let e : copy ≡ copy_of profile part.sent half slid errstat good n = cc in
    ap (λ (p : PacketFields). p.frp) e ∙ kept.next ∙ ap (next_pointer retry) (sym fit.place_is.flits ∙ sym size)

pub fed-pointer : (held : State) (begun : UnderWay) (feed : Feed) (copy : PacketFields) → IsSender held → IsPartFit begun.part begun.place → held.under_way ≡ Some begun → Some copy ≡ copy_fed held.profile begun.part begun.place feed → flits_of copy ≡ begun.part.flits →
    copy.frp ≡ next_pointer held.retry (flits_of copy)
fed-pointer held begun feed copy is fit some made size =
    let kept : IsBegunKept held.retry (Some begun) = subst (IsBegunKept held.retry) some is.begun in
    copy-pointer held.profile held.retry begun.part begun.place feed copy made kept fit size

greatest-by : (k due : ℕ) (b : Bool) → greatest_code k due ≤ k → (if b then suc k else greatest_code k due) ≤ suc k
greatest-by k due true few = omega arith
greatest-by k due false few = omega arith

greatest-few : (most due : ℕ) → greatest_code most due ≤ most
greatest-few zero due = omega arith
greatest-few (suc k) due = greatest-by k due (nat_le (tokens_of_code (suc k)) due) (greatest-few k due)

-- the code of returned tokens has three bits
pub code-few : (due : ℕ) → code_for due < 8
unfolding code_for
code-few due = let few = greatest-few 7 due in omega arith
