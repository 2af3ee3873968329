-- Lists of places.
use Rattle.std.proofs.Common.{◌≡◌, ◌∙◌, ◌<◌, ◌≤◌, ◌+◌, ◌-◌, ℕ, zero, suc, List, [], ◌∷◌, ◌++◌, length, take, drop, map, get_or, Option, Some, None, refl, sym, ap, arith}
use Rattle.std.specs.Prelude.{slice_get}
use Rattle.std.proofs.lemmas.List.{take-append-drop}
use Rattle.std.proofs.lemmas.List.Sums.{sum_by_push, sum_by-cons, sum_by-append}
use Rattle.hmc_codes.specs.declared.profile.Profile.{Profile}
use Rattle.hmc_packet.specs.Packet.{PacketFields, flits_of, null_packet}
use Rattle.hmc_packet.specs.declared.feed.Feed.TheVariants.{Waiting, Whole}
use Rattle.hmc_retry.specs.RetryBuffer as retry
use Rattle.hmc_send.specs.Copies.{place_fed}
use Rattle.hmc_send.specs.Entries.{Part, with_place}
use Rattle.hmc_send.specs.Places.{Place, flits_at, flits_in, place_at, with_last}
use Rattle.hmc_send.specs.Sender.{open_places}

-- ---- numbers

-- ---- a place more

pub flits-push : (l : List Place) (x : Place) → flits_in (l ++ x ∷ []) ≡ flits_in l + flits_at x
flits-push l x = sum_by_push flits_at l x

pub drop-push : (n : ℕ) (l : List Place) (x : Place) → n ≤ length l → drop n (l ++ x ∷ []) ≡ drop n l ++ x ∷ []
drop-push zero l x le = refl
drop-push (suc n) [] x le = absurd (omega arith)
drop-push (suc n) (y ∷ l) x le = drop-push n l x (omega arith)

pub take-push : (n : ℕ) (l : List Place) (x : Place) → n ≤ length l → take n (l ++ x ∷ []) ≡ take n l
take-push zero l x le = refl
take-push (suc n) [] x le = absurd (omega arith)
take-push (suc n) (y ∷ l) x le = ap (λ (t : List Place). y ∷ t) (take-push n l x (omega arith))

pub get-push : (l : List Place) (x d : Place) → get_or (l ++ x ∷ []) (length l) d ≡ x
get-push [] x d = refl
get-push (y ∷ l) x d = get-push l x d

pub length-push : (l : List Place) (x : Place) → length (l ++ x ∷ []) ≡ suc (length l)
length-push [] x = refl
length-push (y ∷ l) x = ap suc (length-push l x)

-- the last place, by its number
pub place-push : (l : List Place) (x : Place) → place_at (l ++ x ∷ []) (suc (length l)) ≡ x
place-push l x =
    let e : suc (length l) - 1 ≡ length l = omega arith in
    ap (λ (n : ℕ). get_or (l ++ x ∷ []) n (Place.known null_packet)) e ∙ get-push l x (Place.known null_packet)

-- ---- the last place changed

pub last-push : (f : Place → Place) (l : List Place) (x : Place) → with_last f (l ++ x ∷ []) ≡ l ++ f x ∷ []
last-push f [] x = refl
last-push f (y ∷ []) x = refl
last-push f (y ∷ z ∷ l) x = ap (λ (t : List Place). y ∷ t) (last-push f (z ∷ l) x)

pub last-same : (f : Place → Place) (l : List Place) → ((x : Place) → f x ≡ x) → with_last f l ≡ l
last-same f [] same = refl
last-same f (x ∷ []) same = ap (λ (s : Place). s ∷ []) (same x)
last-same f (x ∷ y ∷ l) same = ap (λ (t : List Place). x ∷ t) (last-same f (y ∷ l) same)

-- a place with its packet stays
pub last-known : (f : Place → Place) (l : List Place) (p : PacketFields) → place_at l (length l) ≡ Place.known p → f (Place.known p) ≡ Place.known p → with_last f l ≡ l
last-known f [] p is same = refl
last-known f (x ∷ []) p is same = let e : x ≡ Place.known p = is in let g : f x ≡ x = ap f e ∙ same ∙ sym e in ap (λ (s : Place). s ∷ []) g
last-known f (x ∷ y ∷ l) p is same =
    let d = Place.known null_packet in
    let i : suc (suc (length l)) - 1 ≡ suc (length l) = omega arith in
    let j : suc (length l) - 1 ≡ length l = omega arith in
    let moved : place_at (y ∷ l) (suc (length l)) ≡ Place.known p =
    ap (λ (n : ℕ). get_or (y ∷ l) n d) j ∙ ap (λ (n : ℕ). get_or (x ∷ y ∷ l) n d) (sym i) ∙ is in
    ap (λ (t : List Place). x ∷ t) (last-known f (y ∷ l) p moved same)

pub drop-last : (f : Place → Place) (l : List Place) (n : ℕ) → drop n (with_last f l) ≡ with_last f (drop n l)
drop-last f l zero = refl
drop-last f [] (suc n) = refl
drop-last f (x ∷ []) (suc zero) = refl
drop-last f (x ∷ []) (suc (suc n)) = refl
drop-last f (x ∷ y ∷ l) (suc n) = drop-last f (y ∷ l) n

pub take-last : (f : Place → Place) (l : List Place) (n : ℕ) → n < length l → take n (with_last f l) ≡ take n l
take-last f l zero lt = refl
take-last f [] (suc n) lt = absurd (omega arith)
take-last f (x ∷ []) (suc n) lt = absurd (omega arith)
take-last f (x ∷ y ∷ l) (suc n) lt = ap (λ (t : List Place). x ∷ t) (take-last f (y ∷ l) n (omega arith))

pub length-last : (f : Place → Place) (l : List Place) → length (with_last f l) ≡ length l
length-last f [] = refl
length-last f (x ∷ []) = refl
length-last f (x ∷ y ∷ l) = ap suc (length-last f (y ∷ l))

pub flits-split : (n : ℕ) (l : List Place) → flits_in (take n l) + flits_in (drop n l) ≡ flits_in l
flits-split n l = sym (sum_by-append flits_at (take n l) (drop n l)) ∙ ap flits_in (take-append-drop n l)

-- ---- kept packets as places

pub flits-known : (packets : List PacketFields) → flits_in (map Place.known packets) ≡ retry.flits_in packets
flits-known [] = refl
flits-known (p ∷ packets) =
    sum_by-cons flits_at (Place.known p) (map Place.known packets) ∙ ap (λ (n : ℕ). flits_of p + n) (flits-known packets) ∙ sym (sum_by-cons flits_of p packets)

pub length-known : (packets : List PacketFields) → length (map Place.known packets) ≡ length packets
length-known [] = refl
length-known (p ∷ packets) = ap suc (length-known packets)

pub get-known : (packets : List PacketFields) (n : ℕ) → get_or (map Place.known packets) n (Place.known null_packet) ≡ Place.known (retry.packet_at packets n)
get-known [] n = refl
get-known (p ∷ packets) zero = refl
get-known (p ∷ packets) (suc n) = get-known packets n

pub known-push : (packets : List PacketFields) (p : PacketFields) → map Place.known (packets ++ p ∷ []) ≡ map Place.known packets ++ Place.known p ∷ []
known-push [] p = refl
known-push (q ∷ packets) p = ap (λ (t : List Place). Place.known q ∷ t) (known-push packets p)

pub known-drop : (n : ℕ) (packets : List PacketFields) (more : List Place) → n ≤ length packets → drop n (map Place.known packets ++ more) ≡ map Place.known (drop n packets) ++ more
known-drop zero packets more le = refl
known-drop (suc n) [] more le = absurd (omega arith)
known-drop (suc n) (p ∷ packets) more le = known-drop n packets more (omega arith)

pub known-take : (n : ℕ) (packets : List PacketFields) (more : List Place) → n ≤ length packets → take n (map Place.known packets ++ more) ≡ map Place.known (take n packets)
known-take zero packets more le = refl
known-take (suc n) [] more le = absurd (omega arith)
known-take (suc n) (p ∷ packets) more le = ap (λ (t : List Place). Place.known p ∷ t) (known-take n packets more (omega arith))

-- ---- reading at a place

pub get-drop : (l : List Place) (n k : ℕ) → slice_get (drop n l) k ≡ slice_get l (n + k)
get-drop l zero k = ap (slice_get l) (let e : k ≡ 0 + k = omega arith in e)
get-drop [] (suc n) k = refl
get-drop (x ∷ xs) (suc n) k = get-drop xs n k ∙ ap (slice_get (x ∷ xs)) (let e : suc (n + k) ≡ suc n + k = omega arith in e)

pub get-none : (l : List Place) (n : ℕ) → slice_get l n ≡ None → length l ≤ n
get-none [] n none = omega arith
get-none (x ∷ l) zero none = absurd cc
get-none (x ∷ l) (suc n) none = let e = get-none l n none in omega arith

-- ---- the packet under way

pub open-known : (p : PacketFields) (part : Option Part) → open_places (with_place (Place.known p) part) ≡ []
open-known p None = refl
open-known p (Some part) = refl

-- what is fed to an open place before its last flit leaves it as it is
pub fed-waiting : (profile : Profile) (sent : List (List ℕ)) (place : Place) → place_fed profile sent Waiting place ≡ place
fed-waiting profile sent (Place.known packet) = refl
fed-waiting profile sent (Place.awaited head flits n) = refl

pub fed-whole : (profile : Profile) (sent : List (List ℕ)) (flit : List ℕ) (place : Place) → place_fed profile sent (Whole flit) place ≡ place
fed-whole profile sent flit (Place.known packet) = refl
fed-whole profile sent flit (Place.awaited head flits n) = refl
