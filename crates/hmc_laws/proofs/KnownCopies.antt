-- The packets of places, where the last place may be that of a copy which isn't known yet.
use Rattle.std.proofs.Common.{◌≡◌, ◌<◌, ◌∙◌, ◌-◌, ◌==◌, ℕ, suc, Bool, true, false, if◌then◌else◌, Option, Some, None, List, [], ◌∷◌, ◌++◌, length, map, take, drop, get_or, refl, sym, ap, ap₂, arith, append-nil, append_assoc, eqb-true, nat_lt}
use Rattle.std.proofs.lemmas.List.{take-append-drop, drop_at, map-append}
use Rattle.std.proofs.lemmas.List.FromFn.{fill_by_all}
use Rattle.hmc_codes.specs.declared.profile.Profile.{Profile}
use Rattle.hmc_packet.specs.declared.feed.Feed.{Feed}
use Rattle.hmc_packet.specs.declared.feed.Feed.TheVariants.{Waiting, Whole, Last}
use Rattle.hmc_packet.specs.Packet.{PacketFields, null_packet}
use Rattle.hmc_send.specs.declared.numbers.Numbers.{Numbers}
use Rattle.hmc_send.specs.Copies.{awaited_fed, place_fed}
use Rattle.hmc_send.specs.Entries.{Part}
use Rattle.hmc_send.specs.Places.{Place, packet_in, with_last}
use Rattle.hmc_send.proofs.Lists.{last-push}
use Rattle.hmc_through.specs.Pipe.{PipeFields, flit_at, front_flits, last_fed, whole_fed, feed_at}
use Rattle.hmc_wire.proofs.OpenPlaces.{AreKnown}
use Rattle.hmc_journal.specs.Carried.{place_with}
use Rattle.hmc_journal.specs.Piped.{PipeFrom}
use Rattle.hmc_laws.proofs.Piping.{IsPiped}

-- ---- what is known

-- the packet of a place, if it is known
abbrev pub known_of : Place → List PacketFields
known_of (Place.known packet) = packet ∷ []
known_of (Place.awaited head flits numbers) = []

-- and what is shown in its place, if it isn't
abbrev pub open_of : Place → List PacketFields
open_of (Place.known packet) = []
open_of (Place.awaited head flits numbers) = null_packet ∷ []

abbrev pub known_in : Profile → Option PipeFrom → List Place → List PacketFields
known_in q pipe [] = []
known_in q pipe (place ∷ places) = known_of (place_with q pipe place) ++ known_in q pipe places

-- what is shown of each place
abbrev pub shown_in : Profile → Option PipeFrom → List Place → List PacketFields
shown_in q pipe places = map (λ place. packet_in (place_with q pipe place)) places

pub known_in-append : (q : Profile) (pipe : Option PipeFrom) (xs ys : List Place) → known_in q pipe (xs ++ ys) ≡ known_in q pipe xs ++ known_in q pipe ys
known_in-append q pipe [] ys = refl
known_in-append q pipe (x ∷ xs) ys = ap (λ l. known_of (place_with q pipe x) ++ l) (known_in-append q pipe xs ys) ∙ sym (append_assoc (known_of (place_with q pipe x)) (known_in q pipe xs) (known_in q pipe ys))

pub with-known : (q : Profile) (pipe : Option PipeFrom) (packet : PacketFields) → place_with q pipe (Place.known packet) ≡ Place.known packet
with-known q None packet = refl
with-known q (Some p) packet = refl

pub known_in-push : (q : Profile) (pipe : Option PipeFrom) (xs : List Place) (packet : PacketFields) → known_in q pipe (xs ++ Place.known packet ∷ []) ≡ known_in q pipe xs ++ packet ∷ []
known_in-push q pipe xs packet = known_in-append q pipe xs (Place.known packet ∷ []) ∙ ap (λ (x : Place). known_in q pipe xs ++ (known_of x ++ [])) (with-known q pipe packet)

-- places that have their packets show them, whatever the pipe
pub known_in-packets : (q : Profile) (pipe : Option PipeFrom) (packets : List PacketFields) → known_in q pipe (map Place.known packets) ≡ packets
known_in-packets q pipe [] = refl
known_in-packets q pipe (p ∷ packets) = ap₂ (λ (x : Place) (l : List PacketFields). known_of x ++ l) (with-known q pipe p) (known_in-packets q pipe packets)

pub known_in-same : (q : Profile) (pipe other : Option PipeFrom) (places : List Place) → AreKnown places → known_in q pipe places ≡ known_in q other places
known_in-same q pipe other [] known = refl
known_in-same q pipe other (Place.known packet ∷ places) known =
    ap₂ (λ (x : Place) (l : List PacketFields). known_of x ++ l) (with-known q pipe packet ∙ sym (with-known q other packet)) (known_in-same q pipe other places known.1)
known_in-same q pipe other (Place.awaited head flits numbers ∷ places) known = absurd (let clash : true ≡ false = known.0 in cc)

pub shown-known : (q : Profile) (pipe : Option PipeFrom) (places : List Place) → AreKnown places → shown_in q pipe places ≡ known_in q pipe places
shown-known q pipe [] known = refl
shown-known q pipe (Place.known packet ∷ places) known =
    ap₂ (λ (x : PacketFields) (l : List PacketFields). x ∷ l) (ap packet_in (with-known q pipe packet)) (shown-known q pipe places known.1) ∙ ap (λ (x : Place). known_of x ++ known_in q pipe places) (sym (with-known q pipe packet))
shown-known q pipe (Place.awaited head flits numbers ∷ places) known = absurd (let clash : true ≡ false = known.0 in cc)

-- a place after those shows its packet, or a NULL
shown_one : (place : Place) → packet_in place ∷ [] ≡ known_of place ++ open_of place
shown_one (Place.known packet) = refl
shown_one (Place.awaited head flits numbers) = refl

pub shown-open : (q : Profile) (pipe : Option PipeFrom) (before : List Place) (place : Place) → AreKnown before → shown_in q pipe (before ++ place ∷ []) ≡ known_in q pipe (before ++ place ∷ []) ++ open_of (place_with q pipe place)
shown-open q pipe before place known =
    let x = place_with q pipe place in
    map-append (λ p. packet_in (place_with q pipe p)) before (place ∷ [])
    ∙ ap₂ (λ (l k : List PacketFields). l ++ k) (shown-known q pipe before known) (shown_one x)
    ∙ sym (append_assoc (known_in q pipe before) (known_of x) (open_of x))
    ∙ ap (λ l. l ++ open_of x) (ap (λ l. known_in q pipe before ++ l) (sym (append-nil (known_of x))) ∙ sym (known_in-append q pipe before (place ∷ [])))

-- ---- what is accepted is the first of it

drop_more : {X : Type 0} (xs ys : List X) → drop (length xs) (xs ++ ys) ≡ ys
drop_more xs ys = drop_at xs ys (length xs) refl

pub accepted-known : (q : Profile) (pipe : Option PipeFrom) (places : List Place) (accepted : List PacketFields) → map Place.known accepted ≡ take (length accepted) places → known_in q pipe places ≡ accepted ++ drop (length accepted) (known_in q pipe places)
accepted-known q pipe places accepted are =
    let n = length accepted in
    let split : known_in q pipe places ≡ accepted ++ known_in q pipe (drop n places) =
    ap (known_in q pipe) (sym (take-append-drop n places)) ∙ known_in-append q pipe (take n places) (drop n places)
    ∙ ap (λ l. l ++ known_in q pipe (drop n places)) (ap (known_in q pipe) (sym are) ∙ known_in-packets q pipe accepted) in
    split ∙ ap (λ l. accepted ++ l) (sym (ap (drop n) split ∙ drop_more accepted (known_in q pipe (drop n places))))

-- ---- what is fed leaves the copy as it is known

again_by : (q : Profile) (sent : List (List ℕ)) (feed same : Feed) (head : List ℕ) (count : ℕ) (n : Numbers) → same ≡ feed → place_fed q sent same (awaited_fed q sent feed head count n) ≡ awaited_fed q sent feed head count n
again_by q sent Waiting same head count n is = ap (λ (f : Feed). awaited_fed q sent f head count n) is
again_by q sent (Whole flit) same head count n is = ap (λ (f : Feed). awaited_fed q sent f head count n) is
again_by q sent (Last half slid errstat good) same head count n is = refl

pub front_sent : (pipe : PipeFields) (sent : List (List ℕ)) → ((k : ℕ) → k < length sent → get_or sent k [] ≡ flit_at pipe k) → length sent ≡ pipe.flits - 1 → sent ≡ front_flits pipe
front_sent pipe sent same long = fill_by_all (flit_at pipe) sent (pipe.flits - 1) [] long (λ k less. same k (omega arith))

whole_same : (q : Profile) (p : PipeFrom) (part : Part) (head : List ℕ) (count : ℕ) (n : Numbers) (at : ℕ) (good : Option Bool) → place_with q (Some p) (awaited_fed q part.sent (whole_fed p.pipe at good) head count n) ≡ place_with q (Some p) (Place.awaited head count n)
whole_same q p part head count n at None = by_here (nat_lt at (length p.pipe.came))
  where
    by_here : (here : Bool) → place_with q (Some p) (awaited_fed q part.sent (if here then Whole (flit_at p.pipe at) else Waiting) head count n) ≡ place_with q (Some p) (Place.awaited head count n)
    by_here true = refl
    by_here false = refl
whole_same q p part head count n at (Some good) = refl

pub fed-same : (q : Profile) (p : PipeFrom) (part : Part) (head : List ℕ) (count : ℕ) (n : Numbers) → IsPiped p.pipe part head count
    → place_with q (Some p) (place_fed q part.sent (feed_at p.pipe (length part.sent)) (Place.awaited head count n)) ≡ place_with q (Some p) (Place.awaited head count n)
fed-same q p part head count n is = by_last (suc (length part.sent) == p.pipe.flits) refl
  where
    by_last : (last : Bool) → (suc (length part.sent) == p.pipe.flits) ≡ last
        → place_with q (Some p) (awaited_fed q part.sent (if last then last_fed p.pipe (length part.sent) p.pipe.good else whole_fed p.pipe (length part.sent) p.pipe.good) head count n) ≡ place_with q (Some p) (Place.awaited head count n)
    by_last false at = whole_same q p part head count n (length part.sent) p.pipe.good
    by_last true at =
        let long : suc (length part.sent) ≡ p.pipe.flits = eqb-true (suc (length part.sent)) p.pipe.flits at in
        let place : length part.sent ≡ p.pipe.flits - 1 = omega arith in
        let front : part.sent ≡ front_flits p.pipe = front_sent p.pipe part.sent is.sent place in
        let fed_is : last_fed p.pipe (length part.sent) p.pipe.good ≡ feed_at p.pipe (p.pipe.flits - 1) =
        sym (ap (λ (b : Bool). if b then last_fed p.pipe (length part.sent) p.pipe.good else whole_fed p.pipe (length part.sent) p.pipe.good) at) ∙ ap (feed_at p.pipe) place in
        ap (place_with q (Some p)) (λ i. awaited_fed q (front i) (fed_is i) head count n) ∙ again_by q (front_flits p.pipe) (feed_at p.pipe (p.pipe.flits - 1)) (feed_at p.pipe (p.pipe.flits - 1)) head count n refl

-- so a send that is fed leaves what is known
pub known-fed : (q : Profile) (p : PipeFrom) (part : Part) (before : List Place) (head : List ℕ) (count : ℕ) (n : Numbers) → IsPiped p.pipe part head count
    → known_in q (Some p) (with_last (place_fed q part.sent (feed_at p.pipe (length part.sent))) (before ++ Place.awaited head count n ∷ [])) ≡ known_in q (Some p) (before ++ Place.awaited head count n ∷ [])
known-fed q p part before head count n is =
    let f : Place → Place = place_fed q part.sent (feed_at p.pipe (length part.sent)) in
    ap (known_in q (Some p)) (last-push f before (Place.awaited head count n))
    ∙ known_in-append q (Some p) before (f (Place.awaited head count n) ∷ [])
    ∙ ap (λ (x : Place). known_in q (Some p) before ++ (known_of x ++ [])) (fed-same q p part head count n is)
    ∙ sym (known_in-append q (Some p) before (Place.awaited head count n ∷ []))
