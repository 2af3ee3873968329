-- The list of a direction after what its sender does.
use Rattle.std.proofs.Common.{◌≡◌, ◌∙◌, ◌≤◌, ◌<◌, ◌⊎◌, inl, inr, ℕ, zero, suc, Bool, true, false, List, [], ◌∷◌, ◌++◌, length, take, drop, map, get_or, Option, Some, None, refl, sym, ap, subst, arith, append_assoc, append-nil}
use Rattle.std.specs.Prelude.{is_none, filter, if◌then◌else◌}
use Rattle.std.specs.List.{concat}
use Rattle.std.proofs.lemmas.List.Elements.{filter-append}
use Rattle.std.proofs.lemmas.List.{map_push}
use Rattle.hmc_codes.specs.Commands.{layout_of}
use Rattle.hmc_codes.specs.declared.layout.Layout.{Layout}
use Rattle.hmc_codes.specs.declared.layout.Layout.TheVariants as layouts
use Rattle.hmc_codes.specs.declared.profile.Profile.{Profile}
use Rattle.hmc_packet.specs.declared.feed.Feed.{Feed}
use Rattle.hmc_packet.specs.declared.feed.Feed.TheVariants.{Waiting, Whole, Last}
use Rattle.hmc_packet.specs.declared.header.Header.{Header}
use Rattle.hmc_packet.specs.declared.tail.Tail.{Tail}
use Rattle.hmc_packet.specs.declared.what.What.{What}
use Rattle.hmc_packet.specs.declared.what.What.TheVariants as what
use Rattle.hmc_packet.specs.Copy.{copied_packet}
use Rattle.hmc_packet.specs.Head.{named_by}
use Rattle.hmc_packet.specs.Header.{header_of}
use Rattle.hmc_packet.specs.Parts.{header_in}
use Rattle.hmc_packet.specs.Packet.{PacketFields, null_packet}
use Rattle.hmc_packet.specs.Reading.{packet_from, slid_in}
use Rattle.hmc_send.specs.Copies.{command_or_null, errstat_for, tail_with, place_fed, copy_of}
use Rattle.hmc_send.specs.Entries as entries
use Rattle.hmc_send.specs.Entries.{SenderEntry, Given, Part, UnderWay, or_null, unfinished, under_way, places_with, with_packet}
use Rattle.hmc_send.specs.IsSender.{IsFed}
use Rattle.hmc_send.specs.Kept.{IsFedNext}
use Rattle.hmc_send.specs.LinkEntries.{push_if}
use Rattle.hmc_send.specs.Places.{Place, pointer_of, number_of, next_packet, tret_packet, takes_tokens, is_token, with_last, with_numbers}
use Rattle.hmc_send.specs.declared.numbers.Numbers.{Numbers}
use Rattle.hmc_send.proofs.Lists.{get-push, last-push}
use Rattle.hmc_tokens.specs.Account.{code_for}
use Rattle.hmc_numbers.specs.Weights.{Weight}
use Rattle.hmc_wire.specs.Conditions.{IsFeed}
use Rattle.hmc_wire.specs.LinkLaws.{Put, begun_puts}
use Rattle.hmc_wire.specs.LinkLaws.Put.{put_packet, put_through}
use Rattle.hmc_wire.proofs.Choices.{fit-last, open-fit}
use Rattle.hmc_wire.proofs.Filled.{completed-last}
use Rattle.hmc_wire.proofs.OpenPlaces.{AreKnown, IsOpen, open_place, open-place, under-open, last-fed_known}
use Rattle.hmc_wire.proofs.Places.{AllFit, packet_of}
use Rattle.hmc_ends.specs.List.{no_numbers, listed_packet, listed_open, listed_place, list_by, place_sent}
use Rattle.hmc_ends.proofs.Fed.{SenderIs}
use Rattle.hmc_ends.proofs.Lists.{drop-push}
use Rattle.hmc_ends.proofs.Moves.{is_quiet, places-quiet, place-new, place-tret, tret-flow}

-- ---- lists

pub append-left : {X : Type 0} (l a b : List X) → l ++ a ≡ l ++ b → a ≡ b
append-left [] a b e = e
append-left (x ∷ l) a b e = append-left l a b (ap (drop 1) e)

pub map-append : {X Y : Type 0} (f : X → Y) (l m : List X) → map f (l ++ m) ≡ map f l ++ map f m
map-append f [] m = refl
map-append {Y = Y} f (x ∷ l) m = ap (λ (t : List Y). f x ∷ t) (map-append f l m)

map-same : (f : Place → Place) (l : List Place) → ((x : Place) → f x ≡ x) → map f l ≡ l
map-same f [] same = refl
map-same f (x ∷ l) same = λ i. same x i ∷ map-same f l same i

abbrev unput : Put → PacketFields
unput (put_packet packet) = packet
unput (put_through head flits) = null_packet

unput-map : (l : List PacketFields) → map unput (map put_packet l) ≡ l
unput-map [] = refl
unput-map (x ∷ l) = ap (λ (t : List PacketFields). x ∷ t) (unput-map l)

pub same-packets : (a b : List PacketFields) → map put_packet a ≡ map put_packet b → a ≡ b
same-packets a b e = sym (unput-map a) ∙ ap (map unput) e ∙ unput-map b

-- ---- a packet is handed

pub queue-by : (begun : List Put) (old new : List PacketFields) (packet : PacketFields) → begun ++ map put_packet new ≡ (begun ++ map put_packet old) ++ put_packet packet ∷ [] → new ≡ old ++ packet ∷ []
queue-by begun old new packet e =
    same-packets new (old ++ packet ∷ []) (append-left begun (map put_packet new) (map put_packet (old ++ packet ∷ [])) (e ∙ append_assoc begun (map put_packet old) (put_packet packet ∷ []) ∙ ap (λ (l : List Put). begun ++ l) (sym (map_push put_packet old packet))))

pub list-waits : (n : ℕ) (l : List Place) (old : List PacketFields) (packet : PacketFields) → list_by n l (old ++ packet ∷ []) ≡ list_by n l old ++ listed_packet packet ∷ []
list-waits n l old packet =
    let begun = map listed_place (filter takes_tokens (drop n l)) in
    ap (λ (t : List Place). begun ++ t) (map_push listed_packet old packet) ∙ sym (append_assoc begun (map listed_packet old) (listed_packet packet ∷ []))

-- ---- a place more

begun-more : (n : ℕ) (l : List Place) (x : Place) → n ≤ length l → filter takes_tokens (drop n (l ++ x ∷ [])) ≡ filter takes_tokens (drop n l) ++ filter takes_tokens (x ∷ [])
begun-more n l x le = ap (filter takes_tokens) (drop-push n l x le) ∙ filter-append takes_tokens (drop n l) (x ∷ [])

filter-yes : (x : Place) → takes_tokens x ≡ true → filter takes_tokens (x ∷ []) ≡ x ∷ []
filter-yes x is = ap (λ (b : Bool). if b then x ∷ [] else []) is

filter-no : (x : Place) → takes_tokens x ≡ false → filter takes_tokens (x ∷ []) ≡ []
filter-no x is = ap (λ (b : Bool). if b then x ∷ [] else []) is

-- a place that takes tokens is one more of the list, before what waits
place-yes : (n : ℕ) (l : List Place) (x : Place) (waiting : List PacketFields) → n ≤ length l → takes_tokens x ≡ true → list_by n (l ++ x ∷ []) waiting ≡ map listed_place (filter takes_tokens (drop n l)) ++ (listed_place x ∷ map listed_packet waiting)
place-yes n l x waiting le is =
    let before = filter takes_tokens (drop n l) in
    ap (λ (t : List Place). map listed_place t ++ map listed_packet waiting) (begun-more n l x le ∙ ap (λ (t : List Place). before ++ t) (filter-yes x is))
    ∙ ap (λ (t : List Place). t ++ map listed_packet waiting) (map_push listed_place before x)
    ∙ append_assoc (map listed_place before) (listed_place x ∷ []) (map listed_packet waiting)

-- another one is not of the list
place-no : (n : ℕ) (l : List Place) (x : Place) (waiting : List PacketFields) → n ≤ length l → takes_tokens x ≡ false → list_by n (l ++ x ∷ []) waiting ≡ list_by n l waiting
place-no n l x waiting le is =
    let before = filter takes_tokens (drop n l) in
    ap (λ (t : List Place). map listed_place t ++ map listed_packet waiting) (begun-more n l x le ∙ ap (λ (t : List Place). before ++ t) (filter-no x is) ∙ append-nil before)

-- ---- a front is begun

pub front-is : (begun : List Put) (old new : List PacketFields) (packet : PacketFields) → begun ++ map put_packet old ≡ (begun ++ put_packet packet ∷ []) ++ map put_packet new → old ≡ packet ∷ new
front-is begun old new packet e = same-packets old (packet ∷ new) (append-left begun (map put_packet old) (map put_packet (packet ∷ new)) (e ∙ append_assoc begun (put_packet packet ∷ []) (map put_packet new)))

list-front : (q : Profile) (n due : ℕ) (l : List Place) (old new : List PacketFields) (packet : PacketFields) → n ≤ length l → old ≡ packet ∷ new → is_token packet ≡ true → list_by n (with_packet q due packet l) new ≡ list_by n l old
list-front q n due l old new packet le is token =
    place-yes n l (Place.known (next_packet q (pointer_of q l) (number_of l) (code_for due) packet)) new le token
    ∙ ap (λ (w : List PacketFields). map listed_place (filter takes_tokens (drop n l)) ++ map listed_packet w) (sym is)

-- ---- the last flit of a cut-through

slid-same : (l : Layout) (h : Header) (s t : Tail) → s.slid ≡ t.slid → slid_in l h s ≡ slid_in l h t
slid-same layouts.Reply h s t is = refl
slid-same layouts.Null h s t is = is
slid-same layouts.Pret h s t is = is
slid-same layouts.Tret h s t is = is
slid-same layouts.Irtry h s t is = is
slid-same layouts.Ask h s t is = is

-- a copy without its numbers is the copy without numbers
copy-plain : (q : Profile) (sent : List (List ℕ)) (half : List ℕ) (slid errstat : ℕ) (good : Bool) (n : Numbers) → copy_of q sent half slid errstat good no_numbers ≡ with_numbers no_numbers (copy_of q sent half slid errstat good n)
unfolding copy_of copied_packet packet_from
copy-plain q sent half slid errstat good n =
    let plain : PacketFields = with_numbers no_numbers (copy_of q sent half slid errstat good n) in
    let bytes = concat sent ++ half in
    let layout = layout_of (command_or_null (named_by bytes)) in
    let number = errstat_for q layout errstat in
    ap (λ (s : ℕ). record plain { slid = s }) (slid-same layout (header_of layout (header_in bytes)) (tail_with no_numbers slid number) (tail_with n slid number) refl)

fed-plain : (q : Profile) (sent : List (List ℕ)) (feed : Feed) (head : List ℕ) (flits : ℕ) (n : Numbers) → place_fed q sent feed (listed_open head flits) ≡ listed_place (place_fed q sent feed (Place.awaited head flits n))
fed-plain q sent Waiting head flits n = refl
fed-plain q sent (Whole flit) head flits n = refl
fed-plain q sent (Last half slid errstat good) head flits n = ap Place.known (copy-plain q sent half slid errstat good n)

-- what is fed to an open place takes tokens still
fed-token : (q : Profile) (t : List SenderEntry) (o : IsOpen q t) (feed : Feed) → AllFit q (entries.places q t) → IsFedNext o.part o.head feed → IsFeed feed → takes_tokens (place_fed q o.part.sent feed (open_place o)) ≡ true
fed-token q t o Waiting all fits is = refl
fed-token q t o (Whole whole) all fits is = refl
fed-token q t o (Last half slid errstat good) all fits is =
    let x : Place = open_place o in
    let open_all = subst (AllFit q) o.places all in
    let completed = completed-last q x o.part half slid errstat good (open-fit q x refl (fit-last q o.before x open_all)) o.whole_flits o.flits fits.0 is.long is.bytes fits.1 in
    ap (λ (w : Weight). w.token) completed.weighs

-- the other places are as before
known-drop : (n : ℕ) (l : List Place) → AreKnown l → AreKnown (drop n l)
known-drop zero l all = all
known-drop (suc n) [] all = tt
known-drop (suc n) (x ∷ l) all = known-drop n l all.1

fed-listed : (q : Profile) (sent : List (List ℕ)) (feed : Feed) (x : Place) → is_none (packet_of x) ≡ false → place_fed q sent feed (listed_place x) ≡ listed_place x
fed-listed q sent feed (Place.known packet) known = refl
fed-listed q sent feed (Place.awaited head flits n) known = absurd cc

fed-places : (q : Profile) (sent : List (List ℕ)) (feed : Feed) (l : List Place) → AreKnown l → map (place_fed q sent feed) (map listed_place (filter takes_tokens l)) ≡ map listed_place (filter takes_tokens l)
fed-places q sent feed [] all = refl
fed-places q sent feed (x ∷ l) all = by_token (takes_tokens x) (fed-places q sent feed l all.1)
  where
    by_token : (b : Bool) → map (place_fed q sent feed) (map listed_place (filter takes_tokens l)) ≡ map listed_place (filter takes_tokens l) →
        map (place_fed q sent feed) (map listed_place (if b then x ∷ filter takes_tokens l else filter takes_tokens l)) ≡ map listed_place (if b then x ∷ filter takes_tokens l else filter takes_tokens l)
    by_token true e = λ i. fed-listed q sent feed x all.0 i ∷ e i
    by_token false e = e

fed-waiting : (q : Profile) (sent : List (List ℕ)) (feed : Feed) (w : List PacketFields) → map (place_fed q sent feed) (map listed_packet w) ≡ map listed_packet w
fed-waiting q sent feed [] = refl
fed-waiting q sent feed (x ∷ w) = ap (λ (t : List Place). listed_packet x ∷ t) (fed-waiting q sent feed w)

fed-list : (q : Profile) (n : ℕ) (sent : List (List ℕ)) (feed : Feed) (l : List Place) (w : List PacketFields) → AreKnown l → map (place_fed q sent feed) (list_by n l w) ≡ list_by n l w
fed-list q n sent feed l w all =
    map-append (place_fed q sent feed) (map listed_place (filter takes_tokens (drop n l))) (map listed_packet w)
    ∙ (λ i. fed-places q sent feed (drop n l) (known-drop n l all) i ++ fed-waiting q sent feed w i)

-- the open place is the last one that was begun, and is not accepted
list-filled : (q : Profile) (n : ℕ) (sent : List (List ℕ)) (feed : Feed) (before : List Place) (head : List ℕ) (flits : ℕ) (k : Numbers) (w : List PacketFields) → AreKnown before → n ≤ length before → takes_tokens (place_fed q sent feed (Place.awaited head flits k)) ≡ true →
    list_by n (before ++ place_fed q sent feed (Place.awaited head flits k) ∷ []) w ≡ map (place_fed q sent feed) (list_by n (before ++ Place.awaited head flits k ∷ []) w)
list-filled q n sent feed before head flits k w all le token =
    let f : Place → Place = place_fed q sent feed in
    let x : Place = Place.awaited head flits k in
    let begun = map listed_place (filter takes_tokens (drop n before)) in
    let waits = map listed_packet w in
    place-yes n before (f x) w le token
    ∙ (λ i. sym (fed-places q sent feed (drop n before) (known-drop n before all)) i ++ (sym (fed-plain q sent feed head flits k) i ∷ sym (fed-waiting q sent feed w) i))
    ∙ sym (map-append f begun (listed_open head flits ∷ waits))
    ∙ ap (map f) (sym (place-yes n before x w le refl))

-- an open place is none of those accepted
open-later : (n : ℕ) (l before : List Place) (head : List ℕ) (flits : ℕ) (k : Numbers) → l ≡ before ++ Place.awaited head flits k ∷ [] → n ≤ length l → ((j : ℕ) → j < n → (p : PacketFields) × (get_or l j (Place.known null_packet) ≡ Place.known p)) → n ≤ length before
open-later n l before head flits k is le known =
    let size = ap (λ (m : List Place). length m) is ∙ length-one before (Place.awaited head flits k) in
    by_order (length before) n (omega arith) (λ lt.
    let p = known (length before) lt in
    let at = ap (λ (m : List Place). get_or m (length before) (Place.known null_packet)) is ∙ get-push before (Place.awaited head flits k) (Place.known null_packet) in
    let clash : Place.awaited head flits k ≡ Place.known p.0 = sym at ∙ p.1 in
    cc)
  where
    length-one : (m : List Place) (x : Place) → length (m ++ x ∷ []) ≡ suc (length m)
    length-one [] x = refl
    length-one (y ∷ m) x = ap suc (length-one m x)

    by_order : (b n : ℕ) → n ≤ suc b → (b < n → ⊥) → n ≤ b
    by_order b n le never = omega arith

-- ---- a flit is sent

-- what is known of a sender whose first packets are accepted, and of its queue before and after
pub record ListStep (q : Profile) (retry n : ℕ) (t : List SenderEntry) (given : Given) (w : What) (flit : List ℕ) (old new : List PacketFields) : Type 0 where
  pub sender : SenderIs q retry t
  pub few : n ≤ length (entries.places q t)
  pub known : (j : ℕ) → j < n → (p : PacketFields) × (get_or (entries.places q t) j (Place.known null_packet) ≡ Place.known p)
  pub fed : IsFed (under_way q t) given.feed
  pub feed : IsFeed given.feed
  pub queue : begun_puts t ++ map put_packet old ≡ begun_puts (SenderEntry.sent given w flit ∷ t) ++ map put_packet new
  pub tokens : (packet : PacketFields) (rest : List PacketFields) → old ≡ packet ∷ rest → is_token packet ≡ true

abbrev Steps : Profile → ℕ → List SenderEntry → Given → What → List ℕ → (old new : List PacketFields) → Type 0
Steps q n t given w flit old new =
    list_by n (entries.places q (SenderEntry.sent given w flit ∷ t)) new ≡ map (place_sent w q (unfinished t) given.feed) (list_by n (entries.places q t) old)

same-queue : (begun : List Put) (old new : List PacketFields) → begun ++ map put_packet old ≡ begun ++ map put_packet new → new ≡ old
same-queue begun old new e = sym (same-packets old new (append-left begun (map put_packet old) (map put_packet new) e))

step-new : (q : Profile) (retry n : ℕ) (t : List SenderEntry) (given : Given) (flit : List ℕ) (old new : List PacketFields) (u : Option Part) → unfinished t ≡ u → ListStep q retry n t given what.New flit old new → Steps q n t given what.New flit old new
unfolding begun_puts entries.places
step-new q retry n t given flit old new None under is =
    let l = entries.places q t in
    let packet = or_null given.front in
    let queue = front-is (begun_puts t) old new packet (is.queue ∙ ap (λ (u : Option Part). push_if (is_none u) (put_packet (or_null given.front)) (begun_puts t) ++ map put_packet new) under) in
    ap (λ (m : List Place). list_by n m new) (place-new q t given flit under)
    ∙ list-front q n given.due l old new packet is.few queue (is.tokens packet new queue)
    ∙ sym (map-same (place_sent what.New q None given.feed) (list_by n l old) (λ x. refl))
    ∙ ap (λ (u : Option Part). map (place_sent what.New q u given.feed) (list_by n l old)) (sym under)
step-new q retry n t given flit old new (Some part) under is =
    let l = entries.places q t in
    let queue = same-queue (begun_puts t) old new (is.queue ∙ ap (λ (u : Option Part). push_if (is_none u) (put_packet (or_null given.front)) (begun_puts t) ++ map put_packet new) under) in
    (λ i. list_by n (places_with q (under i) given l) (queue i))
    ∙ by_places (open-place q retry t is.sender.chosen is.sender.fed)
    ∙ ap (λ (u : Option Part). map (place_sent what.New q u given.feed) (list_by n l old)) (sym under)
  where
    some-part : (p r : Part) → Some p ≡ Some r → p ≡ r
    some-part p r e = cc

    by_places : AreKnown (entries.places q t) ⊎ IsOpen q t → list_by n (with_last (place_fed q part.sent given.feed) (entries.places q t)) old ≡ map (place_fed q part.sent given.feed) (list_by n (entries.places q t) old)
    by_places (inl known) = ap (λ (m : List Place). list_by n m old) (last-fed_known q part.sent given.feed (entries.places q t) known) ∙ sym (fed-list q n part.sent given.feed (entries.places q t) old known)
    by_places (inr o) =
        let f : Place → Place = place_fed q o.part.sent given.feed in
        let e : o.part ≡ part = some-part o.part part (sym o.under ∙ under) in
        let fits : IsFedNext o.part o.head given.feed = subst (λ (u : Option UnderWay). IsFed u given.feed) (under-open q t o) is.fed in
        let le = open-later n (entries.places q t) o.before o.head o.count o.numbers o.places is.few is.known in
        let filled = list-filled q n o.part.sent given.feed o.before o.head o.count o.numbers old o.known le (fed-token q t o given.feed is.sender.fit fits is.feed) in
        subst (λ (p : Part). list_by n (with_last (place_fed q p.sent given.feed) (entries.places q t)) old ≡ map (place_fed q p.sent given.feed) (list_by n (entries.places q t) old)) e
        (ap (λ (m : List Place). list_by n (with_last f m) old) o.places ∙ ap (λ (m : List Place). list_by n m old) (last-push f o.before (open_place o)) ∙ filled ∙ ap (λ (m : List Place). map f (list_by n m old)) (sym o.places))

begun-quiet : (t : List SenderEntry) (given : Given) (w : What) (flit : List ℕ) → is_quiet w ≡ true → begun_puts (SenderEntry.sent given w flit ∷ t) ≡ begun_puts t
unfolding begun_puts
begun-quiet t given what.Train flit is = refl
begun-quiet t given what.Clear flit is = refl
begun-quiet t given what.Start flit is = refl
begun-quiet t given what.Null flit is = refl
begun-quiet t given what.Pret flit is = refl
begun-quiet t given what.Again flit is = refl
begun-quiet t given what.Tret flit is = absurd cc
begun-quiet t given what.New flit is = absurd cc

sent-quiet : (w : What) (q : Profile) (u : Option Part) (feed : Feed) (x : Place) → is_quiet w ≡ true → place_sent w q u feed x ≡ x
sent-quiet what.Train q u feed x is = refl
sent-quiet what.Clear q u feed x is = refl
sent-quiet what.Start q u feed x is = refl
sent-quiet what.Null q u feed x is = refl
sent-quiet what.Pret q u feed x is = refl
sent-quiet what.Again q u feed x is = refl
sent-quiet what.Tret q u feed x is = absurd cc
sent-quiet what.New q u feed x is = absurd cc

step-quiet : (q : Profile) (retry n : ℕ) (t : List SenderEntry) (given : Given) (w : What) (flit : List ℕ) (old new : List PacketFields) → is_quiet w ≡ true → ListStep q retry n t given w flit old new → Steps q n t given w flit old new
step-quiet q retry n t given w flit old new quiet is =
    let l = entries.places q t in
    let queue = same-queue (begun_puts t) old new (is.queue ∙ ap (λ (b : List Put). b ++ map put_packet new) (begun-quiet t given w flit quiet)) in
    (λ i. list_by n (places-quiet q t given w flit quiet i) (queue i)) ∙ sym (map-same (place_sent w q (unfinished t) given.feed) (list_by n l old) (λ x. sent-quiet w q (unfinished t) given.feed x quiet))

step-tret : (q : Profile) (retry n : ℕ) (t : List SenderEntry) (given : Given) (flit : List ℕ) (old new : List PacketFields) → ListStep q retry n t given what.Tret flit old new → Steps q n t given what.Tret flit old new
unfolding begun_puts
step-tret q retry n t given flit old new is =
    let l = entries.places q t in
    let queue = same-queue (begun_puts t) old new is.queue in
    (λ i. list_by n (place-tret q t given flit i) (queue i))
    ∙ place-no n l (Place.known (next_packet q (pointer_of q l) (number_of l) (code_for given.due) tret_packet)) old is.few (tret-flow q (pointer_of q l) (number_of l) (code_for given.due))
    ∙ sym (map-same (place_sent what.Tret q (unfinished t) given.feed) (list_by n l old) (λ x. refl))

-- each flit
pub list-step : (q : Profile) (retry n : ℕ) (t : List SenderEntry) (given : Given) (w : What) (flit : List ℕ) (old new : List PacketFields) → ListStep q retry n t given w flit old new → Steps q n t given w flit old new
list-step q retry n t given what.New flit old new is = step-new q retry n t given flit old new (unfinished t) refl is
list-step q retry n t given what.Tret flit old new is = step-tret q retry n t given flit old new is
list-step q retry n t given what.Train flit old new is = step-quiet q retry n t given what.Train flit old new refl is
list-step q retry n t given what.Clear flit old new is = step-quiet q retry n t given what.Clear flit old new refl is
list-step q retry n t given what.Start flit old new is = step-quiet q retry n t given what.Start flit old new refl is
list-step q retry n t given what.Null flit old new is = step-quiet q retry n t given what.Null flit old new refl is
list-step q retry n t given what.Pret flit old new is = step-quiet q retry n t given what.Pret flit old new refl is
list-step q retry n t given what.Again flit old new is = step-quiet q retry n t given what.Again flit old new refl is

-- ---- a cut-through is begun

-- it is the last of the list, since nothing waits
pub list-begun : (begun : List Put) (n : ℕ) (l : List Place) (x : Place) (head : List ℕ) (flits : ℕ) (w : List PacketFields) → n ≤ length l → takes_tokens x ≡ true → (begun ++ put_through head flits ∷ []) ++ map put_packet w ≡ (begun ++ map put_packet w) ++ put_through head flits ∷ [] →
    list_by n (l ++ x ∷ []) w ≡ list_by n l w ++ listed_place x ∷ []
list-begun begun n l x head flits w le token e =
    let none = nothing w (append-left begun (put_through head flits ∷ map put_packet w) (map put_packet w ++ put_through head flits ∷ []) (sym (append_assoc begun (put_through head flits ∷ []) (map put_packet w)) ∙ e ∙ append_assoc begun (map put_packet w) (put_through head flits ∷ []))) in
    let before = map listed_place (filter takes_tokens (drop n l)) in
    place-yes n l x w le token ∙ ap (λ (v : List PacketFields). before ++ (listed_place x ∷ map listed_packet v)) none
    ∙ ap (λ (t : List Place). t ++ listed_place x ∷ []) (sym (append-nil before)) ∙ ap (λ (v : List PacketFields). (before ++ map listed_packet v) ++ listed_place x ∷ []) (sym none)
  where
    nothing : (w : List PacketFields) → put_through head flits ∷ map put_packet w ≡ map put_packet w ++ put_through head flits ∷ [] → w ≡ []
    nothing [] is = refl
    nothing (y ∷ w) is = absurd cc

-- ---- a packet is accepted

filter-known : (l : List PacketFields) → filter takes_tokens (map Place.known l) ≡ map Place.known (filter is_token l)
filter-known [] = refl
filter-known (x ∷ l) = by_token (is_token x) (filter-known l)
  where
    by_token : (b : Bool) → filter takes_tokens (map Place.known l) ≡ map Place.known (filter is_token l) →
        (if b then Place.known x ∷ filter takes_tokens (map Place.known l) else filter takes_tokens (map Place.known l)) ≡ map Place.known (if b then x ∷ filter is_token l else filter is_token l)
    by_token true e = ap (λ (t : List Place). Place.known x ∷ t) e
    by_token false e = e

listed-known : (l : List PacketFields) → map listed_place (map Place.known l) ≡ map listed_packet l
listed-known [] = refl
listed-known (x ∷ l) = ap (λ (t : List Place). listed_packet x ∷ t) (listed-known l)

-- the places, of which the first are these accepted packets
pub split-known : (accepted : List PacketFields) (l : List Place) → map Place.known accepted ≡ take (length accepted) l → l ≡ map Place.known accepted ++ drop (length accepted) l
split-known accepted l is = sym (take_drop (length accepted) l) ∙ ap (λ (t : List Place). t ++ drop (length accepted) l) (sym is)
  where
    take_drop : (n : ℕ) (l : List Place) → take n l ++ drop n l ≡ l
    take_drop zero l = refl
    take_drop (suc n) [] = refl
    take_drop (suc n) (x ∷ l) = ap (λ (t : List Place). x ∷ t) (take_drop n l)

pub list-accepted : (old new all : List PacketFields) (l : List Place) (w : List PacketFields) → all ≡ old ++ new → map Place.known old ≡ take (length old) l → map Place.known all ≡ take (length all) l →
    list_by (length old) l w ≡ map listed_packet (filter is_token new) ++ list_by (length all) l w
list-accepted old new all l w more before after =
    let n = length old in
    let m = length all in
    let e : map Place.known old ++ drop n l ≡ map Place.known old ++ (map Place.known new ++ drop m l) =
    sym (split-known old l before) ∙ split-known all l after ∙ ap (λ (t : List PacketFields). map Place.known t ++ drop m l) more ∙ ap (λ (t : List Place). t ++ drop m l) (map-append Place.known old new)
    ∙ append_assoc (map Place.known old) (map Place.known new) (drop m l) in
    let left = append-left (map Place.known old) (drop n l) (map Place.known new ++ drop m l) e in
    let rest = map listed_place (filter takes_tokens (drop m l)) in
    ap (λ (t : List Place). map listed_place (filter takes_tokens t) ++ map listed_packet w) left
    ∙ ap (λ (t : List Place). map listed_place t ++ map listed_packet w) (filter-append takes_tokens (map Place.known new) (drop m l) ∙ ap (λ (t : List Place). t ++ filter takes_tokens (drop m l)) (filter-known new))
    ∙ ap (λ (t : List Place). t ++ map listed_packet w) (map-append listed_place (map Place.known (filter is_token new)) (filter takes_tokens (drop m l)) ∙ ap (λ (t : List Place). t ++ rest) (listed-known (filter is_token new)))
    ∙ append_assoc (map listed_packet (filter is_token new)) rest (map listed_packet w)
