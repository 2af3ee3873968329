-- What is under way on a direction and known. A send that begins a packet of the output queue adds it,
-- and so does the end of the gathering of a packet that was forwarded; a landing that accepts a packet
-- takes the first, and no other entry changes it.
use Rattle.std.proofs.Common.{◌≡◌, ◌≤◌, ◌/◌, ◌∙◌, ◌==◌, ◌&&◌, ◌⊎◌, inl, inr, ℕ, zero, suc, Bool, true, false, if◌then◌else◌, Option, Some, None, List, [], ◌∷◌, ◌++◌, length, map, drop, slice_get, refl, sym, ap, ap₂, subst, arith, append-nil, append_assoc, length-append, eq-eqb, eqb-true}
use Rattle.std.specs.Prelude.{is_none, option_map, take}
use Rattle.std.proofs.lemmas.List.{drop-map, drop_at, length-map, map-append, drop-append-le}
use Rattle.std.proofs.lemmas.Option.{same_Some}
use Rattle.hmc_codes.specs.declared.place.Place.TheVariants as ports
use Rattle.hmc_codes.specs.declared.profile.Profile.{Profile}
use Rattle.hmc_packet.specs.Packet.{PacketFields, null_packet}
use Rattle.hmc_packet.specs.declared.feed.Feed.{Feed}
use Rattle.hmc_packet.specs.declared.outcome.Outcome.{Outcome}
use Rattle.hmc_packet.specs.declared.what.What.{What}
use Rattle.hmc_packet.specs.declared.what.What.TheVariants as what
use Rattle.hmc_packet.specs.Landings.{pending}
use Rattle.hmc_packet.specs.Parts.{lng_of}
use Rattle.hmc_send.specs.declared.numbers.Numbers.{Numbers}
use Rattle.hmc_send.specs.Copies.{place_fed}
use Rattle.hmc_send.specs.LinkEntries.{LinkEntry}
use Rattle.hmc_send.specs.Entries.{SenderEntry, Given, Part, UnderWay, unfinished, places, or_null, through_place, under_way, places_with}
use Rattle.hmc_send.specs.LinkSenders.{sender_entries, given_in, given_after, queue_in, places_in}
use Rattle.hmc_send.specs.Places.{Place, packet_in, with_last, next_packet, tret_packet, pointer_of, number_of, numbers_after}
use Rattle.hmc_send.proofs.LinkProjections.{sender-through}
use Rattle.hmc_tokens.specs.Account.{code_for}
use Rattle.hmc_wire.specs.LinkLaws.{IsKept}
use Rattle.hmc_wire.proofs.LawsHold.{direction-laws}
use Rattle.hmc_wire.proofs.OpenPlaces.{AreKnown, IsOpen, open_place, last-fed_known, under-open}
use Rattle.hmc_journal.specs.Choice.{choose}
use Rattle.hmc_entries.specs.declared.entry.Entry.{Entry}
use Rattle.hmc_entries.specs.declared.entry.Entry.TheVariants.{Sent, Landed, Through}
use Rattle.hmc_journal.specs.Carried.{begun_on, underway_on, place_with}
use Rattle.hmc_journal.specs.Delivered.{unnumbered}
use Rattle.hmc_journal.specs.Directions.{unsent, awaits_first, receiver_of, profile_of, landed_packets, accepted}
use Rattle.hmc_journal.specs.Links.{toward, sizes_on, entries_on, direction_to}
use Rattle.hmc_journal.specs.Piped.{PipeFrom, pipe_onto, pipe_of, fed, while_gathering}
use Rattle.hmc_journal.specs.Queues.{front_of, contents}
use Rattle.hmc_journal.specs.Queues.QueueId.{Output}
use Rattle.hmc_journal.specs.Setup.{Topology}
use Rattle.hmc_through.specs.Pipe.{PipeFields}
use Rattle.hmc_laws.proofs.Buffers.{accepted-same, accepted_more}
use Rattle.hmc_laws.proofs.CopyWhole.{copy_from, place-waits, place-known}
use Rattle.hmc_laws.proofs.KeptPast.{kept_past}
use Rattle.hmc_laws.proofs.KnownCopies.{known_of, open_of, known_in, shown_in, known_in-append, known_in-push, known_in-same, shown-known, shown-open, accepted-known, known-fed}
use Rattle.hmc_laws.proofs.LinkHanded.{IsSentAs, new_left}
use Rattle.hmc_journal.proofs.LinkKept.{opened}
use Rattle.hmc_laws.proofs.NoSends.{IsOfSends, IsNoSend, no-send, sent-elsewhere, through-elsewhere, through-here}
use Rattle.hmc_laws.proofs.OpenParts.{through_free}
use Rattle.hmc_laws.proofs.Piping.{UpPiped}
use Rattle.hmc_laws.proofs.PipeSteps.{IsUp, IsThrough, IsNoPipe, came_is, pipe_same, pipe_through}
use Rattle.hmc_journal.proofs.Projections.{feed_in, IsNoLanding}
use Rattle.hmc_delivery.proofs.Seen.{last_packet}
use Rattle.hmc_laws.proofs.UnsentFlits.{waits, left_begun, SendFacts, AreGathered, new_left-some, is_sending, unsent_is}
use Rattle.hmc_laws.proofs.Entering.{accepted_are}
use Rattle.hmc_laws.proofs.SoundSends.{output_is}
use Rattle.hmc_journal.proofs.Packets.{front_is_first}

-- ---- what is known

abbrev pub places_on : Topology → ℕ → List Entry → List Place
places_on topology d past = places_in (sizes_on topology d) (toward d) (entries_on topology d past)

-- the packets that were begun on a direction, and that are known
abbrev pub known_on : Topology → ℕ → List Entry → List PacketFields
known_on topology d past = known_in (profile_of topology d) (pipe_onto topology d past) (places_on topology d past)

-- those of them that weren't accepted yet
abbrev pub line_on : Topology → ℕ → List Entry → List PacketFields
line_on topology d past = drop (length (accepted topology d past)) (known_on topology d past)

of_sends-places : (q : Profile) → IsOfSends (places q)
unfolding places
of_sends-places q = record { acknowledged = λ past n. refl; ran = λ past. refl }

-- the accepted packets are the first of those that are known
pub accepted_first : (topology : Topology) (d : ℕ) (past : List Entry) → IsKept (sizes_on topology d) (entries_on topology d past) → known_on topology d past ≡ accepted topology d past ++ line_on topology d past
accepted_first topology d past kept =
    let laws = direction-laws (sizes_on topology d) (toward d) (entries_on topology d past) kept in
    accepted-known (profile_of topology d) (pipe_onto topology d past) (places_on topology d past) (accepted topology d past)
    (subst (λ (l : List PacketFields). map Place.known l ≡ take (length l) (places_on topology d past)) (sym (accepted_are topology d past)) laws.accepted)

-- ---- a NULL is shown for a copy that isn't known yet

pub record IsShown (topology : Topology) (d : ℕ) (past : List Entry) : Type 0 where
  pub rest : List PacketFields
  pub is : (rest ≡ []) ⊎ (rest ≡ null_packet ∷ [])
  pub are : underway_on topology d past ≡ line_on topology d past ++ rest

open_null : (place : Place) → (open_of place ≡ []) ⊎ (open_of place ≡ null_packet ∷ [])
open_null (Place.known packet) = inl refl
open_null (Place.awaited head flits numbers) = inr refl

drop_known : (accepted line known rest : List PacketFields) → known ≡ accepted ++ line → drop (length accepted) (known ++ rest) ≡ line ++ rest
drop_known accepted line known rest is =
    ap (λ l. drop (length accepted) (l ++ rest)) is ∙ ap (drop (length accepted)) (append_assoc accepted line rest) ∙ drop_at accepted (line ++ rest) (length accepted) refl

pub is_shown : (topology : Topology) (d : ℕ) (past : List Entry) → IsKept (sizes_on topology d) (entries_on topology d past) → IsShown topology d past
is_shown topology d past kept =
    let q = profile_of topology d in
    let pipe = pipe_onto topology d past in
    let n = length (accepted topology d past) in
    elim (opened (sizes_on topology d) (toward d) (entries_on topology d past) kept) [
      | inl known ↦ record { rest = []; is = inl refl; are = ap (drop n) (shown-known q pipe (places_on topology d past) known) ∙ sym (append-nil (line_on topology d past)) }
      | inr o ↦
          let x = place_with q pipe (open_place o) in
          let shown : begun_on topology d past ≡ known_on topology d past ++ open_of x =
          ap (shown_in q pipe) o.places ∙ shown-open q pipe o.before (open_place o) o.known ∙ ap (λ l. known_in q pipe l ++ open_of x) (sym o.places) in
          record { rest = open_of x; is = open_null x; are = ap (drop n) shown ∙ drop_known (accepted topology d past) (line_on topology d past) (known_on topology d past) (open_of x) (accepted_first topology d past kept) }
    ]

-- ---- entries that change nothing of it

pub known-quiet : (topology : Topology) (d : ℕ) (entry : Entry) (past : List Entry) → IsNoSend entry → pipe_onto topology d (entry ∷ past) ≡ pipe_onto topology d past → known_on topology d (entry ∷ past) ≡ known_on topology d past
known-quiet topology d entry past quiet same =
    ap₂ (known_in (profile_of topology d)) same (no-send (places (sizes_on topology d).profile) (of_sends-places (sizes_on topology d).profile) topology d entry past quiet)

pub underway-quiet : (topology : Topology) (d : ℕ) (entry : Entry) (past : List Entry) → IsNoSend entry → IsNoPipe entry → IsNoLanding entry → line_on topology d (entry ∷ past) ≡ line_on topology d past
underway-quiet topology d entry past no_send no_pipe no_landing =
    ap₂ (λ (l : List PacketFields) (m : List PacketFields). drop (length l) m) (accepted-same topology d entry past no_landing) (known-quiet topology d entry past no_send (pipe_same topology d entry past no_pipe))

pub underway-elsewhere : (topology : Topology) (d direction : ℕ) (as_what : What) (flit : List ℕ) (past : List Entry) → (direction == d) ≡ false → line_on topology d (Sent direction as_what flit ∷ past) ≡ line_on topology d past
underway-elsewhere topology d direction as_what flit past off =
    ap₂ (λ (l : List PacketFields) (m : List PacketFields). drop (length l) m) (accepted-same topology d (Sent direction as_what flit) past tt)
    (ap₂ (known_in (profile_of topology d)) (pipe_same topology d (Sent direction as_what flit) past tt) (sent-elsewhere (places (sizes_on topology d).profile) topology d direction as_what flit past off))

-- ---- sends

-- a first flit begins the front of the output queue
abbrev pub new_begun : (forwarded : Bool) → (unsent : ℕ) → PacketFields → List PacketFields
new_begun false zero front = front ∷ []
new_begun _ unsent front = []

abbrev pub begins_with : What → (forwarded : Bool) → (unsent : ℕ) → PacketFields → List PacketFields
begins_with what.New forwarded left front = new_begun forwarded left front
begins_with what.Tret forwarded left front = tret_packet ∷ []
begins_with _ forwarded left front = []

-- it does exactly where no packet is under way
new_begins : (waiting : Bool) (n : ℕ) (u : Option Part) (given : Given) (flit : List ℕ) (front : PacketFields) → n ≡ left_begun u → waiting ≡ waits u → IsSentAs what.New u given → SendFacts what.New flit u → new_begun waiting n front ≡ (if is_none u then front ∷ [] else [])
new_begins true n None given flit front left awaits sends facts = absurd (let clash : true ≡ false = awaits in cc)
new_begins true n (Some part) given flit front left awaits sends facts = refl
new_begins false zero None given flit front left awaits sends facts = refl
new_begins false (suc n) None given flit front left awaits sends facts = absurd (omega arith)
new_begins false zero (Some part) given flit front left awaits sends facts =
    let more = facts.more part refl in
    let now = new_left-some part sends in
    let same : left_begun (Some part) ≡ new_left (Some part) = ap (λ (b : Bool). if b then 0 else new_left (Some part)) (sym awaits) in absurd (omega arith)
new_begins false (suc n) (Some part) given flit front left awaits sends facts = refl

unnumbered_more : (known : List PacketFields) (packet : PacketFields) → map unnumbered (known ++ packet ∷ []) ≡ map unnumbered known ++ unnumbered packet ∷ []
unnumbered_more known packet = map-append unnumbered known (packet ∷ [])

-- what is fed changes nothing of what is known
abbrev FedKeeps : Profile → Option PipeFrom → List SenderEntry → Given → Type 0
FedKeeps q pipe T given = (part : Part) → unfinished T ≡ Some part → known_in q pipe (with_last (place_fed q part.sent given.feed) (places q T)) ≡ known_in q pipe (places q T)

known_by : (q : Profile) (pipe : Option PipeFrom) (as_what : What) (T : List SenderEntry) (given : Given) (flit : List ℕ) (waiting : Bool) (n : ℕ) (front : PacketFields) → IsSentAs as_what (unfinished T) given → SendFacts as_what flit (unfinished T)
    → n ≡ left_begun (unfinished T) → waiting ≡ waits (unfinished T) → FedKeeps q pipe T given → ((x : PacketFields) → given.front ≡ Some x → front ≡ x)
    → map unnumbered (known_in q pipe (places q (SenderEntry.sent given as_what flit ∷ T))) ≡ map unnumbered (known_in q pipe (places q T)) ++ map unnumbered (begins_with as_what waiting n front)
unfolding places
known_by q pipe what.New T given flit waiting n front sends facts left awaits keeps is = by_part (unfinished T) refl sends facts left awaits
  where
    l : List Place
    l = places q T

    by_part : (u : Option Part) → unfinished T ≡ u → IsSentAs what.New u given → SendFacts what.New flit u → n ≡ left_begun u → waiting ≡ waits u
        → map unnumbered (known_in q pipe (places_with q u given l)) ≡ map unnumbered (known_in q pipe l) ++ map unnumbered (new_begun waiting n front)
    by_part None at has more left awaits =
        let same : or_null given.front ≡ front = ap or_null has.is ∙ sym (is has.front has.is) in
        ap (map unnumbered) (known_in-push q pipe l (next_packet q (pointer_of q l) (number_of l) (code_for given.due) (or_null given.front)))
        ∙ unnumbered_more (known_in q pipe l) (next_packet q (pointer_of q l) (number_of l) (code_for given.due) (or_null given.front))
        ∙ ap (λ (p : PacketFields). map unnumbered (known_in q pipe l) ++ unnumbered p ∷ []) same
        ∙ ap (λ k. map unnumbered (known_in q pipe l) ++ map unnumbered k) (sym (new_begins waiting n None given flit front left awaits has more))
    by_part (Some part) at new more left awaits =
        ap (map unnumbered) (keeps part at) ∙ sym (append-nil (map unnumbered (known_in q pipe l)))
        ∙ ap (λ k. map unnumbered (known_in q pipe l) ++ map unnumbered k) (sym (new_begins waiting n (Some part) given flit front left awaits new more))
known_by q pipe what.Tret T given flit waiting n front sends facts left awaits keeps is =
    let l = places q T in
    ap (map unnumbered) (known_in-push q pipe l (next_packet q (pointer_of q l) (number_of l) (code_for given.due) tret_packet)) ∙ unnumbered_more (known_in q pipe l) (next_packet q (pointer_of q l) (number_of l) (code_for given.due) tret_packet)
known_by q pipe what.Again T given flit waiting n front sends facts left awaits keeps is = sym (append-nil (map unnumbered (known_in q pipe (places q T))))
known_by q pipe what.Train T given flit waiting n front sends facts left awaits keeps is = sym (append-nil (map unnumbered (known_in q pipe (places q T))))
known_by q pipe what.Clear T given flit waiting n front sends facts left awaits keeps is = sym (append-nil (map unnumbered (known_in q pipe (places q T))))
known_by q pipe what.Start T given flit waiting n front sends facts left awaits keeps is = sym (append-nil (map unnumbered (known_in q pipe (places q T))))
known_by q pipe what.Null T given flit waiting n front sends facts left awaits keeps is = sym (append-nil (map unnumbered (known_in q pipe (places q T))))
known_by q pipe what.Pret T given flit waiting n front sends facts left awaits keeps is = sym (append-nil (map unnumbered (known_in q pipe (places q T))))

given_feed : (topology : Topology) (d : ℕ) (past : List Entry) (feed : Feed) → (given_in (sizes_on topology d) (toward d) (entries_on topology d past) feed).feed ≡ feed
unfolding given_after
given_feed topology d past feed = refl

open_fed : (topology : Topology) (d : ℕ) (past : List Entry) (o : IsOpen (sizes_on topology d).profile (sender_entries (sizes_on topology d) (toward d) (entries_on topology d past))) → IsUp topology d past
    → known_in (profile_of topology d) (pipe_onto topology d past) (with_last (place_fed (profile_of topology d) o.part.sent (feed_in topology (d / 2) d past (toward d))) (places_on topology d past)) ≡ known_on topology d past
open_fed topology d past o up = by_pipe (pipe_onto topology d past) refl (subst (UpPiped (pipe_onto topology d past)) under up)
  where
    q : Profile
    q = profile_of topology d

    T : List SenderEntry
    T = sender_entries (sizes_on topology d) (toward d) (entries_on topology d past)

    under : under_way q T ≡ Some (record { part = o.part; place = open_place o })
    under = under-open q T o

    by_pipe : (pipe : Option PipeFrom) → pipe_onto topology d past ≡ pipe → UpPiped pipe (Some (record { part = o.part; place = open_place o }))
        → known_in q pipe (with_last (place_fed q o.part.sent (fed (through_place (under_way q T)) pipe)) (places_on topology d past)) ≡ known_in q pipe (places_on topology d past)
    by_pipe None at is = absurd is
    by_pipe (Some p) at is =
        ap₂ (λ (u : Option UnderWay) (l : List Place). known_in q (Some p) (with_last (place_fed q o.part.sent (fed (through_place u) (Some p))) l)) under o.places
        ∙ known-fed q p o.part o.before o.head o.count o.numbers is ∙ ap (known_in q (Some p)) (sym o.places)

fed_keeps : (topology : Topology) (d : ℕ) (past : List Entry) (given : Given) → given.feed ≡ feed_in topology (d / 2) d past (toward d) → IsKept (sizes_on topology d) (entries_on topology d past) → IsUp topology d past
    → FedKeeps (profile_of topology d) (pipe_onto topology d past) (sender_entries (sizes_on topology d) (toward d) (entries_on topology d past)) given
fed_keeps topology d past given feed_is kept up part at =
    let q = profile_of topology d in
    let pipe = pipe_onto topology d past in
    elim (opened (sizes_on topology d) (toward d) (entries_on topology d past) kept) [
      | inl known ↦ ap (known_in q pipe) (last-fed_known q part.sent given.feed (places_on topology d past) known)
      | inr o ↦
          let same : part ≡ o.part = same_Some part o.part (sym at ∙ o.under) in
          (λ i. known_in q pipe (with_last (place_fed q (same i).sent (feed_is i)) (places_on topology d past))) ∙ open_fed topology d past o up
    ]

pub known-sent : (topology : Topology) (d : ℕ) (as_what : What) (flit : List ℕ) (past : List Entry) → IsKept (sizes_on topology d) (entries_on topology d (Sent d as_what flit ∷ past)) → AreGathered topology past → IsUp topology d past
    → map unnumbered (known_on topology d (Sent d as_what flit ∷ past)) ≡ map unnumbered (known_on topology d past) ++ map unnumbered (begins_with as_what (awaits_first d past) (unsent d past) (front_of (contents topology past (Output d))))
unfolding given_after
known-sent topology d as_what flit past kept gathered up =
    let sizes = sizes_on topology d in
    let q = profile_of topology d in
    let before = entries_on topology d past in
    let T = sender_entries sizes (toward d) before in
    let pipe = pipe_onto topology d past in
    let sending = is_sending topology d as_what flit past kept in
    let was = kept_past sizes topology (d / 2) (Sent d as_what flit) past kept in
    let at_front : sending.given.front ≡ slice_get (queue_in sizes (toward d) before) 0 = ap (λ (g : Given). g.front) sending.is in
    let feed : sending.given.feed ≡ feed_in topology (d / 2) d past (toward d) = ap (λ (g : Given). g.feed) sending.is ∙ given_feed topology d past (feed_in topology (d / 2) d past (toward d)) in
    let unsent_now = unsent_is topology d past gathered was in
    (λ i. map unnumbered (known_in q (pipe_same topology d (Sent d as_what flit) past tt i) (places q (sending.after i))))
    ∙ known_by q pipe as_what T sending.given flit (awaits_first d past) (unsent d past) (front_of (contents topology past (Output d))) sending.sent sending.facts unsent_now.left unsent_now.awaits (fed_keeps topology d past sending.given feed was up)
    (λ x is. front_is_first (contents topology past (Output d)) x (ap (λ l. slice_get l 0) (output_is topology d past gathered was) ∙ sym at_front ∙ is))

pub accepted_within : (topology : Topology) (d : ℕ) (past : List Entry) → IsKept (sizes_on topology d) (entries_on topology d past) → length (accepted topology d past) ≤ length (known_on topology d past)
accepted_within topology d past kept =
    let many : length (known_on topology d past) ≡ length (accepted topology d past ++ line_on topology d past) = ap length (accepted_first topology d past kept) in
    omega (arith, length-append (accepted topology d past) (line_on topology d past))

-- apart from their numbers
pub underway-sent : (topology : Topology) (d : ℕ) (as_what : What) (flit : List ℕ) (past : List Entry) → IsKept (sizes_on topology d) (entries_on topology d (Sent d as_what flit ∷ past)) → AreGathered topology past → IsUp topology d past
    → map unnumbered (line_on topology d (Sent d as_what flit ∷ past)) ≡ map unnumbered (line_on topology d past) ++ map unnumbered (begins_with as_what (awaits_first d past) (unsent d past) (front_of (contents topology past (Output d))))
underway-sent topology d as_what flit past kept gathered up =
    let was = kept_past (sizes_on topology d) topology (d / 2) (Sent d as_what flit) past kept in
    let n = length (accepted topology d past) in
    let within = accepted_within topology d past was in
    let same : n ≤ length (map unnumbered (known_on topology d past)) = omega (arith, length-map (known_on topology d past) unnumbered) in
    let more = map unnumbered (begins_with as_what (awaits_first d past) (unsent d past) (front_of (contents topology past (Output d)))) in
    ap (λ l. map unnumbered (drop (length l) (known_on topology d (Sent d as_what flit ∷ past)))) (accepted-same topology d (Sent d as_what flit) past tt)
    ∙ sym (drop-map unnumbered n (known_on topology d (Sent d as_what flit ∷ past))) ∙ ap (drop n) (known-sent topology d as_what flit past kept gathered up)
    ∙ drop-append-le n (map unnumbered (known_on topology d past)) more same
    ∙ ap (λ l. l ++ more) (drop-map unnumbered n (known_on topology d past))

-- ---- cut-throughs

-- each place has its packet where none is under way
free_known : (topology : Topology) (d : ℕ) (past : List Entry) → IsKept (sizes_on topology d) (entries_on topology d past) → unfinished (sender_entries (sizes_on topology d) (toward d) (entries_on topology d past)) ≡ None → AreKnown (places_on topology d past)
free_known topology d past kept free =
    elim (opened (sizes_on topology d) (toward d) (entries_on topology d past) kept) [
      | inl known ↦ known
      | inr o ↦ absurd (let clash : None ≡ Some o.part = sym free ∙ o.under in cc)
    ]

places_through : (q : Profile) (head : List ℕ) (flits due : ℕ) (T : List SenderEntry)
    → places q (SenderEntry.through head flits due ∷ T) ≡ places q T ++ Place.awaited head flits (numbers_after q (pointer_of q (places q T)) (number_of (places q T)) flits (code_for due)) ∷ []
unfolding places
places_through q head flits due T = refl

known_waits : (q : Profile) (topology : Topology) (from : ℕ) (came : List (List ℕ)) (l : List Place) (head : List ℕ) (count : ℕ) (n : Numbers) (other : Option PipeFrom) → AreKnown l
    → known_in q (Some (pipe_of topology from came)) (l ++ Place.awaited head count n ∷ []) ≡ known_in q other l
known_waits q topology from came l head count n other known =
    let pipe = pipe_of topology from came in
    known_in-append q (Some pipe) l (Place.awaited head count n ∷ [])
    ∙ ap (λ (x : Place). known_in q (Some pipe) l ++ (known_of x ++ [])) (place-waits q pipe.from pipe.pipe.flits pipe.pipe.profile pipe.pipe.came head count n)
    ∙ append-nil (known_in q (Some pipe) l) ∙ known_in-same q (Some pipe) other l known

known-through : (topology : Topology) (d cube port direction : ℕ) (past : List Entry) (here : Bool) → (direction == d) ≡ here → IsThrough topology past cube port
    → IsKept (sizes_on topology d) (entries_on topology d (Through cube port direction ∷ past)) → known_on topology d (Through cube port direction ∷ past) ≡ known_on topology d past
known-through topology d cube port direction past false here through kept =
    ap₂ (known_in (profile_of topology d))
    (pipe_through topology d cube port direction past
    ∙ ap (λ (b : Bool). choose b (option_map (λ from. pipe_of topology from (pending (receiver_of from past))) (direction_to topology (ports.Port cube port))) (pipe_onto topology d past)) here)
    (through-elsewhere (places (sizes_on topology d).profile) topology d cube port direction past here)
known-through topology d cube port direction past true here through kept =
    let one : direction ≡ d = eqb-true direction d here in
    subst (λ (e : ℕ). known_on topology d (Through cube port e ∷ past) ≡ known_on topology d past) (sym one) (through_now (subst (λ (e : ℕ). IsKept (sizes_on topology d) (entries_on topology d (Through cube port e ∷ past))) one kept))
  where
    through_now : IsKept (sizes_on topology d) (entries_on topology d (Through cube port d ∷ past)) → known_on topology d (Through cube port d ∷ past) ≡ known_on topology d past
    through_now now =
        let sizes = sizes_on topology d in
        let q = profile_of topology d in
        let before = entries_on topology d past in
        let head = through.head in
        let at = through-here topology d cube port head through.rest past (came_is topology past cube port through) in
        let kept_now : IsKept sizes (LinkEntry.through (toward d) head (lng_of head) ∷ before) = subst (IsKept sizes) at now in
        let was = kept_past sizes topology (d / 2) (Through cube port d) past now in
        let known = free_known topology d past was (through_free sizes (toward d) head (lng_of head) before kept_now) in
        let came = pending (receiver_of through.from past) in
        let pipe : pipe_onto topology d (Through cube port d ∷ past) ≡ Some (pipe_of topology through.from came) =
        pipe_through topology d cube port d past
        ∙ ap (λ (b : Bool). choose b (option_map (λ from. pipe_of topology from (pending (receiver_of from past))) (direction_to topology (ports.Port cube port))) (pipe_onto topology d past)) (eq-eqb d d refl)
        ∙ ap (option_map (λ from. pipe_of topology from (pending (receiver_of from past)))) through.arrives in
        let begun = ap (λ l. places q (sender_entries sizes (toward d) l)) at ∙ ap (places q) (sender-through sizes (toward d) head (lng_of head) before) ∙ places_through q head (lng_of head) _ _ in
        ap₂ (known_in q) pipe begun ∙ known_waits q topology through.from came (places_on topology d past) head (lng_of head) _ (pipe_onto topology d past) known

pub underway-through : (topology : Topology) (d cube port direction : ℕ) (past : List Entry) → IsThrough topology past cube port → IsKept (sizes_on topology d) (entries_on topology d (Through cube port direction ∷ past))
    → line_on topology d (Through cube port direction ∷ past) ≡ line_on topology d past
underway-through topology d cube port direction past through kept =
    ap₂ (λ (l : List PacketFields) (m : List PacketFields). drop (length l) m) (accepted-same topology d (Through cube port direction) past tt) (known-through topology d cube port direction past (direction == d) refl through kept)

-- ---- landings

-- a landing takes what it accepts off the front, where the same packets are known
pub underway-landed : (topology : Topology) (d : ℕ) (flit : List ℕ) (outcome : Outcome) (past : List Entry) → IsKept (sizes_on topology d) (entries_on topology d (Landed d flit outcome ∷ past)) → known_on topology d (Landed d flit outcome ∷ past) ≡ known_on topology d past
    → line_on topology d past ≡ landed_packets topology d flit outcome past ++ line_on topology d (Landed d flit outcome ∷ past)
underway-landed topology d flit outcome past kept same =
    let landed = landed_packets topology d flit outcome past in
    let was = accepted topology d past in
    let rest = line_on topology d (Landed d flit outcome ∷ past) in
    let parts : known_on topology d past ≡ was ++ (landed ++ rest) =
    sym same ∙ accepted_first topology d (Landed d flit outcome ∷ past) kept ∙ ap (λ l. l ++ rest) (accepted_more topology d flit outcome past) ∙ append_assoc was landed rest in
    ap (drop (length was)) parts ∙ drop_at was (landed ++ rest) (length was) refl

-- ---- the end of a gathering

-- only the pipe onto the direction changes that the packet is forwarded onto
pub pipe_elsewhere : (topology : Topology) (d e : ℕ) (past : List Entry) (change : PipeFields → PipeFields) → ((p : PipeFrom) → pipe_onto topology d past ≡ Some p → p.pipe.good ≡ None → p.from ≡ e → ⊥)
    → option_map (while_gathering e change) (pipe_onto topology d past) ≡ pipe_onto topology d past
pipe_elsewhere topology d e past change never = by_pipe (pipe_onto topology d past) refl
  where
    none_is : (good : Option Bool) → is_none good ≡ true → good ≡ None
    none_is None is = refl
    none_is (Some good) is = absurd (cc)

    both : (a b : Bool) → (a && b) ≡ true → (a ≡ true) × (b ≡ true)
    both true b is = (refl, is)
    both false b is = absurd (cc)

    by_test : (p : PipeFrom) (now : Bool) → ((p.from == e) && is_none p.pipe.good) ≡ now → pipe_onto topology d past ≡ Some p → (if now then record p { pipe = change p.pipe } else p) ≡ p
    by_test p false at is = refl
    by_test p true at is =
        let parts = both (p.from == e) (is_none p.pipe.good) at in
        absurd (never p is (none_is p.pipe.good parts.1) (eqb-true p.from e parts.0))

    by_pipe : (pipe : Option PipeFrom) → pipe_onto topology d past ≡ pipe → option_map (while_gathering e change) pipe ≡ pipe
    by_pipe None is = refl
    by_pipe (Some p) is = ap (λ (x : PipeFrom). Some x) (by_test p _ refl is)

-- the pipe of a packet, with other flits
abbrev pub piped_with : PipeFrom → (came : List (List ℕ)) → (good : Option Bool) → PipeFrom
piped_with p came good = record { from = p.from; pipe = record { flits = p.pipe.flits; profile = p.pipe.profile; came = came; good = good } }

-- once the gathering has ended the copy is known
abbrev pub copy_on : Topology → (d : ℕ) → PipeFrom → (came : List (List ℕ)) → (good : Bool) → Numbers → PacketFields
copy_on topology d p came good n = copy_from (profile_of topology d) p.pipe.flits p.pipe.profile came good n

last_pushed : (xs : List PacketFields) (x : PacketFields) → last_packet (xs ++ x ∷ []) ≡ x
last_pushed [] x = refl
last_pushed (y ∷ []) x = refl
last_pushed (y ∷ z ∷ xs) x = last_pushed (z ∷ xs) x

-- what is known while an open place waits
open_known : (topology : Topology) (d : ℕ) (past : List Entry) (p : PipeFrom) (came : List (List ℕ)) (o : IsOpen (sizes_on topology d).profile (sender_entries (sizes_on topology d) (toward d) (entries_on topology d past)))
    → pipe_onto topology d past ≡ Some (piped_with p came None) → known_on topology d past ≡ known_in (profile_of topology d) None o.before
open_known topology d past p came o was =
    let q = profile_of topology d in
    let pipe = piped_with p came None in
    ap₂ (known_in q) was o.places ∙ known_in-append q (Some pipe) o.before (open_place o ∷ [])
    ∙ ap (λ (x : Place). known_in q (Some pipe) o.before ++ (known_of x ++ [])) (place-waits q p.from p.pipe.flits p.pipe.profile came o.head o.count o.numbers)
    ∙ append-nil (known_in q (Some pipe) o.before) ∙ known_in-same q (Some pipe) None o.before o.known

pub record CopyKnown (topology : Topology) (d : ℕ) (journal past : List Entry) (copy : PacketFields) : Type 0 where
  pub known : known_on topology d journal ≡ known_on topology d past ++ copy ∷ []
  pub last : last_packet (begun_on topology d journal) ≡ copy

pub copy_known : (topology : Topology) (d : ℕ) (journal past : List Entry) (p : PipeFrom) (gathered came : List (List ℕ)) (good : Bool)
    → (o : IsOpen (sizes_on topology d).profile (sender_entries (sizes_on topology d) (toward d) (entries_on topology d past))) → 1 ≤ p.pipe.flits
    → pipe_onto topology d past ≡ Some (piped_with p gathered None) → pipe_onto topology d journal ≡ Some (piped_with p came (Some good)) → places_on topology d journal ≡ places_on topology d past
    → CopyKnown topology d journal past (copy_on topology d p came good o.numbers)
copy_known topology d journal past p gathered came good o some was now same =
    let q = profile_of topology d in
    let pipe = piped_with p came (Some good) in
    let copy = copy_on topology d p came good o.numbers in
    let x = open_place o in
    let at : place_with q (Some pipe) x ≡ Place.known copy = place-known q p.from p.pipe.flits p.pipe.profile came good o.head o.count o.numbers some in
    let first = open_known topology d past p gathered o was in record {
      known =
          ap₂ (known_in q) now (same ∙ o.places) ∙ known_in-append q (Some pipe) o.before (x ∷ []) ∙ ap (λ (y : Place). known_in q (Some pipe) o.before ++ (known_of y ++ [])) at
          ∙ ap (λ l. l ++ copy ∷ []) (known_in-same q (Some pipe) None o.before o.known ∙ sym first);
      last =
          ap last_packet (ap₂ (shown_in q) now (same ∙ o.places) ∙ map-append (λ y. packet_in (place_with q (Some pipe) y)) o.before (x ∷ []))
          ∙ last_pushed (shown_in q (Some pipe) o.before) (packet_in (place_with q (Some pipe) x)) ∙ ap packet_in at;
    }

-- and a flit that comes before the end changes nothing
pub copy_waits : (topology : Topology) (d : ℕ) (journal past : List Entry) (p : PipeFrom) (gathered came : List (List ℕ)) → (o : IsOpen (sizes_on topology d).profile (sender_entries (sizes_on topology d) (toward d) (entries_on topology d past)))
    → pipe_onto topology d past ≡ Some (piped_with p gathered None) → pipe_onto topology d journal ≡ Some (piped_with p came None)
    → places_on topology d journal ≡ places_on topology d past → known_on topology d journal ≡ known_on topology d past
copy_waits topology d journal past p gathered came o was now same =
    let q = profile_of topology d in
    let pipe = piped_with p came None in
    ap₂ (known_in q) now (same ∙ o.places) ∙ known_in-append q (Some pipe) o.before (open_place o ∷ [])
    ∙ ap (λ (x : Place). known_in q (Some pipe) o.before ++ (known_of x ++ [])) (place-waits q p.from p.pipe.flits p.pipe.profile came o.head o.count o.numbers)
    ∙ append-nil (known_in q (Some pipe) o.before) ∙ known_in-same q (Some pipe) None o.before o.known ∙ sym (open_known topology d past p gathered o was)

pub places_landed : (topology : Topology) (d : ℕ) (entry : Entry) (past : List Entry) → IsNoSend entry → places_on topology d (entry ∷ past) ≡ places_on topology d past
places_landed topology d entry past quiet = no-send (places (sizes_on topology d).profile) (of_sends-places (sizes_on topology d).profile) topology d entry past quiet
