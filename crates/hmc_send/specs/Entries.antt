-- What a sender did, read off its entries: a list with the newest entry first. What was begun is in
-- its order, the oldest first.
use Rattle.std.specs.Prelude.{ℕ, suc, ◌+◌, ◌-◌, ◌%◌, max, Bool, true, false, ◌==◌, if◌then◌else◌, List, [], ◌∷◌, ◌++◌, length, drop, Option, Some, None, is_none}
use Rattle.hmc_codes.specs.declared.profile.Profile.{Profile}
use Rattle.hmc_packet.specs.declared.feed.Feed.{Feed}
use Rattle.hmc_packet.specs.declared.view.View.{View}
use Rattle.hmc_packet.specs.declared.what.What.{What}
use Rattle.hmc_packet.specs.declared.what.What.TheVariants as what
use Rattle.hmc_packet.specs.Packet.{PacketFields, null_packet}
use Rattle.hmc_packet.specs.Parts.{lng_of}
use Rattle.hmc_tokens.specs.Account.{code_for}
use Rattle.hmc_send.specs.Copies.{place_fed}
use Rattle.hmc_send.specs.Places.{Place, flits_in, pointer_of, number_of, numbers_after, next_packet, tret_packet, place_at, with_last}

-- what a send is given: the mode and the return pointer of the receiver at its own end, the front
-- of the output queue, the tokens held and due, and what a packet that is passed on offers next
pub record Given : Type 0 where
  pub own : View
  pub front : Option PacketFields
  pub held : ℕ
  pub due : ℕ
  pub feed : Feed

-- an entry of a sender: a flit was sent; the other end's run of Starts was counted; so many packets
-- are acknowledged in all; or a cut-through was begun while so many tokens were due
pub data SenderEntry : Type 0 where
  sent : Given → What → (flit : List ℕ) → SenderEntry
  ran : SenderEntry
  acknowledged : (packets : ℕ) → SenderEntry
  through : (head : List ℕ) → (flits due : ℕ) → SenderEntry

-- a packet that is begun and has flits left: whether it is sent again, its length, and its flits
-- that were sent
pub record Part : Type 0 where
  pub again : Bool
  pub flits : ℕ
  pub sent : List (List ℕ)

-- one more of its flits is sent; nothing is left after the last
abbrev pub part_with : Part → (flit : List ℕ) → Option Part
part_with part flit =
    if suc (length part.sent) == part.flits then None
    else Some (record part { sent = part.sent ++ flit ∷ [] })

-- a flit begins a packet, or goes on with the one that is unfinished
abbrev pub part_after : (again : Bool) → (flit : List ℕ) → Option Part → Option Part
part_after again flit None =
    part_with (record { again = again; flits = lng_of flit; sent = [] }) flit
part_after again flit (Some part) = part_with part flit

-- the packet that is begun and unfinished; a TRET is one flit
unfoldable pub unfinished : List SenderEntry → Option Part
unfinished [] = None
unfinished (SenderEntry.sent given what.New flit ∷ past) = part_after false flit (unfinished past)
unfinished (SenderEntry.sent given what.Again flit ∷ past) =
    part_after true flit (unfinished past)
unfinished (SenderEntry.through head flits due ∷ past) =
    Some (record { again = false; flits = flits; sent = [] })
unfinished (_ ∷ past) = unfinished past

abbrev pub or_null : Option PacketFields → PacketFields
or_null None = null_packet
or_null (Some packet) = packet

-- a place more, for this packet, which returns as many due tokens as one can
abbrev pub with_packet : Profile → (due : ℕ) → PacketFields → List Place → List Place
with_packet profile due packet places =
    places
    ++ Place.known
    (next_packet profile (pointer_of profile places) (number_of places) (code_for due) packet)
    ∷ []

-- a `New` flit begins the front of the queue, or goes on with the unfinished packet
abbrev pub places_with : Profile → Option Part → Given → List Place → List Place
places_with profile None given places = with_packet profile given.due (or_null given.front) places
places_with profile (Some part) given places =
    with_last (place_fed profile part.sent given.feed) places

-- the packets begun for the first time: the fronts of the queue, TRETs and cut-throughs
unfoldable pub places : Profile → List SenderEntry → List Place
places profile [] = []
places profile (SenderEntry.sent given what.New flit ∷ past) =
    places_with profile (unfinished past) given (places profile past)
places profile (SenderEntry.sent given what.Tret flit ∷ past) =
    with_packet profile given.due tret_packet (places profile past)
places profile (SenderEntry.through head flits due ∷ past) =
    let before = places profile past in
    before
    ++ Place.awaited head flits
    (numbers_after profile (pointer_of profile before) (number_of before) flits (code_for due))
    ∷ []
places profile (_ ∷ past) = places profile past

-- how many fronts of the queue were taken
unfoldable pub taken_fronts : List SenderEntry → ℕ
taken_fronts [] = 0
taken_fronts (SenderEntry.sent given what.New flit ∷ past) =
    (if is_none (unfinished past) then 1 else 0) + taken_fronts past
taken_fronts (_ ∷ past) = taken_fronts past

-- how many packets are acknowledged
unfoldable pub acked : List SenderEntry → ℕ
acked [] = 0
acked (SenderEntry.acknowledged packets ∷ past) = packets
acked (_ ∷ past) = acked past

-- how many Clears were sent
unfoldable pub clears : List SenderEntry → ℕ
clears [] = 0
clears (SenderEntry.sent given what.Clear flit ∷ past) = suc (clears past)
clears (_ ∷ past) = clears past

-- how many Starts
unfoldable pub starts : List SenderEntry → ℕ
starts [] = 0
starts (SenderEntry.sent given what.Start flit ∷ past) = suc (starts past)
starts (_ ∷ past) = starts past

-- so many IRTRYs of a kind are whole bursts: one more begins a burst
abbrev pub are_bursts : (count : ℕ) → Bool
are_bursts count = count % 32 == 0

-- a run of Starts was counted after the last Clear that began a burst
unfoldable pub go_back : List SenderEntry → Bool
go_back [] = false
go_back (SenderEntry.ran ∷ past) = true
go_back (SenderEntry.sent given what.Clear flit ∷ past) =
    if are_bursts (clears past) then false else go_back past
go_back (_ ∷ past) = go_back past

-- a run of Starts was counted: new packets may be sent
unfoldable pub is_open : List SenderEntry → Bool
is_open [] = false
is_open (SenderEntry.ran ∷ past) = true
is_open (_ ∷ past) = is_open past

-- the other flits that a burst of Starts waits for
abbrev pub enough_others : ℕ
enough_others = 64

-- how many other flits were sent after the last Start; enough where there was none
unfoldable pub others : List SenderEntry → ℕ
others [] = enough_others
others (SenderEntry.sent given what.Start flit ∷ past) = 0
others (SenderEntry.sent given _ flit ∷ past) = suc (others past)
others (_ ∷ past) = others past

-- the number, from 1, of the place that was begun last, for the first time or again, after the last
-- Clear that began a burst; 0 where none was
unfoldable pub last_begun : Profile → List SenderEntry → ℕ
last_begun profile [] = 0
last_begun profile (SenderEntry.sent given what.New flit ∷ past) =
    if is_none (unfinished past) then suc (length (places profile past))
    else last_begun profile past
last_begun profile (SenderEntry.sent given what.Tret flit ∷ past) =
    suc (length (places profile past))
last_begun profile (SenderEntry.sent given what.Again flit ∷ past) =
    if is_none (unfinished past) then suc (max (acked past) (last_begun profile past))
    else last_begun profile past
last_begun profile (SenderEntry.sent given what.Clear flit ∷ past) =
    if are_bursts (clears past) then 0 else last_begun profile past
last_begun profile (SenderEntry.through head flits due ∷ past) =
    suc (length (places profile past))
last_begun profile (_ ∷ past) = last_begun profile past

-- the places up to this number need not be sent again
abbrev pub position : Profile → List SenderEntry → ℕ
position profile past = max (acked past) (last_begun profile past)

-- the room for packets that may have to be sent again
abbrev pub room : Profile → (retry : ℕ) → List SenderEntry → ℕ
room profile retry past = retry - flits_in (drop (acked past) (places profile past))

-- a flit that shows its return pointer: an IRTRY, a PRET, or the last one of a sequenced packet
abbrev pub shows_pointer : What → (flit : List ℕ) → Option Part → Bool
shows_pointer what.Train flit part = false
shows_pointer what.Null flit part = false
shows_pointer what.New flit part = is_none (part_after false flit part)
shows_pointer what.Again flit part = is_none (part_after true flit part)
shows_pointer _ flit part = true

-- the return pointer that was shown last, 0 where none was
unfoldable pub shown_pointer : List SenderEntry → ℕ
shown_pointer [] = 0
shown_pointer (SenderEntry.sent given as_what flit ∷ past) =
    if shows_pointer as_what flit (unfinished past) then given.own.rrp else shown_pointer past
shown_pointer (_ ∷ past) = shown_pointer past

-- an unfinished packet with its place
pub record UnderWay : Type 0 where
  pub part : Part
  pub place : Place

abbrev pub with_place : Place → Option Part → Option UnderWay
with_place place None = None
with_place place (Some part) = Some (record { part = part; place = place })

-- the unfinished packet with its place, which is the one that was begun last
abbrev pub under_way : Profile → List SenderEntry → Option UnderWay
under_way profile past =
    with_place (place_at (places profile past) (last_begun profile past)) (unfinished past)

-- how many flits of a cut-through were sent
abbrev pub flits_through : Place → Part → Option ℕ
flits_through (Place.known packet) part = None
flits_through (Place.awaited head flits numbers) part = Some (length part.sent)

abbrev pub through_place : Option UnderWay → Option ℕ
through_place None = None
through_place (Some begun) = flits_through begun.place begun.part

-- the place, from 0, of the next flit of a cut-through that is begun and unfinished
abbrev pub through_at : Profile → List SenderEntry → Option ℕ
through_at profile past = through_place (under_way profile past)
