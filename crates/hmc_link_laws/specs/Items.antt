-- The line and the receiver of a direction by numbers (hmc_numbers), tied to the flits: which flit
-- of the wire each item is, and which flits are gathered.
use Rattle.std.specs.Prelude.{◌≡◌, ◌≤◌, ◌<◌, ℕ, zero, suc, ◌-◌, List, [], ◌∷◌, ◌++◌, length, drop, slice_index_or, Option, Some, None}
use Rattle.hmc_codes.specs.Link.{LinkFields}
use Rattle.hmc_codes.specs.declared.profile.Profile.{Profile}
use Rattle.hmc_packet.specs.declared.what.What.{What}
use Rattle.hmc_packet.specs.declared.what.What.TheVariants as what
use Rattle.hmc_packet.specs.Landings.{pending}
use Rattle.hmc_numbers.specs.Direction.{Item, Reached}
use Rattle.hmc_numbers.specs.Direction.{Filler as fillers}
use Rattle.hmc_numbers.specs.Direction.Item.{filler, clear, part}
use Rattle.hmc_numbers.specs.Direction.Reached.{inside}
use Rattle.hmc_send.specs.Entries.{Part, unfinished}
use Rattle.hmc_send.specs.LinkEntries.{LinkEntry, receiver_entries}
use Rattle.hmc_send.specs.LinkLines.{landings}
use Rattle.hmc_send.specs.LinkSenders.{sender_entries, places_in}
use Rattle.hmc_send.specs.Places.{Place, flits_at, place_at, flit_of}
use Rattle.hmc_send.specs.declared.toward.Toward.{Toward}
use Rattle.hmc_link_laws.specs.Wire.{Piece, pieces}

-- the item of a flit that is sent alone
abbrev pub alone_item : What → Item
alone_item what.Train = filler fillers.train
alone_item what.Pret = filler fillers.pret
alone_item what.Start = filler fillers.start
alone_item what.Clear = clear
alone_item as_what = filler fillers.null

-- the items of the first so many flits of packet n, which has this many flits: each has how many
-- flits of it go before, and how many come after
abbrev pub packet_items : (n flits : ℕ) → (count : ℕ) → List Item
packet_items n flits zero = []
packet_items n flits (suc k) = packet_items n flits k ++ part n k (flits - suc k) ∷ []

-- the items of a piece, one for each of its flits; packets are numbered from 1
abbrev pub piece_items : List Place → Piece → List Item
piece_items l (Piece.alone as_what rrp flit) = alone_item as_what ∷ []
piece_items l (Piece.packet sent) =
    packet_items (suc sent.number) (flits_at (place_at l (suc sent.number))) (length sent.flits)

-- the items of these pieces, the oldest first
abbrev pub items_of_pieces : List Place → List Piece → List Item
items_of_pieces l [] = []
items_of_pieces l (piece ∷ past) = items_of_pieces l past ++ piece_items l piece

-- the items of the flits of a direction that were sent and haven't landed
abbrev pub items_on : LinkFields → Toward → List LinkEntry → List Item
items_on link d past =
    drop (landings d past)
    (items_of_pieces (places_in link d past) (pieces link.profile (sender_entries link d past)))

-- flit i of a place, from 0, before the last one of its packet: that of its packet; or, while the
-- place is open, what was sent
abbrev pub flit_at_place : Profile → Option Part → Place → (i : ℕ) → List ℕ
flit_at_place profile under (Place.known packet) i = flit_of profile packet 0 i
flit_at_place profile None (Place.awaited head flits numbers) i = []
flit_at_place profile (Some under) (Place.awaited head flits numbers) i =
    slice_index_or under.sent i []

-- A receiver has gathered the first k flits of packet n.
pub record IsInside (link : LinkFields) (d : Toward) (past : List LinkEntry) (n k : ℕ) : Type 0
  where
    pub some : 1 ≤ k
    pub begun : n ≤ length (places_in link d past)
    pub long : length (pending (receiver_entries d past)) ≡ k
    pub flits : (i : ℕ) → i < k →
        slice_index_or (pending (receiver_entries d past)) i []
        ≡ flit_at_place link.profile (unfinished (sender_entries link d past))
        (place_at (places_in link d past) n) i

abbrev pub IsGatheredAs : LinkFields → Toward → List LinkEntry → Reached → Type 0
IsGatheredAs link d past (inside n k) = IsInside link d past n k
IsGatheredAs link d past reached = Unit {0}
