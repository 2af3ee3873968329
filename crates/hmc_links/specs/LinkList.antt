-- The links of a network, and the calls of them by the numbers of directions.
use Rattle.std.specs.Prelude.{◌≡◌, ◌<◌, ◌*◌, ℕ, Bool, true, List, Option, length, slice_index_or}
use Rattle.hmc_packet.specs.Packet.{PacketFields}
use Rattle.hmc_packet.specs.declared.feed.Feed.{Feed}
use Rattle.hmc_case.specs.declared.setup.LinkRow.{LinkRow}
use Rattle.hmc_send.specs.LinkEntries.{LinkEntry}
use Rattle.hmc_link.specs.Held.{LinkHeld}
use Rattle.hmc_link.specs.StandsFor.{LinkStandsFor}
use Rattle.hmc_kept.specs.ByDirection as by
use Rattle.hmc_kept.specs.Called.{sizes_at}

-- no landing of these links has passed
abbrev pub AreGoing : List LinkHeld → Type 0
AreGoing links = (link : ℕ) (d : LinkHeld) → link < length links →
    (slice_index_or links link d).going ≡ true

-- There is a link for each row. No landing has passed, and each link stands for its entries.
pub record LinksStandFor (rows : List LinkRow) (links : List LinkHeld)
    (entries : ℕ → List LinkEntry) : Type 0 where
  pub count : length links ≡ length rows
  pub going : AreGoing links
  pub stand : (link : ℕ) (d : LinkHeld) → link < length links →
      LinkStandsFor (sizes_at rows link) (slice_index_or links link d) (entries link)

-- a direction of one of these links
abbrev pub IsDirection : List LinkHeld → (direction : ℕ) → Type 0
IsDirection links direction = direction < 2 * length links

-- What the calls need, and what they answer, by the entries for which the links stand.
abbrev pub MayHand : List LinkHeld → (direction : ℕ) → PacketFields → Type 0
MayHand = by.MayHand LinksStandFor

abbrev pub MaySend : List LinkHeld → (direction : ℕ) → Feed → Type 0
MaySend = by.MaySend LinksStandFor

abbrev pub MayBegin : List LinkHeld → (direction flits : ℕ) → Type 0
MayBegin = by.MayBegin LinksStandFor

abbrev pub IsRoom : List LinkHeld → (direction : ℕ) → (room : Bool) → Type 0
IsRoom = by.HasRoom LinksStandFor

abbrev pub IsArrival : List LinkHeld → (direction : ℕ) → (arrived : Bool) → Type 0
IsArrival = by.IsArrival LinksStandFor

abbrev pub IsFrontAt : List LinkHeld → (direction : ℕ) → Option PacketFields → Type 0
IsFrontAt = by.IsFrontAt LinksStandFor

abbrev pub IsGathered : List LinkHeld → (direction : ℕ) → Option (List (List ℕ)) → Type 0
IsGathered = by.IsGathered LinksStandFor

abbrev pub IsThroughAt : List LinkHeld → (direction : ℕ) → (place : Option ℕ) → Type 0
IsThroughAt = by.IsThroughAt LinksStandFor

abbrev pub IsTaking : List LinkHeld → (direction flits : ℕ) → (ready : Bool) → Type 0
IsTaking = by.IsTaking LinksStandFor
