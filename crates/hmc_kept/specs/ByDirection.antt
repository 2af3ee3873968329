-- What calls of links by the numbers of directions need, and what they answer. The links, or their
-- ends, are of any type X: `stands rows links entries` says that they represent these entries of
-- links of these sizes. A need is met by some entries that they represent; an answer is that of all
-- of these.
use Rattle.std.specs.Prelude.{◌≡◌, ◌/◌, ℕ, Bool, true, List, Option, is_some}
use Rattle.hmc_packet.specs.Packet.{PacketFields}
use Rattle.hmc_packet.specs.declared.feed.Feed.{Feed}
use Rattle.hmc_packet.specs.declared.feed.Feed.TheVariants.{Waiting}
use Rattle.hmc_packet.specs.Landings.{mode, pending}
use Rattle.hmc_case.specs.declared.setup.LinkRow.{LinkRow}
use Rattle.hmc_send.specs.Entries.{under_way, through_at}
use Rattle.hmc_send.specs.Given.{IsTaken}
use Rattle.hmc_send.specs.IsSender.{IsFed}
use Rattle.hmc_send.specs.LinkCalls.{has_room, view_in, may_pass_on}
use Rattle.hmc_send.specs.LinkEntries.{LinkEntry, receiver_entries}
use Rattle.hmc_send.specs.LinkSenders.{sender_entries}
use Rattle.hmc_ends.specs.Answers.{front_in}
use Rattle.hmc_ends.specs.End.{flits_seen}
use Rattle.hmc_journal.specs.Links.{toward}
use Rattle.hmc_kept.specs.Called.{sizes_by}

-- the direction has room for this packet, which its link can carry
pub record MayHand {X : Type 0} (stands : List LinkRow → X → (ℕ → List LinkEntry) → Type 0)
    (links : X) (direction : ℕ) (packet : PacketFields) : Type 0 where
  pub rows : List LinkRow
  pub entries : ℕ → List LinkEntry
  pub stand : stands rows links entries
  pub room : has_room (sizes_by rows direction) (toward direction) (entries (direction / 2)) ≡ true
  pub fit : IsTaken (sizes_by rows direction).profile packet

-- what is fed fits the packet that is forwarded onto the direction, if there is one
pub record MaySend {X : Type 0} (stands : List LinkRow → X → (ℕ → List LinkEntry) → Type 0)
    (links : X) (direction : ℕ) (feed : Feed) : Type 0 where
  pub rows : List LinkRow
  pub entries : ℕ → List LinkEntry
  pub stand : stands rows links entries
  pub fed : IsFed (under_way (sizes_by rows direction).profile
      (sender_entries (sizes_by rows direction) (toward direction) (entries (direction / 2))))
      feed

-- the direction can take a packet of so many flits that is forwarded
pub record MayBegin {X : Type 0} (stands : List LinkRow → X → (ℕ → List LinkEntry) → Type 0)
    (links : X) (direction flits : ℕ) : Type 0 where
  pub rows : List LinkRow
  pub entries : ℕ → List LinkEntry
  pub stand : stands rows links entries
  pub ready : may_pass_on (view_in (sizes_by rows direction) (toward direction)
      (entries (direction / 2)) Waiting) flits ≡ true

-- this is whether the output queue of the direction has room for a packet
abbrev pub HasRoom : {X : Type 0} → (List LinkRow → X → (ℕ → List LinkEntry) → Type 0) → X →
    (direction : ℕ) → (room : Bool) → Type 0
HasRoom stands links direction room = (rows : List LinkRow) (entries : ℕ → List LinkEntry) →
    stands rows links entries →
    room ≡ has_room (sizes_by rows direction) (toward direction) (entries (direction / 2))

-- this is whether the buffer where the direction lands holds a packet
abbrev pub IsArrival : {X : Type 0} → (List LinkRow → X → (ℕ → List LinkEntry) → Type 0) → X →
    (direction : ℕ) → (arrived : Bool) → Type 0
IsArrival stands links direction arrived = (rows : List LinkRow) (entries : ℕ → List LinkEntry) →
    stands rows links entries → arrived
    ≡ is_some (front_in (sizes_by rows direction) (toward direction) (entries (direction / 2)))

-- this is the front of the buffer where the direction lands
abbrev pub IsFrontAt : {X : Type 0} → (List LinkRow → X → (ℕ → List LinkEntry) → Type 0) → X →
    (direction : ℕ) → Option PacketFields → Type 0
IsFrontAt stands links direction front = (rows : List LinkRow) (entries : ℕ → List LinkEntry) →
    stands rows links entries →
    front ≡ front_in (sizes_by rows direction) (toward direction) (entries (direction / 2))

-- these are the flits that are gathered where the direction lands, in Good; none where none are
abbrev pub IsGathered : {X : Type 0} → (List LinkRow → X → (ℕ → List LinkEntry) → Type 0) → X →
    (direction : ℕ) → Option (List (List ℕ)) → Type 0
IsGathered stands links direction found = (rows : List LinkRow) (entries : ℕ → List LinkEntry) →
    stands rows links entries → found
    ≡ flits_seen (mode (receiver_entries (toward direction) (entries (direction / 2))))
    (pending (receiver_entries (toward direction) (entries (direction / 2))))

-- this is the place of the next flit of a packet that is forwarded onto the direction
abbrev pub IsThroughAt : {X : Type 0} → (List LinkRow → X → (ℕ → List LinkEntry) → Type 0) → X →
    (direction : ℕ) → (place : Option ℕ) → Type 0
IsThroughAt stands links direction place = (rows : List LinkRow) (entries : ℕ → List LinkEntry) →
    stands rows links entries → place
    ≡ through_at (sizes_by rows direction).profile
    (sender_entries (sizes_by rows direction) (toward direction) (entries (direction / 2)))

-- this is whether the direction can take a packet of so many flits that is forwarded
abbrev pub IsTaking : {X : Type 0} → (List LinkRow → X → (ℕ → List LinkEntry) → Type 0) → X →
    (direction flits : ℕ) → (ready : Bool) → Type 0
IsTaking stands links direction flits ready = (rows : List LinkRow) (entries : ℕ → List LinkEntry) →
    stands rows links entries → ready
    ≡ may_pass_on (view_in (sizes_by rows direction) (toward direction) (entries (direction / 2))
    Waiting) flits
