-- What a give hands to a link.
use Rattle.std.specs.Prelude.{◌≡◌, ◌/◌, ℕ, Bool, true, List, Option}
use Rattle.hmc_codes.specs.Request.{RequestFields, IsRequest}
use Rattle.hmc_packet.specs.Packet.{PacketFields}
use Rattle.hmc_case.specs.declared.setup.LinkRow.{LinkRow}
use Rattle.hmc_host.specs.declared.given.Given.{Given}
use Rattle.hmc_host.specs.declared.given.Given.TheVariants.{Gave}
use Rattle.hmc_link.specs.Held.{LinkHeld}
use Rattle.hmc_packet.specs.Transactions.{request_packet}
use Rattle.hmc_send.specs.LinkCalls.{LinkCall, has_room}
use Rattle.hmc_send.specs.LinkEntries.{LinkEntry}
use Rattle.hmc_journal.specs.Links.{toward}
use Rattle.hmc_journal.specs.Queues.{tag_number}
use Rattle.hmc_kept.specs.Called.{sizes_by, called}
use Rattle.hmc_links.specs.LinkList.{LinksStandFor}

-- the entries of the links after a give: a packet is handed to a direction where one is given
abbrev pub entries_given : List LinkRow → (direction : ℕ) → Given → (ℕ → List LinkEntry) →
    ℕ → List LinkEntry
entries_given rows direction (Gave packet request tag poisoned) entries =
    called rows direction (λ d. LinkCall.hand d packet) entries
entries_given rows direction _ entries = entries

-- the direction has room, and this is the packet of the request that is given
pub record IsPacketOf (links : List LinkHeld) (direction : ℕ) (packet : PacketFields)
    (request : RequestFields) (tag : Option ℕ) (poisoned : Bool) : Type 0 where
  pub rows : List LinkRow
  pub entries : ℕ → List LinkEntry
  pub stand : LinksStandFor rows links entries
  pub room : has_room (sizes_by rows direction) (toward direction) (entries (direction / 2)) ≡ true
  pub host : ℕ
  pub same : packet ≡ request_packet request (tag_number tag) host poisoned

-- the same where a request is given
abbrev pub IsGiven : List LinkHeld → (direction : ℕ) → Given → Type 0
IsGiven links direction (Gave packet request tag poisoned) =
    IsPacketOf links direction packet request tag poisoned
IsGiven links direction _ = Unit {0}

-- a request that is given is one
abbrev pub IsRequested : Given → Type 0
IsRequested (Gave packet request tag poisoned) = IsRequest request
IsRequested _ = Unit {0}
