-- What a lawful journal promises of requests and answers.
use Rattle.std.specs.Prelude.{◌≡◌, ◌≤◌, ℕ, suc, List, [], ◌∷◌, ◌++◌, All, length, map, zip, filter, Option, Some, None}
use Rattle.hmc_codes.specs.declared.lift.Lift.{Lift}
use Rattle.hmc_codes.specs.declared.place.Place.TheVariants as places
use Rattle.hmc_codes.specs.declared.unit.Unit.{Unit as RequestUnit}
use Rattle.hmc_host.specs.Host.{items_of}
use Rattle.hmc_packet.specs.declared.outcome.Outcome.TheVariants.{AbortedOrder}
use Rattle.hmc_packet.specs.Packet.{PacketFields}
use Rattle.hmc_script.specs.Items.{ItemFields}
use Rattle.hmc_packet.specs.Masks.{under_mask}
use Rattle.hmc_send.specs.Places.{is_token}
use Rattle.hmc_wire.specs.LinkLaws.{TokenLaws}
pub use Rattle.hmc_hops.specs.Delivered.{IsPrefix, IsChain}
use Rattle.hmc_entries.specs.declared.entry.Entry.{Entry}
use Rattle.hmc_entries.specs.declared.entry.Entry.TheVariants.{Landed}
use Rattle.hmc_journal.specs.Carried.{begun_on, begun_here, marked, tagged_answers, tagged_answers_gone, requests_along, requests_waiting, answers_along, answers_waiting, answers_lifted, answers_taken}
use Rattle.hmc_journal.specs.Filters.{ScriptRequest, given_by, given_to, executed_by, asked_under, replies_under, answers_under, answered_into, taken_by}
use Rattle.hmc_journal.specs.Queues.{entered}
use Rattle.hmc_journal.specs.Queues.QueueId.{Output, Answers}
use Rattle.hmc_journal.specs.Links.{toward, direction_to, entries_on, sizes_on}
use Rattle.hmc_journal.specs.Setup.{Setup, Topology}
use Rattle.hmc_journal.specs.Directions.{sent_flits, landed_flits, landed_masks, accepted}

-- a request of a script
abbrev pub said : ItemFields → ScriptRequest
said item = record { poisoned = item.poisoned; request = item.request }

-- the requests that each host gave are a prefix of those that the script has for it
pub record IsScripted (script : List ItemFields) (journal : List Entry) : Type 0 where
  pub given : (host : ℕ) → IsPrefix (given_by host journal) (map said (items_of host script))

-- the packets accepted on a direction; none where it isn't there
abbrev pub accepted_on : Topology → Option ℕ → List Entry → List PacketFields
accepted_on topology None journal = []
accepted_on topology (Some direction) journal = accepted topology direction journal

-- those accepted on the direction to a host
abbrev pub accepted_by : Topology → (host : ℕ) → List Entry → List PacketFields
accepted_by topology host journal =
    accepted_on topology (direction_to topology (places.Host host)) journal

-- the flits under these masks, as many as there are masks
abbrev pub under_masks : (masks flits : List (List ℕ)) → List (List ℕ)
under_masks masks flits = map (λ pair. under_mask pair.0 pair.1) (zip masks flits)

-- a packet without what a link sets
abbrev pub unnumbered : PacketFields → PacketFields
unnumbered packet = record packet { rtc = 0; seq = 0; frp = 0 }

-- the landing of a packet that is in order, or another entry
abbrev pub IsInOrder : Entry → Type 0
IsInOrder (Landed direction flit AbortedOrder) = ⊥
IsInOrder _ = Unit {0}

-- Each direction is a list, first in and first out.
pub record LinksInOrder (setup : Setup) (journal : List Entry) : Type 0 where
  -- the flits that landed at the end of a direction are the first that were sent on it, each under
  -- the mask of its step
  pub wires : (direction : ℕ) →
      landed_flits direction journal
      ≡ under_masks (landed_masks direction setup.schedule journal) (sent_flits direction journal)
  -- the packets accepted there are a prefix of those that were begun on it
  pub accepted : (direction : ℕ) →
      IsPrefix (accepted setup.topology direction journal)
      (begun_on setup.topology direction journal)
  -- and these, without TRETs and copies of packets that were forwarded, are a prefix of those that
  -- entered its output queue, apart from what the link sets
  pub begun : (direction : ℕ) →
      IsPrefix (map unnumbered (filter is_token
      (marked (begun_here direction journal) (begun_on setup.topology direction journal))))
      (map unnumbered (entered setup.topology journal (Output direction)))
  pub marks : (direction : ℕ) →
      length (begun_here direction journal)
      ≡ length (begun_on setup.topology direction journal)
  -- no packet lands out of order
  pub in_order : All IsInOrder journal
  -- the tokens of each direction are together those that its end advertised
  pub tokens : (direction : ℕ) →
      TokenLaws (sizes_on setup.topology direction) (toward direction)
      (entries_on setup.topology direction journal)

-- A unit executes what a host gave it, in order, and each answer is that of its request, over
-- every hop.
pub record DeliveredInOrder (setup : Setup) (journal : List Entry) : Type 0 where
  -- the requests of a host to a unit: those that packets carried over the first direction of their
  -- route are a prefix of those that the host gave, those carried over each further direction are a
  -- prefix of the ones before, and those that the unit executed are a prefix of the last
  pub requests : (host : ℕ) (unit : RequestUnit) →
      IsChain (given_to setup.topology host unit journal)
      (requests_along setup.topology host unit journal ++ executed_by host unit journal ∷ [])
  -- each that was given was executed, or waits on its way, in order
  pub requests_kept : (host : ℕ) (unit : RequestUnit) →
      given_to setup.topology host unit journal
      ≡ executed_by host unit journal ++ requests_waiting setup.topology host unit journal
  -- the answers that left a queue of answers for the link are a prefix of those executed into it
  pub lifted : (cube : ℕ) (from : Lift) →
      IsPrefix (tagged_answers_gone setup.topology (Answers cube from) journal)
      (answered_into (Answers cube from) journal)
  -- the answers that a host took are a prefix of those that packets carried to it
  pub taken : (host : ℕ) →
      IsPrefix (taken_by host journal) (tagged_answers (accepted_by setup.topology host journal))
  -- the answers of a cube to a host: those that packets carried over the first direction of their
  -- route are a prefix of those that were lifted in the cube, those carried over each further
  -- direction are a prefix of the ones before, and those that the host took are a prefix of the
  -- last
  pub answers : (cube host : ℕ) →
      IsChain (answers_lifted setup.topology cube host journal)
      (answers_along setup.topology cube host journal
      ++ answers_taken setup.topology cube host journal ∷ [])
  -- each that was lifted was taken, or waits on its way, in order
  pub answers_kept : (cube host : ℕ) →
      answers_lifted setup.topology cube host journal
      ≡ answers_taken setup.topology cube host journal
      ++ answers_waiting setup.topology cube host journal
  -- under each tag of a host the answers taken are a prefix of the answers executed
  pub answered : (host tag : ℕ) →
      IsPrefix (answers_under host tag journal)
      (map (λ reply. reply.answer) (replies_under host tag journal))
  -- the requests executed are a prefix of those asked
  pub replied : (host tag : ℕ) →
      IsPrefix (map (λ reply. reply.request) (replies_under host tag journal))
      (asked_under host tag journal)
  -- and at most one that was asked isn't answered yet
  pub out : (host tag : ℕ) →
      length (asked_under host tag journal) ≤ suc (length (answers_under host tag journal))

-- what holds where no packet is on its way: each unpoisoned request was executed, and each request
-- with a tag was answered
pub record AllServed (topology : Topology) (journal : List Entry) : Type 0 where
  pub executed : (host : ℕ) (unit : RequestUnit) →
      executed_by host unit journal ≡ given_to topology host unit journal
  pub taken : (host tag : ℕ) →
      length (answers_under host tag journal) ≡ length (asked_under host tag journal)
