-- The order in which requests arrive at a cube: where a packet leaves the buffer of a port for a
-- vault, or for the registers.
use Rattle.std.specs.Prelude.{ℕ, Bool, true, false, not, ◌==◌, ◌&&◌, List, [], ◌∷◌, ◌++◌, Option, Some, None}
use Rattle.hmc_codes.specs.Commands.{is_posted}
use Rattle.hmc_codes.specs.Request.{RequestFields}
use Rattle.hmc_codes.specs.declared.unit.Unit.{Unit as RequestUnit}
use Rattle.hmc_packet.specs.Packet.{PacketFields}
use Rattle.hmc_packet.specs.Transactions.{request_in}
pub use Rattle.hmc_hops.specs.Flows.{HostRequest, item_if}
use Rattle.hmc_entries.specs.declared.outcome.Goal.{Goal}
use Rattle.hmc_entries.specs.declared.outcome.Goal.TheVariants as goals
use Rattle.hmc_entries.specs.declared.entry.Entry.{Entry}
use Rattle.hmc_entries.specs.declared.entry.Entry.TheVariants.{Gave, Shifted, Executed}
use Rattle.hmc_journal.specs.Answers.{tag_of}
use Rattle.hmc_journal.specs.Choice.{append_if}
use Rattle.hmc_journal.specs.Filters.{TaggedRequest, same_unit}
use Rattle.hmc_journal.specs.Queues.{front_of, contents}
use Rattle.hmc_journal.specs.Queues.QueueId.{Port}
use Rattle.hmc_journal.specs.Setup.{Topology, unit_in}

-- the request that a packet carries, with its host and its tag
abbrev pub request_with : PacketFields → Option RequestFields → List HostRequest
request_with packet None = []
request_with packet (Some request) =
    record {
      host = packet.slid;
      tag = tag_of (is_posted request.command) packet.tag;
      request = request;
    } ∷ []

-- a packet that goes there has arrived
abbrev pub is_inside : Goal → Bool
is_inside (goals.Port port) = false
is_inside _ = true

-- the requests that arrived at a cube, of all hosts, the oldest first
unfoldable pub arrivals : Topology → (cube : ℕ) → List Entry → List HostRequest
arrivals topology c [] = []
arrivals topology c (Shifted cube port goal ∷ past) =
    append_if ((cube == c) && is_inside goal)
    (request_with (front_of (contents topology past (Port cube port)))
    (request_in (front_of (contents topology past (Port cube port)))))
    (arrivals topology c past)
arrivals topology c (_ ∷ past) = arrivals topology c past

-- what is chosen of each of some requests
unfoldable pub chosen : {X : Type 0} → (HostRequest → List X) → List HostRequest → List X
chosen choice [] = []
chosen choice (one ∷ more) = choice one ++ chosen choice more

-- those of a host
abbrev pub of_host : (host : ℕ) → List HostRequest → List TaggedRequest
of_host h requests =
    chosen (λ one. item_if (one.host == h) (record { tag = one.tag; request = one.request }))
    requests

-- those that a unit is to execute
abbrev pub of_unit : Topology → RequestUnit → List HostRequest → List HostRequest
of_unit topology unit requests =
    chosen (λ one. item_if (same_unit (unit_in topology one.request) unit) one) requests

-- the requests that a host gave to a cube, except poisoned ones
unfoldable pub given_at : (host cube : ℕ) → List Entry → List TaggedRequest
given_at h c [] = []
given_at h c (Gave host tag poisoned request ∷ past) =
    append_if ((host == h) && (not poisoned && (request.cube == c)))
    (record { tag = tag; request = request } ∷ []) (given_at h c past)
given_at h c (_ ∷ past) = given_at h c past

-- the requests that a unit executed, of all hosts
unfoldable pub executions : RequestUnit → List Entry → List HostRequest
executions unit [] = []
executions unit (Executed here host tag request answer ∷ past) =
    append_if (same_unit here unit)
    (record { host = host; tag = tag; request = request } ∷ []) (executions unit past)
executions unit (_ ∷ past) = executions unit past
