-- A link kept its conditions at every moment of a journal.
use Rattle.std.proofs.Common.{◌/◌, ◌==◌, ℕ, Bool, true, false, List, [], ◌∷◌, Option, Some, None}
use Rattle.hmc_codes.specs.Link.{LinkFields}
use Rattle.hmc_codes.specs.declared.place.Place.TheVariants as places
use Rattle.hmc_packet.specs.Packet.{PacketFields}
use Rattle.hmc_packet.specs.Parts.{lng_of}
use Rattle.hmc_send.specs.declared.toward.Toward.{Toward}
use Rattle.hmc_send.specs.LinkEntries.{LinkEntry, put_if}
use Rattle.hmc_wire.specs.LinkLaws.{IsKept}
use Rattle.hmc_entries.specs.declared.outcome.Goal.{Goal}
use Rattle.hmc_entries.specs.declared.outcome.Goal.TheVariants as goals
use Rattle.hmc_entries.specs.declared.entry.Entry.{Entry}
use Rattle.hmc_entries.specs.declared.entry.Entry.TheVariants.{Gave, Sent, Landed, Shifted, Dropped, Spread, Executed, Lifted, Took, Discarded, Through, Unlocked, Retired, Passed, Idle}
use Rattle.hmc_journal.specs.Setup.{Topology}
use Rattle.hmc_journal.specs.Queues.{front_of, contents}
use Rattle.hmc_journal.specs.Queues.QueueId.{Port}
use Rattle.hmc_journal.specs.Links.{toward, put_on, taken_at, handed_on, landing_mask, taken_if, forwarded_on, link_sizes, link_entries}
use Rattle.hmc_journal.proofs.Projections.{feed_in, goes_at, came_at}
use Rattle.hmc_wire.proofs.EntryTurns.{kept-before}

kept-put : (sizes : LinkFields) (link : ℕ) (direction : Option ℕ) (entry : Toward → LinkEntry) (past : List LinkEntry) → IsKept sizes (put_on link direction entry past) → IsKept sizes past
kept-put sizes link None entry past is = is
kept-put sizes link (Some direction) entry past is = by_here (direction / 2 == link) is
  where
    by_here : (here : Bool) → IsKept sizes (put_if here (entry (toward direction)) past) → IsKept sizes past
    by_here true kept = kept-before sizes (entry (toward direction)) past kept
    by_here false kept = kept

kept-on : (sizes : LinkFields) (topology : Topology) (link cube : ℕ) (goal : Goal) (packet : PacketFields) (past : List LinkEntry) → IsKept sizes (handed_on topology link cube goal packet past) → IsKept sizes past
kept-on sizes topology link cube (goals.Port port) packet past is = kept-put sizes link _ (λ d. LinkEntry.handed d packet) past is
kept-on sizes topology link cube (goals.Vault vault) packet past is = is
kept-on sizes topology link cube goals.Registers packet past is = is

kept-taken_if : (sizes : LinkFields) (gone : Bool) (link direction : ℕ) (past : List LinkEntry) → IsKept sizes (taken_if gone link direction past) → IsKept sizes past
kept-taken_if sizes false link direction past is = is
kept-taken_if sizes true link direction past is = kept-put sizes link (Some direction) LinkEntry.taken past is

kept-forwarded_on : (sizes : LinkFields) (link direction : ℕ) (came : List (List ℕ)) (past : List LinkEntry) → IsKept sizes (forwarded_on link direction came past) → IsKept sizes past
kept-forwarded_on sizes link direction [] past is = is
kept-forwarded_on sizes link direction (head ∷ rest) past is = kept-put sizes link (Some direction) (λ d. LinkEntry.through d head (lng_of head)) past is

pub kept_past : (sizes : LinkFields) (topology : Topology) (link : ℕ) (entry : Entry) (past : List Entry) → IsKept sizes (link_entries topology link (entry ∷ past)) → IsKept sizes (link_entries topology link past)
unfolding link_entries
kept_past sizes topology link (Gave host tag poisoned request) past is = kept-put sizes link _ (λ d. LinkEntry.handed d _) _ is
kept_past sizes topology link (Lifted cube from port) past is = kept-put sizes link _ (λ d. LinkEntry.handed d _) _ is
kept_past sizes topology link (Shifted cube port goal) past is =
    kept-put sizes link _ LinkEntry.taken _ (kept-on sizes topology link cube goal (front_of (contents topology past (Port cube port))) (taken_at topology link (places.Port cube port) (link_entries topology link past)) is)
kept_past sizes topology link (Landed direction flit outcome) past is =
    kept-put sizes link (Some direction) (λ way. LinkEntry.landed way (landing_mask (link_sizes topology link) way (link_entries topology link past) flit) flit outcome) (link_entries topology link past)
    (kept-taken_if sizes (goes_at topology direction outcome past) link direction _ is)
kept_past sizes topology link (Sent direction what flit) past is = kept-put sizes link (Some direction) (λ way. LinkEntry.sent way (feed_in topology link direction past way) what flit) (link_entries topology link past) is
kept_past sizes topology link (Unlocked direction) past is = kept-put sizes link (Some direction) LinkEntry.unlocked _ is
kept_past sizes topology link (Dropped cube port) past is = kept-put sizes link _ LinkEntry.taken _ is
kept_past sizes topology link (Took host tag answer) past is = kept-put sizes link _ LinkEntry.taken _ is
kept_past sizes topology link (Discarded host) past is = kept-put sizes link _ LinkEntry.taken _ is
kept_past sizes topology link (Executed unit host tag request answer) past is = is
kept_past sizes topology link (Spread cube vault bank) past is = is
kept_past sizes topology link (Passed direction flit) past is = is
kept_past sizes topology link (Through cube port direction) past is = kept-forwarded_on sizes link direction (came_at topology cube port past) (link_entries topology link past) is
kept_past sizes topology link (Retired slot) past is = is
kept_past sizes topology link (Idle step cause) past is = is
