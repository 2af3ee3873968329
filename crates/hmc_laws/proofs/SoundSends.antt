-- An output queue holds what the sender of its link has not begun; a send finds what it begins.
use Rattle.std.proofs.Common.{◌≡◌, ◌/◌, ◌∙◌, ℕ, zero, suc, Bool, true, false, Option, Some, None, List, [], ◌∷◌, drop, slice_get, refl, sym, ap, ap₂, if◌then◌else◌, arith}
use Rattle.hmc_packet.specs.Packet.{PacketFields}
use Rattle.hmc_entries.specs.declared.entry.Entry.{Entry}
use Rattle.hmc_entries.specs.declared.entry.Entry.TheVariants.{Sent}
use Rattle.hmc_journal.specs.Setup.{Setup, Topology}
use Rattle.hmc_packet.specs.declared.what.What.{What}
use Rattle.hmc_send.specs.Entries.{Given, Part, unfinished}
use Rattle.hmc_send.specs.LinkEntries.{LinkEntry}
use Rattle.hmc_send.specs.LinkSenders.{sender_entries, given_after, given_in, queue_in}
use Rattle.hmc_wire.specs.LinkLaws.{IsKept}
use Rattle.hmc_journal.specs.Directions.{unsent, awaits_first}
use Rattle.hmc_journal.specs.Links.{toward, sizes_on, entries_on}
use Rattle.hmc_journal.specs.Queues.{QueueId, begins, left, contents}
use Rattle.hmc_journal.specs.Queues.QueueId.{Output}
use Rattle.hmc_journal.proofs.LinkKept.{kept-sent}
use Rattle.hmc_laws.proofs.LinkHanded.{IsSentAs, sent_as, new_left}
use Rattle.hmc_journal.proofs.Projections.{handed_are}
use Rattle.hmc_laws.proofs.UnsentFlits.{new_left-some, AreGathered, SendFacts, left_begun, send_facts, unsent_is, waits}
use Rattle.hmc_laws.proofs.QueueFronts.{begun_are}
use Rattle.hmc_journal.proofs.EntryRule.{EntryRule, HasFront, HasSent, feed_on}
use Rattle.hmc_journal.proofs.Moves.{HasLeaving, HasBegun}
use Rattle.hmc_laws.proofs.Entering.{Kept}
use Rattle.hmc_laws.proofs.Piping.{feed_fits, up_on}
use Rattle.hmc_journal.specs.Piped.{pipe_onto}
use Rattle.hmc_packet.specs.declared.what.What.TheVariants as what

pub output_is : (topology : Topology) (d : ℕ) (past : List Entry) → AreGathered topology past →
    IsKept (sizes_on topology d) (entries_on topology d past) → contents topology past (Output d)
    ≡ queue_in (sizes_on topology d) (toward d) (entries_on topology d past)
unfolding contents
output_is topology d past gathered kept =
    ap₂ (λ (n : ℕ) (l : List PacketFields). drop n l) (begun_are topology d past gathered kept)
    (handed_are topology d past)

has_front : (setup : Setup) (past : List Entry) (room : QueueId) (queue : List PacketFields)
    (front : PacketFields) → contents setup.topology past room ≡ queue → slice_get queue 0
    ≡ Some front → HasFront setup past room
has_front setup past room [] front is at = absurd cc
has_front setup past room (p ∷ rest) front is at = record { front = p; rest = rest; is = is }

begun-by : (setup : Setup) (past : List Entry) (d : ℕ) (waiting : Bool) (n : ℕ) (u : Option Part)
    (given : Given) (flit : List ℕ) → Kept setup past → n ≡ left_begun u → waiting ≡ waits u →
    IsSentAs what.New u given → SendFacts what.New flit u
    → given.front ≡ slice_get (queue_in (sizes_on setup.topology d) (toward d)
    (entries_on setup.topology d past)) 0 → HasLeaving setup past (begins waiting n d)
begun-by setup past d true n u given flit kept left awaits has facts front = tt
begun-by setup past d false zero None given flit kept left awaits has facts front =
    has_front setup past (Output d) (queue_in (sizes_on setup.topology d) (toward d)
    (entries_on setup.topology d past)) has.front
    (output_is setup.topology d past kept.gathered (kept.links (d / 2))) (sym front ∙ has.is)
begun-by setup past d false (suc n) u given flit kept left awaits has facts front = tt
begun-by setup past d false zero (Some part) given flit kept left awaits new facts front =
    let more = facts.more part refl in
    let now = new_left-some part new in
    let same : left_begun (Some part) ≡ new_left (Some part) =
    ap (λ (b : Bool). if b then 0 else new_left (Some part)) (sym awaits) in
    absurd (omega arith)

-- a send leaves the link as its users keep it: what is fed fits
pub sent_kept : (setup : Setup) (past : List Entry) (d : ℕ) (as_what : What) (flit : List ℕ) →
    Kept setup past → HasSent setup past d as_what flit
    → IsKept (sizes_on setup.topology d)
    (LinkEntry.sent (toward d) (feed_on setup.topology past d) as_what flit ∷ entries_on
    setup.topology d past)
sent_kept setup past d as_what flit kept sent =
    let fits =
    feed_fits (pipe_onto setup.topology d past) (up_on setup.topology d past) (kept.up d) in
    kept-sent (sizes_on setup.topology d) (entries_on setup.topology d past) (toward d)
    (feed_on setup.topology past d) as_what flit (kept.links (d / 2)) fits.fits fits.is_feed
    sent

begun-at : (setup : Setup) (past : List Entry) (d : ℕ) (flit : List ℕ) → Kept setup past →
    HasSent setup past d what.New flit →
    HasLeaving setup past (begins (awaits_first d past) (unsent d past) d)
unfolding given_after
begun-at setup past d flit kept sent =
    let sizes = sizes_on setup.topology d in
    let before = entries_on setup.topology d past in
    let feed = feed_on setup.topology past d in
    let unsent_now = unsent_is setup.topology d past kept.gathered (kept.links (d / 2)) in
    begun-by setup past d (awaits_first d past) (unsent d past)
    (unfinished (sender_entries sizes (toward d) before))
    (given_in sizes (toward d) before feed) flit kept unsent_now.left unsent_now.awaits
    (sent_as sizes before (toward d) feed what.New flit sent)
    (send_facts sizes (toward d) feed what.New flit before
    (sent_kept setup past d what.New flit kept sent)) refl

-- the front of an output queue is there where a flit begins a packet
pub has_begun : (setup : Setup) (past : List Entry) (entry : Entry) → EntryRule setup past entry →
    Kept setup past → HasBegun setup past entry
has_begun setup past (Sent d what.New flit) right kept = begun-at setup past d flit kept right
has_begun setup past _ right kept = tt
