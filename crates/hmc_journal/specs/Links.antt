-- What each link did, read off a journal. This file alone says what an entry of a journal is to a
-- link; hmc_send says what the entries of a link give.
use Rattle.std.specs.Prelude.{ℕ, ◌/◌, ◌%◌, ◌==◌, Bool, true, false, if◌then◌else◌, List, [], ◌∷◌, slice_get, slice_index_or, Option, Some, None}
use Rattle.std.specs.Str.{bytes_eq}
use Rattle.hmc_codes.specs.Flit.{zero_flit}
use Rattle.hmc_codes.specs.Link.{LinkFields}
use Rattle.hmc_codes.specs.declared.place.Place.{Place}
use Rattle.hmc_codes.specs.declared.place.Place.TheVariants as places
use Rattle.hmc_packet.specs.declared.feed.Feed.{Feed}
use Rattle.hmc_packet.specs.Landings.{pending}
use Rattle.hmc_packet.specs.Parts.{lng_of}
use Rattle.hmc_packet.specs.Packet.{PacketFields}
use Rattle.hmc_packet.specs.Transactions.{request_packet}
use Rattle.hmc_send.specs.declared.toward.Toward.{Toward}
use Rattle.hmc_send.specs.declared.toward.Toward.TheVariants.{Forth, Back}
use Rattle.hmc_send.specs.LinkEntries.{LinkEntry, put_if}
use Rattle.hmc_send.specs.Entries.{through_at}
use Rattle.hmc_packet.specs.Masks.{under_mask}
use Rattle.hmc_send.specs.LinkLines.{StampedFlit, line}
use Rattle.hmc_send.specs.LinkSenders.{sender_entries}
use Rattle.hmc_entries.specs.declared.outcome.Goal.{Goal}
use Rattle.hmc_entries.specs.declared.outcome.Goal.TheVariants as goals
use Rattle.hmc_entries.specs.declared.entry.Entry.{Entry}
use Rattle.hmc_entries.specs.declared.entry.Entry.TheVariants.{Gave, Sent, Landed, Shifted, Dropped, Lifted, Took, Discarded, Through, Unlocked}
use Rattle.hmc_journal.specs.Directions.{receiver_of}
use Rattle.hmc_journal.specs.Piped.{PipeFrom, forwarded_onto, goes_on, pipe_onto, fed}
use Rattle.hmc_journal.specs.Setup.{Topology, no_link, direction_from}
pub use Rattle.hmc_journal.specs.Setup.{direction_to}
use Rattle.hmc_journal.specs.Queues.{tag_number, front_of, contents}
use Rattle.hmc_journal.specs.Queues.QueueId.{Port, Answers}

-- Link i has the directions 2 * i, which goes Forth, and 2 * i + 1, which goes Back.
abbrev pub toward : (direction : ℕ) → Toward
toward direction = if direction % 2 == 0 then Forth else Back

-- the sizes and the profile of a link
abbrev pub link_sizes : Topology → (link : ℕ) → LinkFields
link_sizes topology link = (slice_index_or topology.links link no_link).setup

-- one more entry, in a direction of a link, if the direction is there and of this link
abbrev pub put_on : (link : ℕ) → Option ℕ → (Toward → LinkEntry) → List LinkEntry → List LinkEntry
put_on link None entry past = past
put_on link (Some direction) entry past =
    put_if (direction / 2 == link) (entry (toward direction)) past

-- a packet is handed to the link that starts at a place
abbrev pub handed_at : Topology → (link : ℕ) → Place → PacketFields → List LinkEntry →
    List LinkEntry
handed_at topology link place packet past =
    put_on link (direction_from topology place) (λ d. LinkEntry.handed d packet) past

-- a packet is taken from the buffer at a place
abbrev pub taken_at : Topology → (link : ℕ) → Place → List LinkEntry → List LinkEntry
taken_at topology link place past = put_on link (direction_to topology place) LinkEntry.taken past

-- a packet that goes from a port to another port is handed to the link there
abbrev pub handed_on : Topology → (link cube : ℕ) → Goal → PacketFields → List LinkEntry →
    List LinkEntry
handed_on topology link cube (goals.Port port) packet past =
    handed_at topology link (places.Port cube port) packet past
handed_on topology link cube _ packet past = past

-- the mask under which the front of a line landed as this flit: that of no bits where it landed as
-- it was sent, and else the bits in which they differ (that the line has no front doesn't come)
abbrev pub mask_between : Option StampedFlit → (flit : List ℕ) → List ℕ
mask_between None flit = zero_flit
mask_between (Some front) flit =
    if bytes_eq front.flit flit then zero_flit else under_mask front.flit flit

-- the mask under which a flit landed in a direction of a link, after these entries of the link
abbrev pub landing_mask : LinkFields → Toward → List LinkEntry → (flit : List ℕ) → List ℕ
landing_mask sizes d past flit = mask_between (slice_get (line sizes.profile d past) 0) flit

-- what a send in a direction of a link is fed, after these entries of the link
abbrev pub fed_after : LinkFields → Toward → List LinkEntry → Option PipeFrom → Feed
fed_after sizes d past pipe = fed (through_at sizes.profile (sender_entries sizes d past)) pipe

-- what is accepted while it is forwarded is taken at once from the buffer of its direction
abbrev pub taken_if : Bool → (link direction : ℕ) → List LinkEntry → List LinkEntry
taken_if false link direction past = past
taken_if true link direction past = put_on link (Some direction) LinkEntry.taken past

-- a packet is forwarded that is gathered at the end of a direction, with its first flit and as many
-- flits as that says (that none is gathered doesn't come)
abbrev pub forwarded_on : (link : ℕ) → (direction : ℕ) → (came : List (List ℕ)) → List LinkEntry →
    List LinkEntry
forwarded_on link direction [] past = past
forwarded_on link direction (head ∷ rest) past =
    put_on link (Some direction) (λ d. LinkEntry.through d head (lng_of head)) past

-- the flits that are gathered at the end of a direction, if there is one
abbrev pub gathered_at : Option ℕ → List Entry → List (List ℕ)
gathered_at None past = []
gathered_at (Some direction) past = pending (receiver_of direction past)

-- The entries of a link, the newest first. A landing that passed is none of them: no link is asked
-- for anything after it.
unfoldable pub link_entries : Topology → (link : ℕ) → List Entry → List LinkEntry
link_entries topology link [] = []
link_entries topology link (Gave host tag poisoned request ∷ past) =
    handed_at topology link (places.Host host)
    (request_packet request (tag_number tag) host poisoned) (link_entries topology link past)
link_entries topology link (Sent direction what flit ∷ past) =
    let before = link_entries topology link past in
    put_on link (Some direction)
    (λ d. LinkEntry.sent d
    (fed_after (link_sizes topology link) d before (pipe_onto topology direction past)) what flit)
    before
link_entries topology link (Landed direction flit outcome ∷ past) =
    let before = link_entries topology link past in
    taken_if (goes_on outcome (forwarded_onto topology direction past)) link direction
    (put_on link (Some direction)
    (λ d. LinkEntry.landed d (landing_mask (link_sizes topology link) d before flit) flit outcome)
    before)
link_entries topology link (Shifted cube port goal ∷ past) =
    handed_on topology link cube goal (front_of (contents topology past (Port cube port)))
    (taken_at topology link (places.Port cube port) (link_entries topology link past))
link_entries topology link (Dropped cube port ∷ past) =
    taken_at topology link (places.Port cube port) (link_entries topology link past)
link_entries topology link (Lifted cube from port ∷ past) =
    handed_at topology link (places.Port cube port)
    (front_of (contents topology past (Answers cube from))) (link_entries topology link past)
link_entries topology link (Took host tag answer ∷ past) =
    taken_at topology link (places.Host host) (link_entries topology link past)
link_entries topology link (Discarded host ∷ past) =
    taken_at topology link (places.Host host) (link_entries topology link past)
link_entries topology link (Through cube port direction ∷ past) =
    forwarded_on link direction
    (gathered_at (direction_to topology (places.Port cube port)) past)
    (link_entries topology link past)
link_entries topology link (Unlocked direction ∷ past) =
    put_on link (Some direction) LinkEntry.unlocked (link_entries topology link past)
link_entries topology link (_ ∷ past) = link_entries topology link past

-- the entries of the link of a direction
abbrev pub entries_on : Topology → (direction : ℕ) → List Entry → List LinkEntry
entries_on topology direction past = link_entries topology (direction / 2) past

-- its sizes and its profile
abbrev pub sizes_on : Topology → (direction : ℕ) → LinkFields
sizes_on topology direction = link_sizes topology (direction / 2)
