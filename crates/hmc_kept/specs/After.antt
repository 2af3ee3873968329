-- What an entry leaves of the logic units, of the packets that are forwarded, and of the
-- entries of the links.
use Rattle.std.specs.Prelude.{ℕ, List, [], Option, Some, None}
use Rattle.hmc_codes.specs.declared.place.Place.TheVariants as places
use Rattle.hmc_packet.specs.Transactions.{request_packet}
use Rattle.hmc_units.specs.Unit.{UnitFields}
use Rattle.hmc_units.specs.Bench.{retired_slots}
use Rattle.hmc_serial.specs.Machine.{cube_state_at}
use Rattle.hmc_serial.specs.Perform.{perform_on}
use Rattle.hmc_send.specs.LinkEntries.{LinkEntry}
use Rattle.hmc_entries.specs.declared.entry.Entry.{Entry}
use Rattle.hmc_entries.specs.declared.entry.Entry.TheVariants.{Gave, Sent, Landed, Shifted, Dropped, Executed, Lifted, Took, Discarded, Through, Unlocked, Retired}
use Rattle.hmc_journal.specs.Links.{link_sizes, landing_mask, put_on, handed_at, taken_at, handed_on, fed_after, taken_if, forwarded_on}
use Rattle.hmc_journal.specs.Piped.{goes_on, pipe_of}
use Rattle.hmc_journal.specs.Queues.{front_of, tag_number}
use Rattle.hmc_journal.specs.Queues.QueueId.{Port, Answers}
use Rattle.hmc_journal.specs.Setup.{Topology, unit_cube, direction_to}
use Rattle.hmc_journal.specs.StepView.{StepView}
use Rattle.hmc_kept.specs.Pipes.{PipesHeld, after_begin, after_flit, after_loss}
use Rattle.hmc_kept.specs.Shown.{gathered}

-- the logic units, by what the step saw
abbrev pub slots_after : StepView → Entry → List (Option UnitFields) → List (Option UnitFields)
slots_after view (Executed unit host tag request answer) slots =
    (perform_on (cube_state_at view.state (unit_cube unit)) slots request).slots
slots_after view (Retired slot) slots = retired_slots slots slot
slots_after view _ slots = slots

-- the flits that are gathered at the end of a direction, if there is one
abbrev pub gathered_from : StepView → Option ℕ → List (List ℕ)
gathered_from view None = []
gathered_from view (Some direction) = gathered view direction

-- a packet is forwarded that is gathered at the end of a direction
abbrev pub begun_from : Topology → StepView → Option ℕ → (onto : ℕ) → PipesHeld → PipesHeld
begun_from topology view None onto held = held
begun_from topology view (Some from) onto held =
    after_begin onto (pipe_of topology from (gathered view from)) held

-- the packets that are forwarded
abbrev pub pipes_after : Topology → StepView → Entry → PipesHeld → PipesHeld
pipes_after topology view (Landed direction flit outcome) held =
    after_flit direction flit outcome held
pipes_after topology view (Through cube port onto) held =
    begun_from topology view (direction_to topology (places.Port cube port)) onto held
pipes_after topology view (Unlocked direction) held = after_loss direction held
pipes_after topology view _ held = held

-- the entries of a link
abbrev pub entries_after : Topology → StepView → Entry → (link : ℕ) → List LinkEntry
entries_after topology view (Gave host tag poisoned request) link =
    handed_at topology link (places.Host host)
    (request_packet request (tag_number tag) host poisoned) (view.entries link)
entries_after topology view (Sent direction what flit) link =
    let before = view.entries link in
    put_on link (Some direction)
    (λ d. LinkEntry.sent d (fed_after (link_sizes topology link) d before (view.pipe direction))
    what flit) before
entries_after topology view (Landed direction flit outcome) link =
    taken_if (goes_on outcome (view.forwarded direction)) link direction
    (put_on link (Some direction)
    (λ d. LinkEntry.landed d
    (landing_mask (link_sizes topology link) d (view.entries link) flit) flit outcome)
    (view.entries link))
entries_after topology view (Shifted cube port goal) link =
    handed_on topology link cube goal (front_of (view.inside (Port cube port)))
    (taken_at topology link (places.Port cube port) (view.entries link))
entries_after topology view (Dropped cube port) link =
    taken_at topology link (places.Port cube port) (view.entries link)
entries_after topology view (Lifted cube from port) link =
    handed_at topology link (places.Port cube port)
    (front_of (view.inside (Answers cube from))) (view.entries link)
entries_after topology view (Took host tag answer) link =
    taken_at topology link (places.Host host) (view.entries link)
entries_after topology view (Discarded host) link =
    taken_at topology link (places.Host host) (view.entries link)
entries_after topology view (Through cube port direction) link =
    forwarded_on link direction (gathered_from view (direction_to topology (places.Port cube port)))
    (view.entries link)
entries_after topology view (Unlocked direction) link =
    put_on link (Some direction) LinkEntry.unlocked (view.entries link)
entries_after topology view _ link = view.entries link
