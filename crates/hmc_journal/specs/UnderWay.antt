-- The number of packets under way: requests and answers that wait in a queue or a buffer, and those
-- that were begun on a direction and not accepted at its end.
use Rattle.std.specs.Prelude.{ℕ, ◌+◌, List, length, drop, filter, flat_map}
use Rattle.hmc_send.specs.LinkSenders.{places_in}
use Rattle.hmc_send.specs.Places.{Place, takes_tokens}
use Rattle.hmc_entries.specs.declared.entry.Entry.{Entry}
use Rattle.hmc_journal.specs.Directions.{accepted}
use Rattle.hmc_journal.specs.Drained.{queues_of, directions_of}
use Rattle.hmc_journal.specs.Links.{toward, sizes_on, entries_on}
use Rattle.hmc_journal.specs.Queues.{QueueId, contents}
use Rattle.hmc_journal.specs.Setup.{Topology}

-- how many packets some queues hold
abbrev pub count_in : Topology → List Entry → List QueueId → ℕ
count_in topology past queues = length (flat_map (contents topology past) queues)

-- The packets that take tokens and were begun on a direction and not accepted, poisoned ones too. A
-- packet that goes on before it has come whole is among those of both directions.
abbrev pub crossing_places : Topology → List Entry → (direction : ℕ) → List Place
crossing_places topology past direction =
    filter takes_tokens
    (drop (length (accepted topology direction past))
    (places_in (sizes_on topology direction) (toward direction)
    (entries_on topology direction past)))

-- both together; none crosses and none waits exactly where the number is 0
unfoldable pub under_way : Topology → List Entry → ℕ
under_way topology past =
    count_in topology past (queues_of topology)
    + length (flat_map (crossing_places topology past) (directions_of topology))
