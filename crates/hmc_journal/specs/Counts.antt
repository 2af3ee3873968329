-- What a journal counts of a host, of a cube and of a direction.
use Rattle.std.specs.Prelude.{ℕ, suc, Bool, true, false, ◌==◌, ◌&&◌, List, [], ◌∷◌, length}
use Rattle.hmc_journal.specs.Setup.{Topology, unit_cube}
use Rattle.hmc_codes.specs.declared.counts.HostCounts.{HostCounts}
use Rattle.hmc_codes.specs.declared.counts.CubeCounts.{CubeCounts}
use Rattle.hmc_codes.specs.declared.counts.Counters.{Counters}
use Rattle.hmc_codes.specs.declared.counts.TokenRow.{TokenRow}
use Rattle.hmc_host.specs.Tags.{number_out}
use Rattle.hmc_packet.specs.declared.outcome.Outcome.TheVariants.{Repeat, AbortedBad, AbortedOrder}
use Rattle.hmc_packet.specs.declared.view.Mode.{Mode}
use Rattle.hmc_packet.specs.declared.view.Mode.TheVariants as modes
use Rattle.hmc_packet.specs.Landings.{ReceiverEntry, mode}
use Rattle.hmc_send.specs.declared.toward.Toward.{Toward}
use Rattle.hmc_send.specs.LinkEntries.{LinkEntry, same_way}
use Rattle.hmc_packet.specs.Masks.{changes}
use Rattle.hmc_send.specs.LinkSenders.{tokens}
use Rattle.hmc_entries.specs.declared.entry.Entry.{Entry}
use Rattle.hmc_entries.specs.declared.entry.Entry.TheVariants.{Executed, Took, Dropped}
use Rattle.hmc_journal.specs.Directions.{sent_flits, landed_flits, receiver_of, accepted}
use Rattle.hmc_journal.specs.Hosts.{given_count, tags_out, count_if}
use Rattle.hmc_journal.specs.Links.{toward, entries_on, sizes_on}

-- how many answers a host took
unfoldable pub taken_count : (host : ℕ) → List Entry → ℕ
taken_count h [] = 0
taken_count h (Took host tag answer ∷ past) = count_if (host == h) (taken_count h past)
taken_count h (_ ∷ past) = taken_count h past

-- how many requests were executed in a cube
unfoldable pub executed_count : (cube : ℕ) → List Entry → ℕ
executed_count c [] = 0
executed_count c (Executed unit host tag request answer ∷ past) =
    count_if (unit_cube unit == c) (executed_count c past)
executed_count c (_ ∷ past) = executed_count c past

-- how many poisoned packets were dropped there
unfoldable pub dropped_count : (cube : ℕ) → List Entry → ℕ
dropped_count c [] = 0
dropped_count c (Dropped cube port ∷ past) = count_if (cube == c) (dropped_count c past)
dropped_count c (_ ∷ past) = dropped_count c past

-- what a journal counts of a host
unfoldable pub host_counts : List Entry → (host : ℕ) → HostCounts
host_counts past host = record {
  given = given_count host past;
  taken = taken_count host past;
  out = number_out (tags_out host past);
}

-- and of a cube
unfoldable pub cube_counts : List Entry → (cube : ℕ) → CubeCounts
cube_counts past cube =
    record { executed = executed_count cube past; dropped = dropped_count cube past }

-- how many landings of a direction of a link were under a mask that changes
unfoldable pub changed_landings : Toward → List LinkEntry → ℕ
changed_landings d [] = 0
changed_landings d (LinkEntry.landed way mask flit outcome ∷ past) =
    count_if (same_way d way && changes mask) (changed_landings d past)
changed_landings d (_ ∷ past) = changed_landings d past

-- how many landings of a receiver were of a packet that it had accepted before
unfoldable pub repeats : List ReceiverEntry → ℕ
repeats [] = 0
repeats (ReceiverEntry.Land flit Repeat ∷ past) = suc (repeats past)
repeats (_ ∷ past) = repeats past

-- a receiver may lose a packet
abbrev pub is_good : Mode → Bool
is_good modes.Good = true
is_good _ = false

-- how many landings aborted; an unlock counts where the receiver was good
unfoldable pub aborts : List ReceiverEntry → ℕ
aborts [] = 0
aborts (ReceiverEntry.Land flit (AbortedBad bad) ∷ past) = suc (aborts past)
aborts (ReceiverEntry.Land flit AbortedOrder ∷ past) = suc (aborts past)
aborts (ReceiverEntry.Unlock ∷ past) = count_if (is_good (mode past)) (aborts past)
aborts (_ ∷ past) = aborts past

-- what a journal counts of a direction
unfoldable pub direction_counts : Topology → List Entry → (direction : ℕ) → Counters
direction_counts topology past direction = record {
  sent = length (sent_flits direction past);
  landed = length (landed_flits direction past);
  changed = changed_landings (toward direction) (entries_on topology direction past);
  accepted = length (accepted topology direction past);
  repeats = repeats (receiver_of direction past);
  aborts = aborts (receiver_of direction past);
}

-- its tokens
unfoldable pub token_counts : Topology → List Entry → (direction : ℕ) → TokenRow
token_counts topology past direction =
    tokens (sizes_on topology direction) (toward direction) (entries_on topology direction past)
