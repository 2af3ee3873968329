-- What a journal says of the flits and packets of a direction. A journal has its newest entry
-- first; the lists of flits and packets have the oldest first.
use Rattle.std.specs.Prelude.{ℕ, zero, suc, ◌-◌, Bool, true, false, ◌==◌, List, [], ◌∷◌, length, Option, Some, slice_get}
use Rattle.hmc_codes.specs.Flit.{zero_flit}
use Rattle.hmc_codes.specs.declared.profile.Profile.{Profile}
use Rattle.hmc_packet.specs.declared.outcome.Outcome.{Outcome}
use Rattle.hmc_packet.specs.declared.what.What.TheVariants.{New}
use Rattle.hmc_packet.specs.Landings.{ReceiverEntry, pending, accepted_by}
use Rattle.hmc_packet.specs.Landings as receivers
use Rattle.hmc_packet.specs.Packet.{PacketFields}
use Rattle.hmc_packet.specs.Parts.{lng_of}
use Rattle.hmc_schedule.specs.declared.step.Step.{Step}
use Rattle.hmc_schedule.specs.declared.step.Step.TheVariants as steps
use Rattle.hmc_send.specs.LinkEntries.{put_if}
use Rattle.hmc_journal.specs.Choice.{choose, append_if}
use Rattle.hmc_entries.specs.declared.entry.Entry.{Entry}
use Rattle.hmc_entries.specs.declared.entry.Entry.TheVariants.{Sent, Landed, Through, Unlocked, Passed}
use Rattle.hmc_journal.specs.Setup.{Topology, link_of}

-- the flits that were sent on a direction
unfoldable pub sent_flits : ℕ → List Entry → List (List ℕ)
sent_flits d [] = []
sent_flits d (Sent direction what flit ∷ past) =
    append_if (direction == d) (flit ∷ []) (sent_flits d past)
sent_flits d (_ ∷ past) = sent_flits d past

-- the flits that landed, each as its mask left it
unfoldable pub landed_flits : ℕ → List Entry → List (List ℕ)
landed_flits d [] = []
landed_flits d (Landed direction flit outcome ∷ past) =
    append_if (direction == d) (flit ∷ []) (landed_flits d past)
landed_flits d (Passed direction flit ∷ past) =
    append_if (direction == d) (flit ∷ []) (landed_flits d past)
landed_flits d (_ ∷ past) = landed_flits d past

-- the mask of a step; a step that lands nothing has none
abbrev pub mask_of_step : Option Step → List ℕ
mask_of_step (Some (steps.Land direction mask)) = mask
mask_of_step _ = zero_flit

-- the masks of the steps by which they landed: an entry is that of the step at its place
unfoldable pub landed_masks : ℕ → (schedule : List Step) → List Entry → List (List ℕ)
landed_masks d schedule [] = []
landed_masks d schedule (Landed direction flit outcome ∷ past) =
    append_if (direction == d) (mask_of_step (slice_get schedule (length past)) ∷ [])
    (landed_masks d schedule past)
landed_masks d schedule (Passed direction flit ∷ past) =
    append_if (direction == d) (mask_of_step (slice_get schedule (length past)) ∷ [])
    (landed_masks d schedule past)
landed_masks d schedule (_ ∷ past) = landed_masks d schedule past

-- the flits left after one more was sent: the first of a packet names how many there are
abbrev pub one_sent : (lng left : ℕ) → ℕ
one_sent lng zero = lng - 1
one_sent lng (suc left) = left

-- the flits of the packet that was begun last for the first time which weren't sent yet
unfoldable pub unsent : ℕ → List Entry → ℕ
unsent d [] = 0
unsent d (Sent direction New flit ∷ past) =
    choose (direction == d) (one_sent (lng_of flit) (unsent d past)) (unsent d past)
unsent d (_ ∷ past) = unsent d past

-- a packet was forwarded onto the direction, and none of its flits was sent yet
unfoldable pub awaits_first : ℕ → List Entry → Bool
awaits_first d [] = false
awaits_first d (Through cube port direction ∷ past) =
    choose (direction == d) true (awaits_first d past)
awaits_first d (Sent direction New flit ∷ past) =
    choose (direction == d) false (awaits_first d past)
awaits_first d (_ ∷ past) = awaits_first d past

-- the entries of the receiver at the end of a direction: its landings and unlocks
unfoldable pub receiver_of : ℕ → List Entry → List ReceiverEntry
receiver_of d [] = []
receiver_of d (Landed direction flit outcome ∷ past) =
    put_if (direction == d) (ReceiverEntry.Land flit outcome) (receiver_of d past)
receiver_of d (Unlocked direction ∷ past) =
    put_if (direction == d) ReceiverEntry.Unlock (receiver_of d past)
receiver_of d (_ ∷ past) = receiver_of d past

-- the profile of a direction
abbrev pub profile_of : Topology → (direction : ℕ) → Profile
profile_of topology direction = (link_of topology direction).setup.profile

-- the packet that the landing of a flit with this outcome accepts, if it accepts one
unfoldable pub landed_packets : Topology → (direction : ℕ) → (flit : List ℕ) → Outcome → List Entry
    → List PacketFields
landed_packets topology direction flit outcome past =
    accepted_by (profile_of topology direction) (pending (receiver_of direction past))
    (ReceiverEntry.Land flit outcome)

-- the packets that were accepted on a direction, the poisoned ones and TRETs among them
unfoldable pub accepted : Topology → (direction : ℕ) → List Entry → List PacketFields
accepted topology direction past =
    receivers.accepted (profile_of topology direction) (receiver_of direction past)
