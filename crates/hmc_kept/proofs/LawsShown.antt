-- A view of a lawful journal keeps what the laws promise.
use Rattle.std.proofs.Common.{◌≡◌, ◌<◌, ◌∙◌, ℕ, Some, List, drop, refl, ap}
use Rattle.std.specs.Prelude.{filter}
use Rattle.hmc_packet.specs.Landings as receivers
use Rattle.hmc_packet.specs.Landings.{ReceiverEntry}
use Rattle.hmc_send.specs.Entries.{under_way}
use Rattle.hmc_send.specs.IsSender.{IsFed}
use Rattle.hmc_send.specs.LinkEntries.{takes, receiver_entries}
use Rattle.hmc_send.specs.LinkSenders.{sender_entries}
use Rattle.hmc_send.specs.Places.{is_token}
use Rattle.hmc_entries.specs.declared.entry.Entry.{Entry}
use Rattle.hmc_journal.specs.Directions.{accepted}
use Rattle.hmc_journal.specs.Hosts.{host_of}
use Rattle.hmc_journal.specs.Links.{toward, entries_on, sizes_on, fed_after}
use Rattle.hmc_journal.specs.Piped.{forwarded_onto, pipe_onto}
use Rattle.hmc_journal.specs.QueueInvariant.{LinkInvariant, QueueInvariant, AnswersAwaited}
use Rattle.hmc_journal.specs.Setup.{Topology, Setup, directions_in}
use Rattle.hmc_journal.specs.StepView.{view_of}
use Rattle.hmc_kept.specs.Shown.{ShowsDirection, IsForwardedIn, IsOnward, KeepsLaws}
use Rattle.hmc_kept.proofs.Gathering.{are_good, are_short, all_seen}

-- what a direction is fed fits the packet that is forwarded onto it
abbrev pub IsWellFed : Topology → List Entry → (direction : ℕ) → Type 0
IsWellFed topology past direction =
    IsFed (under_way (sizes_on topology direction).profile (sender_entries (sizes_on topology direction) (toward direction) (entries_on topology direction past)))
    (fed_after (sizes_on topology direction) (toward direction) (entries_on topology direction past) (pipe_onto topology direction past))

-- what the laws of journals promise
pub record IsLawBound (setup : Setup) (past : List Entry) : Type 0 where
  pub queues : QueueInvariant setup past
  pub awaited : AnswersAwaited setup past
  pub fed : (direction : ℕ) → direction < directions_in setup.topology → IsWellFed setup.topology past direction
  pub onward : (direction : ℕ) → direction < directions_in setup.topology → IsOnward setup.topology (view_of setup past) direction
  pub forwarded : (direction onto : ℕ) → direction < directions_in setup.topology → forwarded_onto setup.topology direction past ≡ Some onto → IsForwardedIn setup.topology (view_of setup past) direction onto

pub direction_shown : (setup : Setup) (past : List Entry) (direction : ℕ) → LinkInvariant setup.topology past direction → IsWellFed setup.topology past direction → ShowsDirection setup.topology (view_of setup past) direction
unfolding view_of accepted
direction_shown setup past direction law fed = record {
  output = law.output;
  buffer = law.buffer ∙ ap (λ (r : List ReceiverEntry). drop (takes (toward direction) (entries_on setup.topology direction past)) (filter is_token (receivers.accepted (sizes_on setup.topology direction).profile r))) law.receiver;
  fed = fed;
  gathers = all_seen (receivers.mode (receiver_entries (toward direction) (entries_on setup.topology direction past))) (receivers.pending (receiver_entries (toward direction) (entries_on setup.topology direction past)))
      (are_good (sizes_on setup.topology direction) (toward direction) (entries_on setup.topology direction past) law.kept.lawful);
  short = are_short (sizes_on setup.topology direction) (toward direction) (entries_on setup.topology direction past) law.kept.lawful;
}

pub number_is : (setup : Setup) (past : List Entry) (host : ℕ) → (host_of setup past host).number ≡ host
unfolding host_of
number_is setup past host = refl

pub laws_kept : (setup : Setup) (past : List Entry) → IsLawBound setup past → KeepsLaws setup.topology (view_of setup past)
unfolding view_of
laws_kept setup past law = record {
  directions = λ direction there. direction_shown setup past direction (law.queues.links direction there) (law.fed direction there);
  onward = law.onward;
  forwarded = law.forwarded;
  ports = law.queues.ports;
  banks = law.queues.banks;
  registers = law.queues.registers;
  answers = law.queues.answers;
  hosts = law.awaited.hosts;
  numbers = number_is setup past;
}
