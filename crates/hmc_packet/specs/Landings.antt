-- What a receiver has seen: a list of its entries, the newest first. What is gathered from them has
-- the oldest first.
use Rattle.std.specs.Prelude.{ℕ, suc, ◌%◌, Bool, true, false, ◌||◌, if◌then◌else◌, List, [], ◌∷◌, ◌++◌, sum_by, Option, Some, None, is_some, Result, Ok, Err}
use Rattle.std.specs.Str.{bytes_eq}
use Rattle.hmc_codes.specs.Profile.{modulus_of}
use Rattle.hmc_codes.specs.declared.profile.Profile.{Profile}
use Rattle.hmc_packet.specs.declared.bad.Bad.{Bad}
use Rattle.hmc_packet.specs.declared.kind.Kind.{Kind}
use Rattle.hmc_packet.specs.declared.kind.Kind.TheVariants.{Start, Clear}
use Rattle.hmc_packet.specs.declared.outcome.Outcome.{Outcome}
use Rattle.hmc_packet.specs.declared.outcome.Outcome.TheVariants.{Quiet, Trained, Gathered, Accepted, Poisoned, AbortedBad, AbortedOrder, Ran}
use Rattle.hmc_packet.specs.declared.seen.Seen.{Seen}
use Rattle.hmc_packet.specs.declared.view.Mode.{Mode}
use Rattle.hmc_packet.specs.declared.view.Mode.TheVariants.{Train, Abort, Good}
use Rattle.hmc_packet.specs.declared.view.View.{View}
use Rattle.hmc_packet.specs.Irtry.{irtry_in}
use Rattle.hmc_packet.specs.Packet.{PacketFields, flits_of}
use Rattle.hmc_packet.specs.Reading.{read_of}
use Rattle.hmc_packet.specs.Spelling.{training_flit}

-- an entry of a receiver: a flit landed with this outcome, or the framing was lost
pub data ReceiverEntry : Type 0 where
  Land : (flit : List ℕ) → Outcome → ReceiverEntry
  Unlock : ReceiverEntry

-- A receiver leaves Train when it is trained. From then on an aborted landing or an unlock brings
-- it to Abort, and a run of Clears to Good.
abbrev pub mode_after : Mode → ReceiverEntry → Mode
mode_after Train (Land flit Trained) = Abort
mode_after Train _ = Train
mode_after mode (Land flit Trained) = Abort
mode_after mode (Land flit (AbortedBad bad)) = Abort
mode_after mode (Land flit AbortedOrder) = Abort
mode_after mode (Land flit (Ran Clear)) = Good
mode_after mode Unlock = Abort
mode_after mode _ = mode

-- what a receiver waits for
unfoldable pub mode : List ReceiverEntry → Mode
mode [] = Train
mode (entry ∷ past) = mode_after (mode past) entry

-- the gathered flits after one more entry: those before it and its own, or none
abbrev pub gathered_after : List (List ℕ) → ReceiverEntry → List (List ℕ)
gathered_after flits (Land flit Gathered) = flits ++ flit ∷ []
gathered_after flits _ = []

-- the landed flits of a packet that isn't whole yet: those of the last entries that are all
-- gathered
unfoldable pub pending : List ReceiverEntry → List (List ℕ)
pending [] = []
pending (entry ∷ past) = gathered_after (pending past) entry

-- the IRTRYs of one kind in a row that are a run
abbrev pub whole_run : ℕ
whole_run = 24

-- the two are one kind
abbrev pub same_kind : Kind → Kind → Bool
same_kind Start Start = true
same_kind Clear Clear = true
same_kind _ _ = false

-- an IRTRY of this kind
abbrev pub is_of_kind : Kind → Option (Kind × ℕ) → Bool
is_of_kind kind None = false
is_of_kind kind (Some irtry) = same_kind irtry.0 kind

-- the IRTRY that the flit of an entry is alone, if it can be one of a run
abbrev pub irtry_of_entry : Profile → ReceiverEntry → Option (Kind × ℕ)
irtry_of_entry profile (Land flit Quiet) = irtry_in profile flit
irtry_of_entry profile (Land flit (Ran kind)) = irtry_in profile flit
irtry_of_entry profile _ = None

-- how many IRTRYs of this kind are last, with nothing between
unfoldable pub run : Profile → Kind → List ReceiverEntry → ℕ
run profile kind [] = 0
run profile kind (entry ∷ past) =
    if is_of_kind kind (irtry_of_entry profile entry) then suc (run profile kind past) else 0

-- the flits in a row that train a receiver
abbrev pub whole_training : ℕ
whole_training = 8

-- the training flit, or one that reads alone as an IRTRY
unfoldable pub is_training : Profile → List ℕ → Bool
is_training profile flit = bytes_eq flit training_flit || is_some (irtry_in profile flit)

-- an entry that trains
abbrev pub trains : Profile → ReceiverEntry → Bool
trains profile (Land flit Quiet) = is_training profile flit
trains profile _ = false

-- how many entries that train are last, with nothing between
unfoldable pub training : Profile → List ReceiverEntry → ℕ
training profile [] = 0
training profile (entry ∷ past) =
    if trains profile entry then suc (training profile past) else 0

-- the packet that was read, if one was
abbrev pub packets_in : Result Seen Bad → List PacketFields
packets_in (Ok seen) = seen.packet ∷ []
packets_in (Err bad) = []

-- the packet that an entry accepts, poisoned or not: what the pending flits and its own read as
abbrev pub accepted_by : Profile → (flits : List (List ℕ)) → ReceiverEntry → List PacketFields
accepted_by profile flits (Land flit Accepted) = packets_in (read_of profile (flits ++ flit ∷ []))
accepted_by profile flits (Land flit Poisoned) = packets_in (read_of profile (flits ++ flit ∷ []))
accepted_by profile flits _ = []

-- the packets that were accepted, the poisoned ones and TRETs among them
unfoldable pub accepted : Profile → List ReceiverEntry → List PacketFields
accepted profile [] = []
accepted profile (entry ∷ past) =
    accepted profile past ++ accepted_by profile (pending past) entry

-- their flits
abbrev pub flits_in : List PacketFields → ℕ
flits_in packets = sum_by flits_of packets

-- the forward pointer of the last one, which the other direction returns: 0 where there is none
abbrev pub pointer_of : Profile → List ReceiverEntry → ℕ
pointer_of profile past = flits_in (accepted profile past) % modulus_of profile

-- what the sender at the same end sees of the receiver
abbrev pub receiver_view : Profile → List ReceiverEntry → View
receiver_view profile past = record { mode = mode past; rrp = pointer_of profile past }
