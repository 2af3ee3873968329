-- The line of each direction, and which changes pass the checks.
use Rattle.std.specs.Prelude.{ℕ, Bool, false, ◌&&◌, ◌||◌, if◌then◌else◌, List, [], ◌∷◌, length, drop}
use Rattle.hmc_codes.specs.declared.profile.Profile.{Profile}
use Rattle.hmc_packet.specs.declared.outcome.Outcome.{Outcome}
use Rattle.hmc_packet.specs.declared.outcome.Outcome.TheVariants.{Gathered}
use Rattle.hmc_packet.specs.Masks.{changes}
use Rattle.hmc_packet.specs.Receptions.{reception_of}
use Rattle.hmc_send.specs.declared.toward.Toward.{Toward}
use Rattle.hmc_send.specs.LinkEntries.{LinkEntry, other, same_way, push_if, count_if, receiver_entries, accepted_packets}

-- a flit that was sent, with its stamp: how many packets its own end had accepted then
pub record StampedFlit : Type 0 where
  pub flit : List ℕ
  pub stamp : ℕ

-- a flit that is sent in a direction after these entries
abbrev pub stamped_flit : Profile → Toward → List LinkEntry → (flit : List ℕ) → StampedFlit
stamped_flit profile d past flit =
    record { flit = flit; stamp = length (accepted_packets profile (other d) past) }

-- the flits that were sent in a direction
unfoldable pub sent_flits : Profile → Toward → List LinkEntry → List StampedFlit
sent_flits profile d [] = []
sent_flits profile d (LinkEntry.sent way feed what flit ∷ past) =
    push_if (same_way d way) (stamped_flit profile d past flit) (sent_flits profile d past)
sent_flits profile d (_ ∷ past) = sent_flits profile d past

-- how many landed
unfoldable pub landings : Toward → List LinkEntry → ℕ
landings d [] = 0
landings d (LinkEntry.landed way mask flit outcome ∷ past) =
    count_if (same_way d way) (landings d past)
landings d (_ ∷ past) = landings d past

-- the line: the flits that were sent and haven't landed
unfoldable pub line : Profile → Toward → List LinkEntry → List StampedFlit
line profile d past = drop (landings d past) (sent_flits profile d past)

-- whether a changed flit is pending, after a landing
abbrev pub changed_after : (mask : List ℕ) → Outcome → (before : Bool) → Bool
changed_after mask Gathered before = before || changes mask
changed_after mask _ before = false

-- one of the pending flits of a direction is changed
unfoldable pub is_pending_changed : Toward → List LinkEntry → Bool
is_pending_changed d [] = false
is_pending_changed d (LinkEntry.landed way mask flit outcome ∷ past) =
    let before = is_pending_changed d past in
    if same_way d way then changed_after mask outcome before else before
is_pending_changed d (LinkEntry.unlocked way ∷ past) =
    if same_way d way then false else is_pending_changed d past
is_pending_changed d (_ ∷ past) = is_pending_changed d past

-- A change passes: in the landing of this flit under this mask a check succeeds, and of the flits
-- that it covers, the landed one and the pending ones, one is changed.
unfoldable pub passes : Profile → Toward → List LinkEntry → (mask flit : List ℕ) → Bool
passes profile d past mask flit =
    (reception_of profile (receiver_entries d past) flit).checked
    && (is_pending_changed d past || changes mask)
