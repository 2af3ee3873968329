-- What a return pointer acknowledges.
use Rattle.std.specs.Prelude.{ℕ, ◌+◌, Bool, false, ◌==◌, if◌then◌else◌, List, ◌∷◌, take, drop, position, Option, Some, None}
use Rattle.hmc_codes.specs.declared.profile.Profile.{Profile}
use Rattle.hmc_retry.specs.RetryBuffer.{place_after}
use Rattle.hmc_send.specs.Entries.{SenderEntry, places, acked}
use Rattle.hmc_send.specs.Places.{Place, pointer_of}

-- a place ends at this pointer; an open one ends at none before its last flit is sent
abbrev pub ends_at : (rrp : ℕ) → Place → Bool
ends_at rrp (Place.known packet) = packet.frp == rrp
ends_at rrp (Place.awaited head flits numbers) = false

-- how many of these places a pointer acknowledges: none where it is the base, which is the pointer
-- before them, and else all up to the first that ends at it; None where it is neither
abbrev pub acknowledged_among : (rrp base : ℕ) → List Place → Option ℕ
acknowledged_among rrp base waiting =
    if rrp == base then Some 0 else place_after (position (ends_at rrp) waiting)

-- the pointer of the last place that is acknowledged, 0 where none is
abbrev pub base_after : Profile → List SenderEntry → ℕ
base_after profile past = pointer_of profile (take (acked past) (places profile past))

-- how many more places a pointer acknowledges
abbrev pub acknowledged_after : Profile → (rrp : ℕ) → List SenderEntry → Option ℕ
acknowledged_after profile rrp past =
    acknowledged_among rrp (base_after profile past) (drop (acked past) (places profile past))

-- the entries after a pointer that acknowledges so many more; a stray one adds none
abbrev pub entries_acknowledged : Option ℕ → List SenderEntry → List SenderEntry
entries_acknowledged None past = past
entries_acknowledged (Some count) past = SenderEntry.acknowledged (acked past + count) ∷ past
