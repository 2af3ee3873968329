-- A retry buffer, as the contracts see it, and what its calls give and leave.
use Rattle.std.specs.Prelude.{◌≡◌, ◌≤◌, ◌<◌, ◌+◌, ◌-◌, ◌%◌, ℕ, suc, nat_lt, Bool, ◌==◌, if◌then◌else◌, List, [], ◌∷◌, ◌++◌, length, take, drop, slice_index_or, position, Option, Some, None, Result, Ok, Err}
use Rattle.hmc_codes.specs.Limits.{least_flits}
use Rattle.hmc_codes.specs.Profile.{modulus_of, most_retry}
use Rattle.hmc_codes.specs.declared.profile.Profile.{Profile}
pub use Rattle.hmc_packet.specs.Landings.{flits_in}
use Rattle.hmc_packet.specs.Packet.{PacketFields, null_packet}
use Rattle.hmc_retry.specs.declared.stray.Stray.{Stray}

-- the flits that it may hold, and the profile of its pointers; the kept packets, the oldest first;
-- the pointer of the packet before them; and how many of them come before the one to be sent next
pub record RetryFields : Type 0 where
  pub flits : ℕ
  pub profile : Profile
  pub kept : List PacketFields
  pub base : ℕ
  pub position : ℕ

-- the pointer of what ends so many flits after the base
abbrev pub pointer_after : RetryFields → ℕ → ℕ
pointer_after buffer flits = (buffer.base + flits) % modulus_of buffer.profile

-- the flits for which there is room
abbrev pub room_of : RetryFields → ℕ
room_of buffer = buffer.flits - flits_in buffer.kept

-- the pointer of a further packet of so many flits
abbrev pub next_pointer : RetryFields → ℕ → ℕ
next_pointer buffer flits = pointer_after buffer (flits_in buffer.kept + flits)

-- a new buffer keeps nothing, and its base is 0
abbrev pub opening_buffer : (flits : ℕ) → Profile → RetryFields
opening_buffer flits profile =
    record { flits = flits; profile = profile; kept = []; base = 0; position = 0 }

-- a packet is kept; a position at the end stays at the end
abbrev pub after_put : PacketFields → RetryFields → RetryFields
after_put packet buffer = record buffer {
  kept = buffer.kept ++ packet ∷ [];
  position = if buffer.position == length buffer.kept then suc buffer.position else buffer.position;
}

-- a packet with these numbers
abbrev pub numbered : (rtc seq frp : ℕ) → PacketFields → PacketFields
numbered rtc seq frp packet = record packet { rtc = rtc; seq = seq; frp = frp }

-- how many packets a return pointer acknowledges: none by the base, and all up to the packet whose
-- pointer it is
abbrev pub place_after : Option ℕ → Option ℕ
place_after None = None
place_after (Some place) = Some (suc place)

-- the same of a buffer; None for a pointer that is neither
abbrev pub acknowledged_by : (rrp : ℕ) → RetryFields → Option ℕ
acknowledged_by rrp buffer =
    if rrp == buffer.base then Some 0
    else place_after (position (λ packet. packet.frp == rrp) buffer.kept)

-- the number of packets that are dropped, or the stray pointer
abbrev pub acknowledgement : (rrp base : ℕ) → Option ℕ → Result ℕ Stray
acknowledgement rrp base (Some count) = Ok count
acknowledgement rrp base None = Err (record { base = base; rrp = rrp })

-- the packets up to the pointer are dropped; a position among them goes to the front
abbrev pub after_acknowledge : (rrp : ℕ) → Option ℕ → RetryFields → RetryFields
after_acknowledge rrp None buffer = buffer
after_acknowledge rrp (Some count) buffer = record buffer {
  kept = drop count buffer.kept;
  base = rrp;
  position = buffer.position - count;
}

-- the packet at the position was sent
abbrev pub after_next : RetryFields → RetryFields
after_next buffer = record buffer {
  position =
      if nat_lt buffer.position (length buffer.kept) then suc buffer.position else buffer.position;
}

-- all kept packets were sent: none comes after the position
abbrev pub are_all_sent : RetryFields → Bool
are_all_sent buffer = buffer.position == length buffer.kept

-- the packet at a place
abbrev pub packet_at : List PacketFields → ℕ → PacketFields
packet_at packets place = slice_index_or packets place null_packet

-- What each buffer keeps. No more than half of the modulus is kept, so pointers tell the packets
-- apart.
pub record IsRetryBuffer (buffer : RetryFields) : Type 0 where
  pub least : least_flits ≤ buffer.flits
  pub most : buffer.flits ≤ most_retry buffer.profile
  pub base : buffer.base < modulus_of buffer.profile
  pub within : flits_in buffer.kept ≤ buffer.flits
  pub position : buffer.position ≤ length buffer.kept
  pub pointers : (place : ℕ) → place < length buffer.kept →
      (packet_at buffer.kept place).frp
      ≡ pointer_after buffer (flits_in (take (suc place) buffer.kept))

-- and of its insides: the flits are counted, and room for as many packets is reserved
pub record IsKept (buffer : RetryFields) (counted capacity : ℕ) : Type 0 where
  pub is_buffer : IsRetryBuffer buffer
  pub counts : counted ≡ flits_in buffer.kept
  pub reserves : capacity ≡ buffer.flits
