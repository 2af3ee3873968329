-- The tokens of a direction of a link. The buffer at its end advertises a number of them; each is
-- held by the sender, or of a flit in transit, or of a flit in the buffer, or due, or returning.
use Rattle.std.specs.Prelude.{ℕ, ◌+◌, ◌-◌, List, take, filter, sum_by}
use Rattle.hmc_codes.specs.declared.counts.TokenRow.{TokenRow}
use Rattle.hmc_packet.specs.Landings as packets
use Rattle.hmc_packet.specs.Packet.{PacketFields}
use Rattle.hmc_tokens.specs.Account.{tokens_of_code}
use Rattle.hmc_send.specs.Places.{Place, numbers_at, is_token, takes_tokens}
use Rattle.hmc_send.specs.Places as places

-- the flits of the packets of these places that take tokens
abbrev pub flits_begun : List Place → ℕ
flits_begun begun = places.flits_in (filter takes_tokens begun)

-- the flits of the accepted packets that take tokens
abbrev pub flits_accepted : List PacketFields → ℕ
flits_accepted accepted = packets.flits_in (filter is_token accepted)

-- the flits of those that left the buffer, where so many did
abbrev pub flits_taken : (takes : ℕ) → List PacketFields → ℕ
flits_taken takes accepted = packets.flits_in (take takes (filter is_token accepted))

-- the tokens that these places return by their RTC
abbrev pub tokens_returned : List Place → ℕ
tokens_returned begun = sum_by (λ place. tokens_of_code (numbers_at place).rtc) begun

-- the tokens that accepted packets returned by theirs
abbrev pub tokens_credited : List PacketFields → ℕ
tokens_credited accepted = sum_by (λ packet. tokens_of_code packet.rtc) accepted

-- the tokens that a sender holds, by its places and by the packets accepted from the other end
abbrev pub tokens_held : (begun : List Place) → (accepted : List PacketFields) → ℕ
tokens_held begun accepted = tokens_credited accepted - flits_begun begun

-- the tokens that an end has to return, by the flits that left its buffer and by its sender's
-- places
abbrev pub tokens_due : (advertised taken : ℕ) → (begun : List Place) → ℕ
tokens_due advertised taken begun = (advertised + taken) - tokens_returned begun

-- what the tokens of a direction come from: its places and its accepted packets, how many left the
-- buffer, and the places and the accepted packets of the other direction, which return tokens
pub record TokenSources : Type 0 where
  pub advertised : ℕ
  pub begun : List Place
  pub accepted : List PacketFields
  pub takes : ℕ
  pub begun_back : List Place
  pub accepted_back : List PacketFields

-- the five numbers
abbrev pub token_row : TokenSources → TokenRow
token_row s =
    let taken = flits_taken s.takes s.accepted in
    record {
      held = tokens_held s.begun s.accepted_back;
      transit = flits_begun s.begun - flits_accepted s.accepted;
      used = flits_accepted s.accepted - taken;
      due = tokens_due s.advertised taken s.begun_back;
      returning = tokens_returned s.begun_back - tokens_credited s.accepted_back;
    }
