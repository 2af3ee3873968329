-- What an end of a link holds, as the contracts see it.
use Rattle.std.specs.Prelude.{◌≡◌, ℕ, ◌+◌, ◌-◌, Bool, ◌&&◌, nat_le, is_none, List, [], ◌∷◌, drop, slice_get, Option, Some, None}
use Rattle.hmc_codes.specs.Link.{LinkFields}
use Rattle.hmc_codes.specs.declared.counts.TokenRow.{TokenRow}
use Rattle.hmc_packet.specs.declared.view.Mode.{Mode}
use Rattle.hmc_packet.specs.declared.view.Mode.TheVariants.{Good}
use Rattle.hmc_packet.specs.declared.view.View.{View}
use Rattle.hmc_packet.specs.Landings.{flits_in}
use Rattle.hmc_packet.specs.Packet.{PacketFields, flits_of}
use Rattle.hmc_receive.specs.Receiver.{ReceiverFields}
use Rattle.hmc_send.specs.Choice.{is_free}
use Rattle.hmc_send.specs.Given.{given_only}
use Rattle.hmc_send.specs.Sender.{view_held, room_held}
use Rattle.hmc_send.specs.declared.state.State.{State}
use Rattle.hmc_tokens.specs.declared.account.Account.{Account}

-- An end: what it has of the direction in which it sends, and of the one that lands at it.
pub record EndFields : Type 0 where
  pub setup : LinkFields
  -- the packets that wait in its output queue, its sender, and the flits that it sent and that have
  -- not landed
  pub queue : List PacketFields
  pub sender : State
  pub line : List (List ℕ)
  -- the flits of requests and responses that it began and that were not accepted
  pub transit : ℕ
  -- its receiver, whether one of the pending flits is changed, and the packets in its buffer
  pub receiver : ReceiverFields
  pub changed : Bool
  pub buffer : List PacketFields
  -- its tokens
  pub account : Account

-- an end after the front of its buffer was taken, if there was one
abbrev pub after_taken : Option PacketFields → EndFields → EndFields
after_taken None e = e
after_taken (Some packet) e = record e {
  buffer = drop 1 e.buffer;
  account = record e.account { due = e.account.due + flits_of packet };
}

-- the tokens of a direction from one end to the other: those that return are the rest
abbrev pub row_held : (from to : EndFields) → TokenRow
row_held from to = record {
  held = from.account.held;
  transit = from.transit;
  used = flits_in to.buffer;
  due = to.account.due;
  returning = from.setup.tokens
      - (from.account.held + from.transit + flits_in to.buffer + to.account.due);
}

-- what the sender of an end sees of the receiver there
abbrev pub own_view : EndFields → View
own_view e = record { mode = e.receiver.mode; rrp = e.receiver.frp }

-- an end may begin to forward a packet of so many flits: nothing waits in its output queue, its
-- sender is free, and held tokens and retry room suffice
abbrev pub is_ready : EndFields → (flits : ℕ) → Bool
is_ready e flits =
    (is_none (slice_get e.queue 0) && is_free (view_held e.sender (given_only (own_view e))))
    && (nat_le flits e.account.held && nat_le flits (room_held e.sender))

-- the flits that a receiver has gathered, if it is Good and there are any
abbrev pub flits_seen : Mode → List (List ℕ) → Option (List (List ℕ))
flits_seen Good [] = None
flits_seen Good (first ∷ rest) = Some (first ∷ rest)
flits_seen mode flits = None

-- an end has no packet in its queue nor in its buffer, and no flits of packets that it began are
-- under way
pub record IsQuiet (e : EndFields) : Type 0 where
  pub queue : e.queue ≡ []
  pub transit : e.transit ≡ 0
  pub buffer : e.buffer ≡ []
