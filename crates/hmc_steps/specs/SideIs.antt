-- What the numbers of a direction are in the words of a link's list, beside those that side_in
-- reads off it.
use Rattle.std.specs.Prelude.{◌≡◌, ◌-◌, true, List, length, filter}
use Rattle.hmc_codes.specs.Link.{LinkFields}
use Rattle.hmc_packet.specs.declared.view.Mode as outer
use Rattle.hmc_packet.specs.declared.view.Mode.TheVariants.{Train, Abort, Good}
use Rattle.hmc_packet.specs.Landings.{mode, pending}
use Rattle.hmc_send.specs.declared.toward.Toward.{Toward}
use Rattle.hmc_send.specs.Entries as entries
use Rattle.hmc_send.specs.LinkEntries.{LinkEntry, receiver_entries, accepted_packets}
use Rattle.hmc_send.specs.LinkLines.{is_pending_changed}
use Rattle.hmc_send.specs.LinkSenders.{sender_entries, places_in, tokens}
use Rattle.hmc_send.specs.Places.{is_token, takes_tokens}
use Rattle.hmc_numbers.specs.Direction.{begun, position}
use Rattle.hmc_numbers.specs.Direction.Reached.{spoilt}
use Rattle.hmc_numbers.specs.Tokens.{held_tokens, transit_tokens, used_tokens, due_tokens, returning_tokens}
use Rattle.hmc_wire.specs.EntryTurns.{left_of}
use Rattle.hmc_link_state.specs.Choice.{Mode as drained}
use Rattle.hmc_link_state.specs.Sees.{mode_of}
use Rattle.hmc_link_state.specs.State.{Side, wire, flits_of, crossing, room}
use Rattle.hmc_steps.specs.SideIn.{setup_of, lacking}

abbrev pub mode_by : outer.Mode → drained
mode_by Train = drained.training
mode_by Abort = drained.abort
mode_by Good = drained.good

-- x is direction d, y the other one
pub record SideIs (link : LinkFields) (d : Toward) (past : List LinkEntry) (x y : Side) :
    Type 0 where
  -- the receiver
  pub mode : mode_of (wire x).far ≡ mode_by (mode (receiver_entries d past))
  pub is_spoilt : (wire x).far ≡ spoilt → is_pending_changed d past ≡ true
  pub lacks : (wire x).far ≡ spoilt → x.missing ≡ lacking (pending (receiver_entries d past))
  pub accepted : (wire x).accepted ≡ length (accepted_packets link.profile d past)
  -- the sender
  pub clears : (wire x).clears ≡ entries.clears (sender_entries link d past)
  pub left : (wire x).left ≡ left_of (entries.unfinished (sender_entries link d past))
  pub begun : begun (wire x) ≡ length (places_in link d past)
  pub acked : (wire x).acked ≡ entries.acked (sender_entries link d past)
  pub position : position (wire x) ≡ entries.position link.profile (sender_entries link d past)
  pub room : room (setup_of link) x ≡ entries.room link.profile link.retry
      (sender_entries link d past)
  -- tokens
  pub held : held_tokens x.half y.half ≡ (tokens link d past).held
  pub transit : transit_tokens x.half ≡ (tokens link d past).transit
  pub used : used_tokens x.half ≡ (tokens link d past).used
  pub due : due_tokens link.tokens x.half y.half ≡ (tokens link d past).due
  pub returning : returning_tokens y.half ≡ (tokens link d past).returning
  -- token packets that are begun and not accepted; the flits in the buffer are the tokens used
  pub crossing : crossing x ≡ length (filter takes_tokens (places_in link d past)) - length
      (filter is_token (accepted_packets link.profile d past))
  pub buffer : flits_of x.buffer ≡ (tokens link d past).used
