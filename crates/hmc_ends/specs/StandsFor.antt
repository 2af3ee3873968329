-- Which lists of entries an end of a link stands for, by what it holds.
use Rattle.std.specs.Prelude.{◌≡◌, ◌≤◌, ℕ, ◌-◌, true, List, All, map, length}
use Rattle.hmc_codes.specs.Link.{LinkFields, IsLinkSetup}
use Rattle.hmc_packet.specs.declared.feed.Feed.{Feed}
use Rattle.hmc_packet.specs.Head.{head_in}
use Rattle.hmc_packet.specs.Landings.{accepted}
use Rattle.hmc_packet.specs.Packet.{PacketFields, flits_of}
use Rattle.hmc_receive.specs.StandsFor.{ReceiverStandsFor}
use Rattle.hmc_send.specs.Entries.{places, taken_fronts}
use Rattle.hmc_send.specs.Given.{IsTaken}
use Rattle.hmc_send.specs.IsSender.{IsFed}
use Rattle.hmc_send.specs.LinkCalls.{names_flits}
use Rattle.hmc_send.specs.LinkEntries.{LinkEntry, other}
use Rattle.hmc_send.specs.LinkLines.{StampedFlit}
use Rattle.hmc_send.specs.LinkTokens.{flits_begun, flits_accepted}
use Rattle.hmc_send.specs.StandsFor.{StandsFor}
use Rattle.hmc_send.specs.declared.toward.Toward.{Toward}
use Rattle.hmc_wire.specs.LinkLaws.{IsKept}
use Rattle.hmc_ends.specs.End.{EndFields, is_ready}
use Rattle.hmc_ends.specs.Parts.{EndParts, parts_of, output_queue, flits_under_way, tokens_accepted, buffer_of, held_of, due_of}

-- the flits of a line without their stamps
abbrev pub flits_on : List StampedFlit → List (List ℕ)
flits_on line = map (λ sent. sent.flit) line

-- An end stands for what the entries of its link are to it.
pub record EndStandsFor (link : LinkFields) (e : EndFields) (p : EndParts) : Type 0 where
  pub setup : e.setup ≡ link
  -- the sender has the profile and the retry room of the link, and stands for its entries
  pub own : e.sender.profile ≡ link.profile
  pub profile : e.sender.retry.profile ≡ link.profile
  pub retry : e.sender.retry.flits ≡ link.retry
  pub sender : StandsFor e.sender p.sender
  -- the output queue, and the line
  pub queue : e.queue ≡ output_queue p
  pub line : e.line ≡ flits_on (flits_under_way p)
  -- the flits of packets that were begun and not accepted
  pub transit : e.transit
      ≡ flits_begun (places link.profile p.sender) - flits_accepted (accepted link.profile p.landed)
  -- the receiver, and whether a pending flit is changed
  pub receiver : ReceiverStandsFor link.profile e.receiver p.received
  pub changed : e.changed ≡ p.changed
  -- the buffer
  pub buffer : e.buffer ≡ buffer_of link p
  -- the tokens that it holds, and those that it has to return
  pub held : e.account.held ≡ held_of link p
  pub due : e.account.due ≡ due_of link p
  -- no more packets were begun than handed, no more flits landed than were sent, and no more
  -- packets were taken than accepted
  pub begun : taken_fronts p.sender ≤ length p.handed
  pub crossed : p.landings ≤ length p.flits
  pub taken : p.takes ≤ length (tokens_accepted link p)

-- An end may send what is fed: it stands for the entries of some link, and the feed fits the packet
-- that is forwarded.
pub record CanSend (e : EndFields) (feed : Feed) : Type 0 where
  pub link : LinkFields
  pub d : Toward
  pub past : List LinkEntry
  pub sizes : IsLinkSetup link
  pub kept : IsKept link past
  pub stands : EndStandsFor link e (parts_of link d past)
  pub fed : IsFed e.sender.under_way feed

-- An end may begin to forward a packet with this head and so many flits: it stands for the entries
-- of some link, and is ready.
pub record CanForward (e : EndFields) (head : List ℕ) (flits : ℕ) : Type 0 where
  pub link : LinkFields
  pub d : Toward
  pub past : List LinkEntry
  pub sizes : IsLinkSetup link
  pub kept : IsKept link past
  pub stands : EndStandsFor link e (parts_of link d past)
  pub ready : is_ready e flits ≡ true
  pub named : names_flits flits (head_in head) ≡ true

-- The end that sends in a direction and the end at which that direction lands stand for these
-- entries of their link.
pub record EndsStandFor (link : LinkFields) (d : Toward) (s l : EndFields)
    (past : List LinkEntry) : Type 0 where
  pub sizes : IsLinkSetup link
  pub kept : IsKept link past
  pub sending : EndStandsFor link s (parts_of link d past)
  pub landing : EndStandsFor link l (parts_of link (other d) past)

-- the same of some link
pub record AreEnds (s l : EndFields) : Type 0 where
  pub link : LinkFields
  pub d : Toward
  pub past : List LinkEntry
  pub stand : EndsStandFor link d s l past

-- what each end keeps: its queue and its line are no longer than they may be, what waits in the
-- queue may be sent, and the packets in its buffer are counted
pub record IsEnd (e : EndFields) (queue_size buffer_size capacity : ℕ)
    (packet_cost : PacketFields → ℕ) (stored : ℕ) : Type 0 where
  pub output : queue_size ≡ e.setup.output
  pub fronts : All (IsTaken e.setup.profile) e.queue
  pub reserved : e.setup.line ≤ capacity
  pub line : length e.line ≤ e.setup.line
  pub buffer : buffer_size ≡ e.setup.tokens
  pub cost : packet_cost ≡ flits_of
  pub count : stored ≡ length e.buffer
