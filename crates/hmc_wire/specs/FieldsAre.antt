-- What the numbers of a direction are in the words of a link's list.
use Rattle.std.specs.Prelude.{◌≡◌, List, map, length}
use Rattle.hmc_codes.specs.Link.{LinkFields}
use Rattle.hmc_packet.specs.declared.kind.Kind.TheVariants.{Start, Clear}
use Rattle.hmc_packet.specs.Landings.{run}
use Rattle.hmc_send.specs.declared.toward.Toward.{Toward}
use Rattle.hmc_send.specs.declared.toward.Toward.TheVariants.{Forth, Back}
use Rattle.hmc_send.specs.Entries.{acked, last_begun, unfinished, clears}
use Rattle.hmc_send.specs.LinkEntries.{LinkEntry, receiver_entries, accepted_packets}
use Rattle.hmc_send.specs.LinkLines.{StampedFlit, line}
use Rattle.hmc_send.specs.LinkSenders.{sender_entries, places_in}
use Rattle.hmc_numbers.specs.Pair.{Half, Pair, pair_after}
use Rattle.hmc_wire.specs.EntryTurns.{weight, left_of, taken_in, turns_of}

-- a direction of the two
abbrev pub half_on : Toward → Pair → Half
half_on Forth pair = pair.forth
half_on Back pair = pair.back

-- The numbers of a direction are these, read off the list.
pub record FieldsAre (link : LinkFields) (d : Toward) (past : List LinkEntry) (half : Half)
    : Type 0 where
  -- the sender: the places that it began, how many are acknowledged, which was begun last, the
  -- flits of the packet under way that are left, and the Clears that it sent
  pub first : half.direction.first ≡ map weight (places_in link d past)
  pub acked : half.direction.acked ≡ acked (sender_entries link d past)
  pub last : half.direction.last ≡ last_begun link.profile (sender_entries link d past)
  pub left : half.direction.left ≡ left_of (unfinished (sender_entries link d past))
  pub clears : half.direction.clears ≡ clears (sender_entries link d past)
  -- the receiver: the packets that it accepted, and the IRTRYs of each kind in a row
  pub accepted : half.direction.accepted ≡ length (accepted_packets link.profile d past)
  pub clear_run : half.direction.clear_run ≡ run link.profile Clear (receiver_entries d past)
  pub start_run : half.direction.start_run ≡ run link.profile Start (receiver_entries d past)
  -- the stamps of the flits on the line, and the flits that left the buffer
  pub stamps : half.stamps ≡ map (λ (x : StampedFlit). x.stamp) (line link.profile d past)
  pub moved_is : half.moved ≡ taken_in link.profile d past

-- the numbers of a direction after the turns of a list
abbrev pub half_after : LinkFields → Toward → List LinkEntry → Half
half_after link d past = half_on d (pair_after (turns_of link past))
