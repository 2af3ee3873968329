-- When a link is settled: packets go both ways, and neither direction is in the middle of a burst
-- of IRTRYs, or about to begin one.
use Rattle.std.specs.Prelude.{◌≡◌, ◌≢◌, ◌<◌, ℕ, ◌%◌, true, false, List, [], ◌∷◌, length, All, drop}
use Rattle.hmc_codes.specs.Link.{LinkFields}
use Rattle.hmc_packet.specs.declared.view.Mode.TheVariants as modes
use Rattle.hmc_packet.specs.declared.what.What.{What}
use Rattle.hmc_packet.specs.declared.what.What.TheVariants as whats
use Rattle.hmc_packet.specs.Landings.{mode}
use Rattle.hmc_send.specs.declared.toward.Toward.{Toward}
use Rattle.hmc_send.specs.declared.toward.Toward.TheVariants.{Forth, Back}
use Rattle.hmc_send.specs.Entries.{clears, starts, go_back, is_open}
use Rattle.hmc_send.specs.LinkEntries.{LinkEntry, same_way, push_if, receiver_entries}
use Rattle.hmc_send.specs.LinkLines.{landings, is_pending_changed}
use Rattle.hmc_send.specs.LinkSenders.{sender_entries}
use Rattle.hmc_entries.specs.declared.entry.Entry.{Entry}
use Rattle.hmc_journal.specs.Links.{link_sizes, link_entries}
use Rattle.hmc_journal.specs.Setup.{Topology}

-- what the flits of a direction were sent as, the oldest first
unfoldable pub sent_whats : Toward → List LinkEntry → List What
sent_whats d [] = []
sent_whats d (LinkEntry.sent way feed what flit ∷ past) =
    push_if (same_way d way) what (sent_whats d past)
sent_whats d (_ ∷ past) = sent_whats d past

-- those that are still on its line
unfoldable pub line_whats : Toward → List LinkEntry → List What
line_whats d past = drop (landings d past) (sent_whats d past)

-- a direction of a link is settled
pub record IsSettledDirection (link : LinkFields) (d : Toward) (past : List LinkEntry) :
    Type 0 where
  -- its receiver accepts packets, and its sender may begin them
  pub good : mode (receiver_entries d past) ≡ modes.Good
  pub opened : is_open (sender_entries link d past) ≡ true
  -- no burst is unfinished, and none is due as an answer
  pub clears : clears (sender_entries link d past) % 32 ≡ 0
  pub starts : starts (sender_entries link d past) % 32 ≡ 0
  pub no_go_back : go_back (sender_entries link d past) ≡ false
  -- none is on the line that would make one due
  pub no_start : All (λ what. what ≢ whats.Start) (line_whats d past)
  -- no flit that was gathered is changed
  pub unchanged : is_pending_changed d past ≡ false

-- both directions of a link are settled
abbrev pub IsSettled : LinkFields → List LinkEntry → Type 0
IsSettled link past = IsSettledDirection link Forth past × IsSettledDirection link Back past

-- all links of a topology are settled
abbrev pub AreSettled : Topology → List Entry → Type 0
AreSettled topology past =
    (link : ℕ) → link < length topology.links →
    IsSettled (link_sizes topology link) (link_entries topology link past)
