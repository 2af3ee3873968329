-- Which lists of entries a sender stands for, by what it holds.
use Rattle.std.specs.Prelude.{◌≡◌, ◌≤◌, ℕ, ◌-◌, ◌%◌, min, Bool, true, false, not, if◌then◌else◌, List, ◌∷◌, length, take, drop, Option, Some, None}
use Rattle.hmc_packet.specs.declared.kind.Kind.{Kind}
use Rattle.hmc_packet.specs.declared.kind.Kind.TheVariants.{Clear, Start}
use Rattle.hmc_irtry.specs.Runs.{same_kind}
use Rattle.hmc_send.specs.declared.state.State.{State}
use Rattle.hmc_send.specs.declared.sent.Sent.{Sent}
use Rattle.hmc_send.specs.declared.sent.Sent.TheVariants.{Out, Starved}
use Rattle.hmc_send.specs.Entries.{SenderEntry, Given, UnderWay, under_way, places, acked, clears, starts, go_back, is_open, enough_others, others, last_begun, position, shown_pointer}
use Rattle.hmc_send.specs.Places.{pointer_of, number_of}
use Rattle.hmc_send.specs.Sender.{places_held, position_held}

-- the IRTRYs that the last burst lacks, of so many that were sent
abbrev pub lacking : (count : ℕ) → ℕ
lacking count = (32 - count % 32) % 32

-- those of a kind that a burst lacks
abbrev pub left_of : Kind → (kind : Kind) → (left : ℕ) → ℕ
left_of of kind left = if same_kind of kind then left else 0

-- a packet is under way that is sent for the first time
abbrev pub is_new : Option UnderWay → Bool
is_new None = false
is_new (Some begun) = not begun.part.again

pub record StandsFor (held : State) (past : List SenderEntry) : Type 0 where
  -- the unfinished packet, with its place; a new one is the last place
  pub begun : held.under_way ≡ under_way held.retry.profile past
  pub last : is_new held.under_way ≡ true →
      last_begun held.retry.profile past ≡ length (places held.retry.profile past)
  -- the places that are not acknowledged, and the position among them
  pub kept : places_held held ≡ drop (acked past) (places held.retry.profile past)
  pub reached : position_held held ≡ position held.retry.profile past - acked past
  pub within : acked past ≤ length (places held.retry.profile past)
  -- the pointer of the last acknowledged place; the pointer and the number of the last place
  pub base : held.retry.base
      ≡ pointer_of held.retry.profile (take (acked past) (places held.retry.profile past))
  pub pointer : held.pointer ≡ pointer_of held.retry.profile (places held.retry.profile past)
  pub number : held.number ≡ number_of (places held.retry.profile past)
  -- the IRTRYs that a burst lacks
  pub lacks_clears : left_of Clear held.burst.kind held.burst.left ≡ lacking (clears past)
  pub lacks_starts : left_of Start held.burst.kind held.burst.left ≡ lacking (starts past)
  pub goes_back : held.go_back ≡ go_back past
  pub opened : held.is_open ≡ is_open past
  pub counted : held.others ≡ min (others past) enough_others
  pub showed : held.shown ≡ shown_pointer past

-- the entries after a send
abbrev pub entries_after : Given → Sent → List SenderEntry → List SenderEntry
entries_after given (Out flit as_what) past = SenderEntry.sent given as_what flit ∷ past
entries_after given Starved past = past
