-- The entries that the answers of a link are.
use Rattle.std.specs.Prelude.{ℕ, Bool, false}
use Rattle.hmc_codes.specs.Flit.{zero_flit, IsFlit}
use Rattle.hmc_ends.specs.declared.link_outcome.LinkOutcome.{LinkOutcome}
use Rattle.hmc_ends.specs.declared.link_outcome.LinkOutcome.TheVariants as landings
use Rattle.hmc_ends.specs.declared.link_sent.LinkSent.{LinkSent}
use Rattle.hmc_ends.specs.declared.link_sent.LinkSent.TheVariants as sends
use Rattle.hmc_schedule.specs.declared.step.Step.TheVariants as steps
use Rattle.hmc_entries.specs.declared.outcome.Cause.TheVariants as causes
use Rattle.hmc_entries.specs.declared.entry.Entry.{Entry}
use Rattle.hmc_entries.specs.declared.entry.Entry.TheVariants.{Sent, Landed, Passed, Idle}
use Rattle.hmc_journal.specs.Piped.{goes_on}
use Rattle.hmc_kept.specs.Pipes.{PipesHeld, forwarded_at, after_flit}

-- the entry of a send
abbrev pub sent_by : (direction : ℕ) → LinkSent → Entry
sent_by direction sends.Full = Idle (steps.Send direction) causes.Full
sent_by direction sends.Starved = Idle (steps.Send direction) causes.Starved
sent_by direction (sends.Out flit as_what) = Sent direction as_what flit

-- the entry of a landing
abbrev pub landed_by : (direction : ℕ) → LinkOutcome → Entry
landed_by direction landings.Empty = Idle (steps.Land direction zero_flit) causes.Empty
landed_by direction (landings.Passed flit) = Passed direction flit
landed_by direction (landings.Came flit outcome) = Landed direction flit outcome

-- a flit that came has 16 bytes
abbrev pub IsCameFlit : LinkOutcome → Type 0
IsCameFlit (landings.Came flit outcome) = IsFlit flit
IsCameFlit _ = Unit {0}

-- the packet of a landing was accepted while it was forwarded
abbrev pub landing_goes_on : PipesHeld → (direction : ℕ) → LinkOutcome → Bool
landing_goes_on held direction (landings.Came flit outcome) =
    goes_on outcome (forwarded_at held direction)
landing_goes_on held direction _ = false

-- the packets that are forwarded after a landing
abbrev pub after_landing : (direction : ℕ) → LinkOutcome → PipesHeld → PipesHeld
after_landing direction (landings.Came flit outcome) held =
    after_flit direction flit outcome held
after_landing direction _ held = held
