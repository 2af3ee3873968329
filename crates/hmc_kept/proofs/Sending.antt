-- What the step send gives.
use Rattle.std.proofs.Common.{◌≡◌, ◌<◌, ◌/◌, ◌∙◌, ℕ, Bool, true, false, Option, Some, ◌∷◌, refl, sym, ap, ap₂, subst}
use Rattle.hmc_packet.specs.declared.feed.Feed.{Feed}
use Rattle.hmc_send.specs.LinkCalls.{LinkCall, with_entry}
use Rattle.hmc_send.specs.LinkCalls as calls
use Rattle.hmc_send.specs.Entries.{under_way, through_at}
use Rattle.hmc_send.specs.IsSender.{IsFed}
use Rattle.hmc_send.specs.LinkEntries.{LinkEntry}
use Rattle.hmc_send.specs.LinkSenders.{sender_entries}
use Rattle.hmc_send.specs.declared.sent.Sent.{Sent as Sending}
use Rattle.hmc_send.specs.declared.sent.Sent.TheVariants.{Out, Starved}
use Rattle.hmc_ends.specs.Answers.{after_call, link_sent, sends_none}
use Rattle.hmc_ends.specs.declared.link_sent.LinkSent.{LinkSent}
use Rattle.hmc_ends.specs.declared.link_sent.LinkSent.TheVariants as links
use Rattle.hmc_entries.specs.declared.outcome.Cause.{Cause}
use Rattle.hmc_entries.specs.Event.{cause_of}
use Rattle.hmc_journal.specs.Links.{toward, fed_after}
use Rattle.hmc_journal.specs.Next as journals
use Rattle.hmc_journal.specs.Piped.{PipeFrom, fed}
use Rattle.hmc_journal.specs.Setup.{directions_in, Topology}
use Rattle.hmc_journal.specs.StepView.{StepView}
use Rattle.hmc_kept.specs.After.{entries_after}
use Rattle.hmc_kept.specs.Called.{sizes_at, sizes_by, called}
use Rattle.hmc_kept.specs.LinkAnswers.{sent_by}
use Rattle.hmc_kept.specs.Pipes.{PipesHeld, IsPlace, pipe_at}
use Rattle.hmc_kept.proofs.Called.{called_puts, called_stays}
use Rattle.hmc_kept.specs.Shown.{KeepsLaws}

pub sent_same : (direction : ℕ) (full : Bool) (sending : Sending) → sent_by direction (link_sent full sending) ≡ journals.sent_entry direction full sending
sent_same direction true sending = refl
sent_same direction false Starved = refl
sent_same direction false (Out flit as_what) = refl

-- what is fed is what the view says of the direction's pipe
abbrev pub IsFedBy : Topology → StepView → (direction : ℕ) → Feed → Type 0
IsFedBy topology view direction feed = feed ≡ fed_after (sizes_by topology.links direction) (toward direction) (view.entries (direction / 2)) (view.pipe direction)

pub sent_entries : (topology : Topology) (view : StepView) (direction link : ℕ) (feed : Feed) (full : Bool) (sending : Sending) → IsFedBy topology view direction feed
    → after_call (sizes_by topology.links direction) (view.entries (direction / 2)) (LinkCall.send (toward direction) feed) ≡ with_entry (view.entries (direction / 2)) (calls.sent_entry (toward direction) feed full sending)
    → called topology.links direction (λ d. LinkCall.send d feed) view.entries link ≡ entries_after topology view (sent_by direction (link_sent full sending)) link
sent_entries topology view direction link feed true sending fed is = called_stays topology.links direction link (λ d. LinkCall.send d feed) view.entries is
sent_entries topology view direction link feed false Starved fed is = called_stays topology.links direction link (λ d. LinkCall.send d feed) view.entries is
sent_entries topology view direction link feed false (Out flit what) fed is =
    called_puts topology.links direction link (λ d. LinkCall.send d feed) (λ n d. LinkEntry.sent d (fed_after (sizes_at topology.links n) d (view.entries n) (view.pipe direction)) what flit) view.entries
    (is ∙ ap (λ (f : Feed). LinkEntry.sent (toward direction) f what flit ∷ view.entries (direction / 2)) fed)

pub idle_sent : (direction : ℕ) (sent : LinkSent) (cause : Cause) → cause_of (sent_by direction sent) ≡ Some cause → sends_none sent ≡ true
idle_sent direction links.Full cause is = refl
idle_sent direction links.Starved cause is = refl
idle_sent direction (links.Out flit as_what) cause is = absurd (cc)

-- what is fed is what the pipe has at the place of the next flit
pub feed_seen : (topology : Topology) (view : StepView) (piped : PipesHeld) (direction : ℕ) (place : Option ℕ) (feed : Feed) → pipe_at piped direction ≡ view.pipe direction
    → place ≡ through_at (sizes_by topology.links direction).profile (sender_entries (sizes_by topology.links direction) (toward direction) (view.entries (direction / 2)))
    → feed ≡ fed place (pipe_at piped direction) → IsFedBy topology view direction feed
feed_seen topology view piped direction place feed pipe at is = is ∙ ap₂ (λ (p : Option ℕ) (f : Option PipeFrom). fed p f) at pipe

-- its place is one of the pipe's packet
pub place_seen : (topology : Topology) (view : StepView) (piped : PipesHeld) (direction : ℕ) (place : Option ℕ) → KeepsLaws topology view → direction < directions_in topology → pipe_at piped direction ≡ view.pipe direction
    → place ≡ through_at (sizes_by topology.links direction).profile (sender_entries (sizes_by topology.links direction) (toward direction) (view.entries (direction / 2)))
    → IsPlace (pipe_at piped direction) place
place_seen topology view piped direction place laws there pipe at =
    let seen = through_at (sizes_by topology.links direction).profile (sender_entries (sizes_by topology.links direction) (toward direction) (view.entries (direction / 2))) in
    subst (λ (p : Option ℕ). IsPlace (pipe_at piped direction) p) (sym at)
    (subst (λ (p : Option PipeFrom). IsPlace p seen) (sym pipe) (laws.onward direction there).place)

-- what is fed fits the packet that is forwarded onto the direction
pub feed_fits : (topology : Topology) (view : StepView) (direction : ℕ) (feed : Feed) → KeepsLaws topology view → direction < directions_in topology → IsFedBy topology view direction feed
    → IsFed (under_way (sizes_by topology.links direction).profile (sender_entries (sizes_by topology.links direction) (toward direction) (view.entries (direction / 2)))) feed
feed_fits topology view direction feed laws there fed_is =
    subst (λ (f : Feed). IsFed (under_way (sizes_by topology.links direction).profile (sender_entries (sizes_by topology.links direction) (toward direction) (view.entries (direction / 2)))) f) (sym fed_is) (laws.directions direction there).fed
