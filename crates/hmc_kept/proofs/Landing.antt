-- What the step land gives.
use Rattle.std.proofs.Common.{◌≡◌, ◌<◌, ◌/◌, ◌∙◌, ℕ, Bool, true, false, not, Option, Some, None, List, ◌∷◌, length, refl, sym, ap, eq-eqb}
use Rattle.std.specs.Prelude.{slice_get}
use Rattle.hmc_codes.specs.Link.{LinkFields}
use Rattle.hmc_packet.specs.declared.outcome.Outcome.{Outcome}
use Rattle.hmc_packet.specs.declared.outcome.Outcome.TheVariants as outcomes
use Rattle.hmc_packet.specs.Receptions.{reception_of}
use Rattle.hmc_send.specs.LinkCalls.{LinkCall, next_entry, with_entry, holds_packet}
use Rattle.hmc_send.specs.LinkCalls as calls
use Rattle.hmc_send.specs.LinkEntries.{LinkEntry, receiver_entries, put_if}
use Rattle.hmc_send.specs.LinkLines.{StampedFlit, line, passes}
use Rattle.hmc_packet.specs.Masks.{under_mask}
use Rattle.hmc_send.specs.declared.toward.Toward.{Toward}
use Rattle.hmc_ends.specs.Outcomes.{front_outcome, came_as, outcome_passed, outcome_none}
use Rattle.hmc_ends.specs.declared.link_outcome.LinkOutcome.{LinkOutcome}
use Rattle.hmc_ends.specs.declared.link_outcome.LinkOutcome.TheVariants as lands
use Rattle.hmc_entries.specs.declared.outcome.Cause.{Cause}
use Rattle.hmc_entries.specs.declared.entry.Entry.{Entry}
use Rattle.hmc_entries.specs.declared.entry.Entry.TheVariants.{Landed}
use Rattle.hmc_entries.specs.Event.{is_passed, cause_of}
use Rattle.hmc_journal.specs.Links.{toward, link_sizes, landing_mask, put_on, taken_if}
use Rattle.hmc_journal.specs.Next as journals
use Rattle.hmc_journal.specs.Piped.{goes_on}
use Rattle.hmc_journal.specs.Setup.{directions_in, Topology}
use Rattle.hmc_journal.specs.StepView.{StepView}
use Rattle.hmc_kept.specs.After.{entries_after}
use Rattle.hmc_kept.specs.Called.{sizes_at, sizes_by, called}
use Rattle.hmc_kept.specs.LinkAnswers.{landed_by, landing_goes_on, after_landing, IsCameFlit}
use Rattle.hmc_kept.specs.Pipes.{PipesHeld, forwarded_at}
use Rattle.hmc_kept.proofs.Called.{called_puts, called_stays}
use Rattle.hmc_kept.proofs.Masks.{mask_found}
use Rattle.hmc_codes.specs.Flit.{IsFlit}
use Rattle.hmc_kept.specs.Shown.{KeepsLaws}

pub idle_landed : (direction : ℕ) (landed : LinkOutcome) (cause : Cause) → cause_of (landed_by direction landed) ≡ Some cause → outcome_none landed ≡ true
idle_landed direction lands.Empty cause is = refl
idle_landed direction (lands.Passed flit) cause is = absurd (cc)
idle_landed direction (lands.Came flit landed) cause is = absurd (cc)

pub landed_same : (direction : ℕ) (link : LinkFields) (d : Toward) (past : List LinkEntry) (mask : List ℕ) (front : Option StampedFlit) → d ≡ toward direction
    → landed_by direction (front_outcome link d past mask front) ≡ journals.landed_front link direction past mask front
landed_same direction link d past mask None way = refl
landed_same direction link d past mask (Some front) way =
    came_same (passes link.profile d past mask (under_mask mask front.flit)) (under_mask mask front.flit)
    ∙ ap (λ w. journals.landed_entry direction (passes link.profile w past mask (under_mask mask front.flit)) (under_mask mask front.flit) (reception_of link.profile (receiver_entries w past) (under_mask mask front.flit)).outcome) way
  where
    came_same : (passed : Bool) (flit : List ℕ) → landed_by direction (came_as passed flit (reception_of link.profile (receiver_entries d past) flit).outcome) ≡ journals.landed_entry direction passed flit (reception_of link.profile (receiver_entries d past) flit).outcome
    came_same true flit = refl
    came_same false flit = refl

pub passed_same : (direction : ℕ) (landed : LinkOutcome) → is_passed (landed_by direction landed) ≡ outcome_passed landed
passed_same direction lands.Empty = refl
passed_same direction (lands.Passed flit) = refl
passed_same direction (lands.Came flit landed) = refl

-- the entries of a link after a landing, before what goes on is taken
abbrev pub landed_on : Topology → StepView → Entry → (link : ℕ) → List LinkEntry
landed_on topology view (Landed direction flit outcome) link =
    put_on link (Some direction) (λ d. LinkEntry.landed d (landing_mask (link_sizes topology link) d (view.entries link) flit) flit outcome) (view.entries link)
landed_on topology view _ link = view.entries link

-- a landing that does not pass
pub landed_entries : (topology : Topology) (view : StepView) (direction link : ℕ) (mask : List ℕ) (front : Option StampedFlit) → slice_get (line (sizes_by topology.links direction).profile (toward direction) (view.entries (direction / 2))) 0 ≡ front → length mask ≡ 16
    → ((f : StampedFlit) → front ≡ Some f → length f.flit ≡ 16)
    → outcome_passed (front_outcome (sizes_by topology.links direction) (toward direction) (view.entries (direction / 2)) mask front) ≡ false
    → called topology.links direction (λ d. LinkCall.land d mask) view.entries link ≡ landed_on topology view (landed_by direction (front_outcome (sizes_by topology.links direction) (toward direction) (view.entries (direction / 2)) mask front)) link
unfolding next_entry
landed_entries topology view direction link mask None is long full on =
    called_stays topology.links direction link (λ d. LinkCall.land d mask) view.entries
    (ap (λ (f : Option StampedFlit). with_entry (view.entries (direction / 2)) (calls.landed_front (sizes_by topology.links direction) (toward direction) (view.entries (direction / 2)) mask f)) is)
landed_entries topology view direction link mask (Some front) is long full on =
    came_entries (passes (sizes_by topology.links direction).profile (toward direction) (view.entries (direction / 2)) mask (under_mask mask front.flit)) refl on
  where
    came_entries : (passed : Bool) → passes (sizes_by topology.links direction).profile (toward direction) (view.entries (direction / 2)) mask (under_mask mask front.flit) ≡ passed
        → outcome_passed (came_as passed (under_mask mask front.flit) (reception_of (sizes_by topology.links direction).profile (receiver_entries (toward direction) (view.entries (direction / 2))) (under_mask mask front.flit)).outcome) ≡ false
        → called topology.links direction (λ d. LinkCall.land d mask) view.entries link
        ≡ landed_on topology view (landed_by direction (came_as passed (under_mask mask front.flit) (reception_of (sizes_by topology.links direction).profile (receiver_entries (toward direction) (view.entries (direction / 2))) (under_mask mask front.flit)).outcome)) link
    came_entries true passed on = absurd (cc)
    came_entries false passed on =
        called_puts topology.links direction link (λ d. LinkCall.land d mask)
        (λ n d. LinkEntry.landed d (landing_mask (sizes_at topology.links n) d (view.entries n) (under_mask mask front.flit)) (under_mask mask front.flit) (reception_of (sizes_by topology.links direction).profile (receiver_entries (toward direction) (view.entries (direction / 2))) (under_mask mask front.flit)).outcome) view.entries
        (ap (λ (f : Option StampedFlit). with_entry (view.entries (direction / 2)) (calls.landed_front (sizes_by topology.links direction) (toward direction) (view.entries (direction / 2)) mask f)) is
        ∙ ap (λ (p : Bool). with_entry (view.entries (direction / 2)) (calls.entry_if (not p) (LinkEntry.landed (toward direction) mask (under_mask mask front.flit) (reception_of (sizes_by topology.links direction).profile (receiver_entries (toward direction) (view.entries (direction / 2))) (under_mask mask front.flit)).outcome))) passed
        ∙ ap (λ (m : List ℕ). LinkEntry.landed (toward direction) m (under_mask mask front.flit) (reception_of (sizes_by topology.links direction).profile (receiver_entries (toward direction) (view.entries (direction / 2))) (under_mask mask front.flit)).outcome ∷ view.entries (direction / 2))
        (sym (mask_found (sizes_by topology.links direction) (toward direction) (view.entries (direction / 2)) front mask is long (full front refl))))

-- where nothing lands, nothing goes on
pub none_goes : (piped : PipesHeld) (direction : ℕ) (landed : LinkOutcome) → outcome_none landed ≡ true → landing_goes_on piped direction landed ≡ false
none_goes piped direction lands.Empty none = refl
none_goes piped direction (lands.Passed flit) none = refl
none_goes piped direction (lands.Came flit landed) none = absurd (cc)

pub none_piped : (piped : PipesHeld) (direction : ℕ) (landed : LinkOutcome) → outcome_none landed ≡ true → after_landing direction landed piped ≡ piped
none_piped piped direction lands.Empty none = refl
none_piped piped direction (lands.Passed flit) none = refl
none_piped piped direction (lands.Came flit landed) none = absurd (cc)

-- what goes on is taken
pub taken_after : (topology : Topology) (view : StepView) (piped : PipesHeld) (direction link : ℕ) (landed : LinkOutcome) → forwarded_at piped direction ≡ view.forwarded direction
    → taken_if (landing_goes_on piped direction landed) link direction (landed_on topology view (landed_by direction landed) link) ≡ entries_after topology view (landed_by direction landed) link
taken_after topology view piped direction link lands.Empty same = refl
taken_after topology view piped direction link (lands.Passed flit) same = refl
taken_after topology view piped direction link (lands.Came flit landed) same =
    ap (λ (onto : Option ℕ). taken_if (goes_on landed onto) link direction (landed_on topology view (Landed direction flit landed) link)) same

-- only an accepted packet goes on, and only where it is forwarded
pub record GoesOn (outcome : Outcome) (onto : Option ℕ) : Type 0 where
  pub accepted : outcome ≡ outcomes.Accepted
  pub to : ℕ
  pub forwarded : onto ≡ Some to

pub goes_by : (outcome : Outcome) (onto : Option ℕ) → goes_on outcome onto ≡ true → GoesOn outcome onto
goes_by outcomes.Accepted (Some to) is = record { accepted = refl; to = to; forwarded = refl }
goes_by outcomes.Accepted None is = absurd (cc)
goes_by outcomes.Quiet onto is = absurd (cc)
goes_by outcomes.Trained onto is = absurd (cc)
goes_by outcomes.Gathered onto is = absurd (cc)
goes_by outcomes.Poisoned onto is = absurd (cc)
goes_by outcomes.Repeat onto is = absurd (cc)
goes_by (outcomes.AbortedBad bad) onto is = absurd (cc)
goes_by outcomes.AbortedOrder onto is = absurd (cc)
goes_by (outcomes.Ran kind) onto is = absurd (cc)

-- a flit that came has the outcome of the definition
pub came_outcome : (link : LinkFields) (d : Toward) (past : List LinkEntry) (mask : List ℕ) (front : Option StampedFlit) (flit : List ℕ) (landed : _) → lands.Came flit landed ≡ front_outcome link d past mask front
    → landed ≡ (reception_of link.profile (receiver_entries d past) flit).outcome
came_outcome link d past mask None flit landed is = absurd (cc)
came_outcome link d past mask (Some front) flit landed is = by_passed (passes link.profile d past mask (under_mask mask front.flit)) is
  where
    by_passed : (passed : Bool) → lands.Came flit landed ≡ came_as passed (under_mask mask front.flit) (reception_of link.profile (receiver_entries d past) (under_mask mask front.flit)).outcome → landed ≡ (reception_of link.profile (receiver_entries d past) flit).outcome
    by_passed true same = absurd (cc)
    by_passed false same =
        let flits : flit ≡ under_mask mask front.flit = cc in
        let same_outcome : landed ≡ (reception_of link.profile (receiver_entries d past) (under_mask mask front.flit)).outcome = cc in
        same_outcome ∙ ap (λ (f : List ℕ). (reception_of link.profile (receiver_entries d past) f).outcome) (sym flits)

-- the packet is then the front of its buffer
abbrev pub HoldsLanded : Topology → StepView → PipesHeld → (direction : ℕ) → LinkOutcome → Type 0
HoldsLanded topology view piped direction landed = landing_goes_on piped direction landed ≡ true
    → holds_packet (sizes_by topology.links direction) (toward direction) (landed_on topology view (landed_by direction landed) (direction / 2)) ≡ true

holds_came : (topology : Topology) (view : StepView) (piped : PipesHeld) (direction : ℕ) (flit : List ℕ) (outcome : Outcome) → KeepsLaws topology view → direction < directions_in topology → forwarded_at piped direction ≡ view.forwarded direction → IsFlit flit
    → outcome ≡ (reception_of (sizes_by topology.links direction).profile (receiver_entries (toward direction) (view.entries (direction / 2))) flit).outcome
    → goes_on outcome (forwarded_at piped direction) ≡ true
    → holds_packet (sizes_by topology.links direction) (toward direction) (landed_on topology view (Landed direction flit outcome) (direction / 2)) ≡ true
holds_came topology view piped direction flit outcome laws there same is_flit is goes =
    let on = goes_by outcome (forwarded_at piped direction) goes in
    let law = laws.forwarded direction on.to there (sym same ∙ on.forwarded) in
    let mask = landing_mask (link_sizes topology (direction / 2)) (toward direction) (view.entries (direction / 2)) flit in
    ap (λ (t : Bool). holds_packet (sizes_by topology.links direction) (toward direction) (put_if t (LinkEntry.landed (toward direction) mask flit outcome) (view.entries (direction / 2)))) (eq-eqb (direction / 2) (direction / 2) refl)
    ∙ ap (λ (o : Outcome). holds_packet (sizes_by topology.links direction) (toward direction) (LinkEntry.landed (toward direction) mask flit o ∷ view.entries (direction / 2))) on.accepted
    ∙ law.front mask flit is_flit (sym is ∙ on.accepted)

pub holds_landed : (topology : Topology) (view : StepView) (piped : PipesHeld) (direction : ℕ) (mask : List ℕ) (landed : LinkOutcome) → KeepsLaws topology view → direction < directions_in topology → forwarded_at piped direction ≡ view.forwarded direction
    → landed ≡ front_outcome (sizes_by topology.links direction) (toward direction) (view.entries (direction / 2)) mask (slice_get (line (sizes_by topology.links direction).profile (toward direction) (view.entries (direction / 2))) 0)
    → IsCameFlit landed → HoldsLanded topology view piped direction landed
holds_landed topology view piped direction mask lands.Empty laws there same is size = λ goes. absurd (cc)
holds_landed topology view piped direction mask (lands.Passed flit) laws there same is size = λ goes. absurd (cc)
holds_landed topology view piped direction mask (lands.Came flit landed) laws there same is size = λ goes.
    holds_came topology view piped direction flit landed laws there same size (came_outcome (sizes_by topology.links direction) (toward direction) (view.entries (direction / 2)) mask _ flit landed is) goes
