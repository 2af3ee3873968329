-- The steps of hmc_link_state that the entries of a link are.
use Rattle.std.specs.Prelude.{◌≡◌, ℕ, Bool, true, false, List, [], ◌∷◌, ◌++◌, is_some}
use Rattle.hmc_codes.specs.Link.{LinkFields}
use Rattle.hmc_packet.specs.declared.kind.Kind.TheVariants.{Start}
use Rattle.hmc_packet.specs.declared.outcome.Outcome.{Outcome}
use Rattle.hmc_packet.specs.declared.outcome.Outcome.TheVariants.{Ran}
use Rattle.hmc_packet.specs.Landings.{training}
use Rattle.hmc_packet.specs.Packet.{flits_of}
use Rattle.hmc_packet.specs.Receptions.{reception_of}
use Rattle.hmc_send.specs.declared.toward.Toward.{Toward}
use Rattle.hmc_send.specs.declared.toward.Toward.TheVariants.{Forth, Back}
use Rattle.hmc_send.specs.LinkEntries.{LinkEntry, receiver_entries}
use Rattle.hmc_wire.specs.EntryTurns.{landed_event, taken_in}
use Rattle.hmc_link_state.specs.Steps.{Step, Doing, MayAll, link_after}
use Rattle.hmc_steps.specs.SideIn.{setup_of, missing_in, buffer_flits, link_in}

abbrev pub is_ran_start : Outcome → Bool
is_ran_start (Ran Start) = true
is_ran_start o = false

abbrev pub doing_in : Toward → Step → Doing
doing_in Forth step = Doing.forth step
doing_in Back step = Doing.back step

-- the step of a landing, by the list with it
abbrev pub landing_step : LinkFields → Toward → List LinkEntry → (mask flit : List ℕ) → Outcome →
    Step
landing_step link d past mask flit outcome =
    let after = LinkEntry.landed d mask flit outcome ∷ past in
    Step.lands (landed_event link d past mask flit outcome)
    (is_some (reception_of link.profile (receiver_entries d past) flit).rrp)
    (is_ran_start outcome) (training link.profile (receiver_entries d after)) (missing_in d after)
    (buffer_flits link.profile d after)

-- the step of an entry; a cut-through is none
abbrev pub doings_by : LinkFields → List LinkEntry → LinkEntry → List Doing
doings_by link past (LinkEntry.handed d packet) = doing_in d (Step.queues (flits_of packet)) ∷ []
doings_by link past (LinkEntry.taken d) =
    let after = LinkEntry.taken d ∷ past in
    doing_in d (Step.leaves (taken_in link.profile d after) (buffer_flits link.profile d after))
    ∷ []
doings_by link past (LinkEntry.sent d feed what flit) = doing_in d Step.sends ∷ []
doings_by link past (LinkEntry.landed d mask flit outcome) =
    doing_in d (landing_step link d past mask flit outcome) ∷ []
doings_by link past (LinkEntry.unlocked d) = doing_in d Step.unlocks ∷ []
doings_by link past (LinkEntry.through d head flits) = []

-- the steps of a list, the newest first
unfoldable pub doings_of : LinkFields → List LinkEntry → List Doing
doings_of link [] = []
doings_of link (entry ∷ past) = doings_by link past entry ++ doings_of link past

-- a list without cut-throughs
unfoldable pub AreWhole : List LinkEntry → Type 0
AreWhole [] = Unit {0}
AreWhole (LinkEntry.through d head flits ∷ past) = ⊥
AreWhole (_ ∷ past) = AreWhole past

-- The steps of a list may come, and lead to what the list says.
pub record AreSteps (link : LinkFields) (past : List LinkEntry) : Type 0 where
  pub may : MayAll (setup_of link) (doings_of link past)
  pub leads : link_after (setup_of link) (doings_of link past) ≡ link_in link past
