-- The steps of a link's entries, where a receiver's run in Train and what a spoilt gathering lacks
-- are kept on as hmc_link_state's rounds keep them: nothing reads the first outside Train, nor the
-- second where nothing is spoilt.
use Rattle.std.specs.Prelude.{ℕ, ◌-◌, List, [], ◌∷◌, ◌++◌, map}
use Rattle.hmc_codes.specs.Link.{LinkFields}
use Rattle.hmc_packet.specs.Irtry.{irtry_in}
use Rattle.hmc_send.specs.declared.toward.Toward.{Toward}
use Rattle.hmc_send.specs.declared.toward.Toward.TheVariants.{Forth, Back}
use Rattle.hmc_send.specs.LinkEntries.{LinkEntry}
use Rattle.hmc_numbers.specs.Direction.{Reached}
use Rattle.hmc_numbers.specs.Direction.Reached.{training, spoilt}
use Rattle.hmc_numbers.specs.Events.{Reading, happens}
use Rattle.hmc_numbers.specs.Events.Reading.{plain}
use Rattle.hmc_wire.specs.EntryTurns.{reading_of}
use Rattle.hmc_link_state.specs.Round.{steady_after}
use Rattle.hmc_link_state.specs.State.{Side, wire}
use Rattle.hmc_link_state.specs.Steps.{Step, Doing, Link, link_after}
use Rattle.hmc_steps.specs.Doings.{doings_by}
use Rattle.hmc_steps.specs.SideIn.{setup_of}

abbrev pub steady_for : Reached → (kept next : ℕ) → ℕ
steady_for training kept next = kept
steady_for far kept next = next

abbrev pub missing_for : Reached → (kept next : ℕ) → ℕ
missing_for spoilt kept next = kept
missing_for far kept next = next

-- of a direction whose landed flit reads so
abbrev pub regular_step : Side → Reading → Step → Step
regular_step x look (Step.lands e counted ran steady missing buffer) =
    Step.lands e counted ran (steady_for (happens (wire x) e).far steady (steady_after x look))
    (missing_for (happens (wire x) e).far missing (x.missing - 1)) buffer
regular_step x look step = step

abbrev pub regular : Link → Reading → Doing → Doing
regular link look (Doing.forth step) = Doing.forth (regular_step link.forth look step)
regular link look (Doing.back step) = Doing.back (regular_step link.back look step)

-- what the flit of a landing reads as alone
abbrev pub look_of : LinkFields → LinkEntry → Reading
look_of link (LinkEntry.landed d mask flit outcome) = reading_of (irtry_in link.profile flit)
look_of link entry = plain

-- the steps of a list, the newest first
unfoldable pub regulars : LinkFields → List LinkEntry → List Doing
regulars link [] = []
regulars link (entry ∷ past) =
    map (regular (link_after (setup_of link) (regulars link past)) (look_of link entry))
    (doings_by link past entry)
    ++ regulars link past

-- the other way round
abbrev pub turned : Doing → Doing
turned (Doing.forth step) = Doing.back step
turned (Doing.back step) = Doing.forth step

-- the steps where requests go this way
abbrev pub doings_for : (requests : Toward) → LinkFields → List LinkEntry → List Doing
doings_for Forth link past = regulars link past
doings_for Back link past = map turned (regulars link past)
