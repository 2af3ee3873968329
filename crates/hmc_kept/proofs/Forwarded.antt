-- Landings of packets that are forwarded.
use Rattle.std.proofs.Common.{◌≡◌, ◌<◌, ◌+◌, ◌/◌, ◌∙◌, ℕ, List, [], length, refl, sym, ap, subst, arith}
use Rattle.std.specs.Prelude.{slice_index_or, slice_get}
use Rattle.hmc_packet.specs.Parts.{lng_of}
use Rattle.hmc_ends.specs.Outcomes.{front_outcome}
use Rattle.hmc_ends.specs.declared.link_outcome.LinkOutcome.{LinkOutcome}
use Rattle.hmc_ends.specs.declared.link_outcome.LinkOutcome.TheVariants as lands
use Rattle.hmc_send.specs.LinkEntries.{receiver_entries}
use Rattle.hmc_send.specs.LinkLines.{line}
use Rattle.hmc_journal.specs.Links.{toward}
use Rattle.hmc_journal.specs.Piped.{PipeFrom, pipe_of}
use Rattle.hmc_journal.specs.Setup.{directions_in, Topology}
use Rattle.hmc_journal.specs.StepView.{StepView}
use Rattle.hmc_kept.specs.Called.{sizes_by}
use Rattle.hmc_kept.specs.Pipes.{PipesHeld, AreGathering, IsLastOf, is_whole_outcome}
use Rattle.hmc_kept.specs.Shown.{gathered, ShowsPipes, KeepsLaws}
use Rattle.hmc_kept.proofs.PipeLemmas.{same_pipe}
use Rattle.hmc_kept.proofs.Landing.{came_outcome}
use Rattle.hmc_kept.proofs.Whole.{whole_last}

-- the pipe of what is forwarded
pub are_gathering : (topology : Topology) (view : StepView) (piped : PipesHeld) (direction : ℕ) → KeepsLaws topology view → ShowsPipes topology view piped → direction < directions_in topology → AreGathering piped direction
are_gathering topology view piped direction laws shows there = λ onto at.
    let law = laws.forwarded direction onto there (sym (shows.forwarded direction there) ∙ at) in
    record {
      there = omega (arith, law.there, shows.counted.pipes);
      p = pipe_of topology direction (gathered view direction);
      pipe = shows.pipes onto law.there ∙ law.pipe;
      unended = refl;
      more = law.more;
    }

-- what a landing tells of the pipe of its packet
abbrev pub IsLastLanding : PipesHeld → (direction : ℕ) → LinkOutcome → Type 0
IsLastLanding held direction (lands.Came flit landed) = IsLastOf held direction landed
IsLastLanding held direction _ = Unit {0}

-- a packet that came whole has all its flits in its pipe
pub is_last : (topology : Topology) (view : StepView) (piped : PipesHeld) (direction : ℕ) (mask : List ℕ) (landed : LinkOutcome) → KeepsLaws topology view → ShowsPipes topology view piped → direction < directions_in topology
    → landed ≡ front_outcome (sizes_by topology.links direction) (toward direction) (view.entries (direction / 2)) mask (slice_get (line (sizes_by topology.links direction).profile (toward direction) (view.entries (direction / 2))) 0)
    → IsLastLanding piped direction landed
is_last topology view piped direction mask lands.Empty laws shows there is = tt
is_last topology view piped direction mask (lands.Passed flit) laws shows there is = tt
is_last topology view piped direction mask (lands.Came flit landed) laws shows there is = λ onto p at found whole.
    let law = laws.forwarded direction onto there (sym (shows.forwarded direction there) ∙ at) in
    let own : p ≡ pipe_of topology direction (gathered view direction) = same_pipe p _ (sym found ∙ shows.pipes onto law.there ∙ law.pipe) in
    let outcome = came_outcome (sizes_by topology.links direction) (toward direction) (view.entries (direction / 2)) mask _ flit landed is in
    let most = whole_last (sizes_by topology.links direction).profile (receiver_entries (toward direction) (view.entries (direction / 2))) flit law.some (sym (ap is_whole_outcome outcome) ∙ whole) in
    let more = law.more in
    let exact : length (gathered view direction) + 1 ≡ lng_of (slice_index_or (gathered view direction) 0 []) = omega (arith, most, more) in
    subst (λ (q : PipeFrom). length q.pipe.came + 1 ≡ q.pipe.flits) (sym own) exact
