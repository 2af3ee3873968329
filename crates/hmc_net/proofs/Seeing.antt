-- What a step sees of a network is what it sees of the journal that the network stands for.
use Rattle.std.proofs.Common.{◌≡◌, ◌<◌, ℕ, false, List, length, sym, ap, subst}
use Rattle.hmc_schedule.specs.declared.step.Step.{Step}
use Rattle.hmc_entries.specs.declared.entry.Entry.{Entry}
use Rattle.hmc_journal.specs.Lawful.{has_passed}
use Rattle.hmc_journal.specs.Links.{link_entries}
use Rattle.hmc_journal.specs.Piped.{forwarded_onto, pipe_onto}
use Rattle.hmc_journal.specs.Next.{next, choice}
use Rattle.hmc_journal.specs.Setup.{Topology, Setup, directions_in}
use Rattle.hmc_journal.specs.StepView.{StepView, view_of}
use Rattle.hmc_links.specs.LinkList.{LinksStandFor}
use Rattle.hmc_net.specs.NetState.{NetState}
use Rattle.hmc_kept.specs.Pipes.{forwarded_at, pipe_at}
use Rattle.hmc_wiring.specs.Ready.{IsStepFor}
use Rattle.hmc_kept.specs.Shown.{KeepsLaws, ShowsPipes}
use Rattle.hmc_net.specs.Sees.{Shows, Sees, IsSized, IsReady}
use Rattle.hmc_net.specs.Stands.{StandsFor, IsNext}
use Rattle.hmc_kept.proofs.LawsShown.{IsLawBound, laws_kept}
use Rattle.hmc_wiring.proofs.Cases.{step_at}

shown : (net : NetState) (past : List Entry) (setup : Setup) → StandsFor net setup past → has_passed past ≡ false → Shows net (view_of setup past)
unfolding view_of
shown net past setup stands on = record {
  queues = stands.queues;
  state = stands.state;
  hosts = stands.hosts;
  forwarded = subst (λ (t : Topology). (direction : ℕ) → direction < directions_in t → forwarded_at net.piped direction ≡ forwarded_onto setup.topology direction past) (sym stands.topology) stands.forwarded;
  pipes = subst (λ (t : Topology). (direction : ℕ) → direction < directions_in t → pipe_at net.piped direction ≡ pipe_onto setup.topology direction past) (sym stands.topology) stands.pipes;
  links = subst (λ (t : Topology). LinksStandFor t.links net.links (λ link. link_entries setup.topology link past)) (sym stands.topology) (stands.links on);
}

pub sees_of : (net : NetState) (past : List Entry) (setup : Setup) → StandsFor net setup past → has_passed past ≡ false → IsLawBound setup past → Sees net (view_of setup past)
sees_of net past setup stands on law = record {
  shows = shown net past setup stands on;
  laws = subst (λ (t : Topology). KeepsLaws t (view_of setup past)) (sym stands.topology) (laws_kept setup past law);
}

pub ready_of : (net : NetState) (past : List Entry) (setup : Setup) → StandsFor net setup past → has_passed past ≡ false → IsLawBound setup past → IsReady net
ready_of net past setup stands on law = record { sized = stands.sized; view = view_of setup past; sees = sees_of net past setup stands on law }

pub choice_seen : (net : NetState) (past : List Entry) (setup : Setup) (step : Step) → StandsFor net setup past → choice net.topology (view_of setup past) step ≡ next setup past step
unfolding next
choice_seen net past setup step stands = ap (λ (t : Topology). choice t (view_of setup past) step) stands.topology

-- ---- the step

pub step_there : (net : NetState) (past : List Entry) (setup : Setup) (step : Step) → IsNext net setup past step → IsStepFor net.topology step
step_there net past setup step is =
    subst (λ (t : Topology). IsStepFor t step) (sym is.stands.topology) (step_at (IsStepFor setup.topology) setup.schedule (length past) step is.stands.steps is.step_is)

-- the packets that are kept as forwarded are those that are seen
pub shows_pipes : (net : NetState) (view : StepView) → IsSized net → Sees net view → ShowsPipes net.topology view net.piped
shows_pipes net view sized sees = record { counted = sized.piped; forwarded = sees.shows.forwarded; pipes = sees.shows.pipes }
