-- A packet is stored, then the sender takes the return pointer and the run.
use Rattle.std.proofs.Common.{◌≡◌, ◌∙◌, ◌++◌, ap, subst}
use Rattle.hmc_ends.specs.End.{EndFields}
use Rattle.hmc_ends.specs.Landings.{noted}
use Rattle.hmc_send.specs.LinkSenders.{run_entries}
use Rattle.hmc_send.specs.StandsFor.{StandsFor}
use Rattle.hmc_send.specs.declared.state.State.{State}
use Rattle.hmc_link_end.proofs.Ends.{with_sender}
use Rattle.hmc_link_end.proofs.end.End.take_landing.Goals as goal

pub returns-clause-left : goal.returns-clause-left
returns-clause-left g c past s =
    subst (λ (x : State). StandsFor x past → StandsFor c.note_run.new.sender (run_entries c.args.reception.outcome ++ noted x.retry.profile c.args.reception.rrp past))
    (ap (λ (e : EndFields). e.sender) (c.self.view_is ∙ c.store.ensures))
    (λ stands. c.note_run.ensures.stands _ (c.note.ensures.stands past stands)) s

pub returns-clause-sizes : goal.returns-clause-sizes
returns-clause-sizes g c =
    let same : c.self.inside.sender ≡ c.args.self.now.sender = ap (λ (e : EndFields). e.sender) (c.self.view_is ∙ c.store.ensures) in
    record {
      own = c.note_run.ensures.sizes.own ∙ c.note.ensures.sizes.own ∙ ap (λ (x : State). x.profile) same;
      profile = c.note_run.ensures.sizes.profile ∙ c.note.ensures.sizes.profile ∙ ap (λ (x : State). x.retry.profile) same;
      flits = c.note_run.ensures.sizes.flits ∙ c.note.ensures.sizes.flits ∙ ap (λ (x : State). x.retry.flits) same;
    }

pub returns-clause-rest : goal.returns-clause-rest
returns-clause-rest g c = with_sender _ _ c.note_run.new.sender _ _ (c.self.view_is ∙ c.store.ensures) c.pending_changed-self-inside.ensures
