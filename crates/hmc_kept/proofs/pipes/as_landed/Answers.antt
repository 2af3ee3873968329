-- A copy is good where its packet is accepted.
use Rattle.std.proofs.Common.{inl, inr, ap, sym}
use Rattle.hmc_journal.specs.Piped.{is_accepted_outcome}
use Rattle.hmc_kept.proofs.pipes.as_landed.Goals as goal

pub returns-in-Poisoned-clause-accepted : goal.returns-in-Poisoned-clause-accepted
returns-in-Poisoned-clause-accepted c = elim c.in-Poisoned.is [
  | inl is ↦ ap is_accepted_outcome (sym is)
  | inr is ↦ ap is_accepted_outcome (sym is)
]
