-- The words of hmc_packet for modes, kinds and outcomes, as those of GrammarLandings.
use Rattle.hmc_packet.specs.declared.bad.Bad.{Bad}
use Rattle.hmc_packet.specs.declared.kind.Kind as outer
use Rattle.hmc_packet.specs.declared.kind.Kind.TheVariants as outer_kinds
use Rattle.hmc_packet.specs.declared.outcome.Outcome as outer_outcome
use Rattle.hmc_packet.specs.declared.outcome.Outcome.TheVariants as out
use Rattle.hmc_packet.specs.declared.view.Mode as outer_mode
use Rattle.hmc_packet.specs.declared.view.Mode.TheVariants as outer_modes
use Rattle.hmc_wire.proofs.Grammar.{Kind, Kind as kinds}
use Rattle.hmc_wire.proofs.GrammarLandings.{Mode, Mode as modes, Outcome, Outcome as outcomes}

abbrev pub kind_as : outer.Kind → Kind
kind_as outer_kinds.Start = kinds.start
kind_as outer_kinds.Clear = kinds.clear

abbrev pub mode_as : outer_mode.Mode → Mode
mode_as outer_modes.Train = modes.training
mode_as outer_modes.Abort = modes.abort
mode_as outer_modes.Good = modes.good

abbrev pub outcome_as : outer_outcome.Outcome → Outcome Bad
outcome_as out.Quiet = outcomes.quiet
outcome_as out.Trained = outcomes.trained
outcome_as out.Gathered = outcomes.gathered
outcome_as out.Accepted = outcomes.accepted
outcome_as out.Poisoned = outcomes.poisoned
outcome_as out.Repeat = outcomes.repeated
outcome_as (out.AbortedBad bad) = outcomes.aborted bad
outcome_as out.AbortedOrder = outcomes.disordered
outcome_as (out.Ran kind) = outcomes.ran (kind_as kind)
