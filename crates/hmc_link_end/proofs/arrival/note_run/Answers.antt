-- A run of Starts is one entry more, and any other outcome none.
use Rattle.std.proofs.Common.{◌≡◌, ◌∙◌, ◌++◌, ◌∷◌, Bool, true, false, cond, List, refl, sym, ap, subst}
use Rattle.hmc_packet.specs.declared.kind.Kind.TheVariants.{Start, Clear}
use Rattle.hmc_packet.specs.declared.outcome.Outcome.{Outcome}
use Rattle.hmc_packet.specs.declared.outcome.Outcome.TheVariants.{Quiet, Trained, Gathered, Accepted, Poisoned, Repeat, AbortedBad, AbortedOrder, Ran}
use Rattle.hmc_ends.specs.Landings.{is_start_run}
use Rattle.hmc_send.specs.Entries.{SenderEntry}
use Rattle.hmc_send.specs.LinkSenders.{run_entries}
use Rattle.hmc_send.specs.StandsFor.{StandsFor}
use Rattle.hmc_link_end.proofs.arrival.note_run.Goals as goal

by_outcome : (outcome : Outcome) (past : List SenderEntry) → run_entries outcome ++ past ≡ cond (is_start_run outcome) (SenderEntry.ran ∷ past) past
by_outcome Quiet past = refl
by_outcome Trained past = refl
by_outcome Gathered past = refl
by_outcome Accepted past = refl
by_outcome Poisoned past = refl
by_outcome Repeat past = refl
by_outcome (AbortedBad fault) past = refl
by_outcome AbortedOrder past = refl
by_outcome (Ran Start) past = refl
by_outcome (Ran Clear) past = refl

by_test : (outcome : Outcome) (test : Bool) (past : List SenderEntry) → is_start_run outcome ≡ test → run_entries outcome ++ past ≡ cond test (SenderEntry.ran ∷ past) past
by_test outcome test past is = by_outcome outcome past ∙ ap (λ (t : Bool). cond t (SenderEntry.ran ∷ past) past) is

pub returns-then-is_start_run-clause-stands : goal.returns-then-is_start_run-clause-stands
returns-then-is_start_run-clause-stands c past s =
    subst (λ (entries : List SenderEntry). StandsFor c.ran.new.self entries) (sym (by_test c.args.outcome true past (sym c.is_start_run.ensures ∙ c.if-is_start_run.true)))
    (c.ran.ensures.stands past s)

pub returns-else-is_start_run-clause-stands : goal.returns-else-is_start_run-clause-stands
returns-else-is_start_run-clause-stands c past s =
    subst (λ (entries : List SenderEntry). StandsFor c.args.sender.now entries) (sym (by_test c.args.outcome false past (sym c.is_start_run.ensures ∙ c.if-is_start_run.false))) s
