-- The count is that of the kind, and one more.
use Rattle.std.proofs.Common.{◌≡◌, ◌∙◌, ◌+◌, ℕ, Option, ap, sym}
use Rattle.std.specs.Prelude.{min}
use Rattle.hmc_packet.specs.declared.kind.Kind.{Kind}
use Rattle.hmc_irtry.specs.Runs.{RunFields, whole_run, run_of, after_seen, counted_after}
use Rattle.hmc_irtry.specs.Runs.{counted_of}
use Rattle.hmc_irtry.proofs.runs.Runs.see.Goals as goal

pub returns-in_default-clause-left : goal.returns-in_default-clause-left
returns-in_default-clause-left c =
    ap (λ (run : RunFields). record run { count = 0 }) c.self.view_is
    ∙ ap (λ (seen : Option (Kind × ℕ)). after_seen seen c.args.self.now) (sym c.in_default.is)

pub returns-clause-counted : goal.returns-clause-counted
returns-clause-counted c =
    c.counted_after.ensures ∙ ap counted_after c.of-before.ensures.value
    ∙ ap (λ (seen : Option (Kind × ℕ)). counted_of seen c.args.self.now) (sym c.in-Some.is)

pub returns-clause-left : goal.returns-clause-left
returns-clause-left c =
    let more : c.min-self-inside.result
    ≡ min (run_of c.in-Some.kind c.args.self.now + 1) whole_run =
    c.min-self-inside.ensures ∙ ap (λ (n : ℕ). min (n + 1) whole_run) c.of-before.ensures.value in
    (λ i. record { kind = c.in-Some.kind; count = more i })
    ∙ ap (λ (seen : Option (Kind × ℕ)). after_seen seen c.args.self.now) (sym c.in-Some.is)
