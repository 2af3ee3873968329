use Rattle.std.proofs.Common.{rules, ◌≡◌, ◌∙◌, ◌≤◌, ◌*◌, ◌++◌, ℕ, List, Option, Some, None, option_map, IfSome, length, sym, subst, ap}
use Rattle.std.specs.List.{All}
use Rattle.hmc_codes.specs.Flit.{IsFlit}
use Rattle.hmc_schedule.specs.declared.noise.Noise.{Noise}
use Rattle.hmc_schedule.specs.declared.step.Step.{Step}
use Rattle.hmc_schedule.specs.Noise.{lands_of, new_noise, noisy_if}
use Rattle.hmc_schedule.specs.Plan.{PlanFields, HasFlit}
use Rattle.hmc_schedule.specs.Round.{repeated, round_of, rounds_of}
use Rattle.hmc_schedule.specs.Written.{round_at}
use Rattle.hmc_schedule.proofs.NoiseLemmas.{noisy_if-length, round_lands}
use Rattle.hmc_schedule.proofs.ParseLemmas.{IsSchedule-rounds}
use Rattle.hmc_schedule.proofs.WorkLemmas.{rounds_within, rounds_masks}
use Rattle.hmc_schedule.proofs.WrittenLemmas.{length-rounds}
use Rattle.hmc_schedule.proofs.schedule.Schedule.rounds.Goals as goal

pub keep-requires : goal.keep-requires
keep-requires c =
    rw (c.deref.ensures.value, c.in_ok-steps.ensures) (round_lands c.args.plan.now ∙ ap (λ (p : PlanFields). lands_of p.directions) (sym c.plan.view_is))

pub append-requires-clause-count : goal.append-requires-clause-count
append-requires-clause-count c =
    let one = round_at c.keep.new.self.kept c.in_ok-kept.kept in
    let len : c.len.result ≡ length c.in_ok-steps.steps.items = search rules in
    sym (noisy_if-length c.new_noise.result (repeated c.args.n one) ∙ length-rounds c.args.n one ∙ ap (λ (l : List Step). c.args.n * length l) (c.in_ok-kept.ensures.round ∙ c.deref.ensures.value) ∙ ap (λ k. c.args.n * k) (sym len))

noisy_some : (given : Option (ℕ × List ℕ)) (made : Option Noise) → made ≡ option_map new_noise given → IfSome given (λ noise. 1 ≤ noise.0) → IfSome made (λ noise. 1 ≤ noise.every)
noisy_some None made is some = subst (λ (o : Option Noise). IfSome o (λ noise. 1 ≤ noise.every)) (sym is) tt
noisy_some (Some noise) made is some = subst (λ (o : Option Noise). IfSome o (λ noise. 1 ≤ noise.every)) (sym is) some

pub append-requires-clause-stretch : goal.append-requires-clause-stretch
append-requires-clause-stretch c = record {
  round = c.in_ok-kept.ensures.kept;
  noise = noisy_some c.args.noise c.new_noise.result c.new_noise.ensures.value c.requires.noise;
}

pub append-requires-clause-room : goal.append-requires-clause-room
append-requires-clause-room c =
    let len : c.len.result ≡ length c.in_ok-steps.steps.items = search rules in
    rw (c.in_ok-kept.ensures.steps ∙ c.self.view_is, len ∙ ap length c.in_ok-steps.ensures) c.requires.room

pub invariant_of-self-2 : goal.invariant_of-self-2
invariant_of-self-2 c =
    IsSchedule-rounds c.args.plan.now c.args.noise c.args.n c.args.self.now c.keep.new.self.steps c.append.new.self.steps (round_at c.keep.new.self.kept c.in_ok-kept.kept) c.new_noise.result c.in_ok-append.ensures.ok (c.in_ok-kept.ensures.round ∙ c.deref.ensures.value ∙ c.in_ok-steps.ensures) (c.in_ok-kept.ensures.steps ∙ c.self.view_is) c.new_noise.ensures.value c.new_noise.ensures.mask c.requires.room (subst (All HasFlit) c.self.view_is c.self.invariant.masks)

pub returns-clause-ok : goal.returns-clause-ok
unfolding rounds_of
returns-clause-ok c =
    let one = round_at c.keep.new.self.kept c.in_ok-kept.kept in
    let same : one ≡ round_of c.args.plan.now = c.in_ok-kept.ensures.round ∙ c.deref.ensures.value ∙ c.in_ok-steps.ensures in
    c.in_ok-append.ensures.ok
    ∙ ap (λ (l : List Step). l ++ noisy_if c.new_noise.result (repeated c.args.n one)) (c.in_ok-kept.ensures.steps ∙ c.self.view_is)
    ∙ ap (λ (r : List Step). c.args.self.now ++ noisy_if c.new_noise.result (repeated c.args.n r)) same
    ∙ ap (λ (o : Option Noise). c.args.self.now ++ noisy_if o (repeated c.args.n (round_of c.args.plan.now))) c.new_noise.ensures.value

pub returns-clause-within : goal.returns-clause-within
returns-clause-within c before =
    rw (returns-clause-ok c) (rounds_within c.args.plan.now c.args.noise c.args.n c.args.self.now (subst (λ (o : Option Noise). IfSome o (λ noise. IsFlit noise.mask)) c.new_noise.ensures.value c.new_noise.ensures.mask) before)

pub returns-clause-masks : goal.returns-clause-masks
returns-clause-masks c before =
    rw (returns-clause-ok c) (rounds_masks c.args.plan.now c.args.noise c.args.n c.args.self.now (subst (λ (o : Option Noise). IfSome o (λ noise. IsFlit noise.mask)) c.new_noise.ensures.value c.new_noise.ensures.mask) before)
