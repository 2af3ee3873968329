-- The bound, from every list of steps.
use Rattle.std.proofs.Common.{◌≡◌, sym, subst, arith}
use Rattle.hmc_codes.specs.declared.profile.Profile.{Profile}
use Rattle.hmc_link_state.specs.State.{Setup, Side, State, IsSettled, IsSettledSide}
use Rattle.hmc_link_state.specs.Facts.{Facts}
use Rattle.hmc_link_state.specs.Steps.{link_after, IsSettledLink}
use Rattle.hmc_drain.specs.Drains.{DrainsAfter, AnyLink}
use Rattle.hmc_drain.proofs.Assembly.{settled, any_state}
use Rattle.hmc_link_state.proofs.Keeps.{Both}
use Rattle.hmc_link_state.proofs.StepFacts.{facts_after}

facts_at : (c : Setup) (s : State) (x y : Side) → Both c x y → s.forth ≡ x → s.back ≡ y → Facts c s
facts_at c s x y b q r =
    let z : Both c s.forth s.back =
    subst (λ i. Both c i s.back) (sym q) (subst (λ j. Both c x j) (sym r) b) in
    record { forth = z.0; back = z.1 }

pub drains_settled : (p : Profile) (c : Setup) → DrainsAfter p c 0 IsSettledLink
drains_settled p c = λ f past m h run n r q u l.
    let a =
    facts_at c (run 0) (link_after c past).forth (link_after c past).back
    (facts_after p c f.retry.1 past m) q u in
    let s : IsSettled (run 0) =
    (subst IsSettledSide (sym q) h.0, subst IsSettledSide (sym u) h.1) in
    settled p c f run n r a s (omega (arith, l))

pub drains_any : (p : Profile) (c : Setup) → DrainsAfter p c 4000 AnyLink
drains_any p c = λ f past m h run n r q u l.
    any_state p c f run n r
    (facts_at c (run 0) (link_after c past).forth (link_after c past).back
    (facts_after p c f.retry.1 past m) q u) l
