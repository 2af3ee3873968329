-- A check tells whether a packet is poisoned.
use Rattle.std.proofs.Common.{◌≡◌, ◌∙◌, ◌<◌, ◌^◌, ℕ, Bool, true, false, cond, eqb, Some, None, refl, sym, ap, arith}
use Rattle.std.specs.Prelude.{◌&&◌, not}
use Rattle.std.proofs.lemmas.Bool.{eqb-true, eq-eqb, ne_eqb, and_parts}
use Rattle.hmc_codes.specs.declared.layout.Layout.{Layout}
use Rattle.hmc_codes.specs.Commands.{is_flow}
use Rattle.hmc_packet.specs.Spelling.{inverse}
use Rattle.hmc_packet.specs.Reading.{poison_in}

-- the check of a packet that is poisoned or not
abbrev pub check_from : Bool → ℕ → ℕ
check_from poisoned right = cond poisoned (inverse right) right

not_flow : (flow : Bool) → (flow ≡ true → true ≡ false) → not flow ≡ true
not_flow true clash = absurd (let h : true ≡ false = clash refl in cc)
not_flow false clash = refl

pub poison_in-check : (layout : Layout) (poisoned : Bool) (right : ℕ) → right < 2 ^ 32 → (is_flow layout ≡ true → poisoned ≡ false) → poison_in layout (check_from poisoned right) right ≡ Some poisoned
unfolding poison_in
poison_in-check layout false right lt flow = rw (eq-eqb right right refl) refl
poison_in-check layout true right lt flow =
    rw (ne_eqb (inverse right) right (λ (same : inverse right ≡ right). omega arith), not_flow (is_flow layout) flow, eq-eqb (inverse right) (inverse right) refl) refl

tested : (layout : Layout) (check right : ℕ) (poisoned : Bool) (same turned : Bool) → eqb check right ≡ same → (not (is_flow layout) && eqb check (inverse right)) ≡ turned →
    cond same (Some false) (cond turned (Some true) None) ≡ Some poisoned → (check ≡ check_from poisoned right) × (is_flow layout ≡ true → poisoned ≡ false)
tested layout check right true true turned is-same is-turned found = absurd cc
tested layout check right false true turned is-same is-turned found = (eqb-true check right is-same, λ flow. refl)
tested layout check right true false true is-same is-turned found =
    let both = and_parts (not (is_flow layout)) (eqb check (inverse right)) is-turned in
    (eqb-true check (inverse right) both.1, λ flow. let clash : not true ≡ true = ap not (sym flow) ∙ both.0 in absurd cc)
tested layout check right false false true is-same is-turned found = absurd cc
tested layout check right poisoned false false is-same is-turned found = absurd cc

pub poison_in-is : (layout : Layout) (check right : ℕ) (poisoned : Bool) → poison_in layout check right ≡ Some poisoned → (check ≡ check_from poisoned right) × (is_flow layout ≡ true → poisoned ≡ false)
unfolding poison_in
poison_in-is layout check right poisoned found =
    tested layout check right poisoned (eqb check right) (not (is_flow layout) && eqb check (inverse right)) refl refl found
