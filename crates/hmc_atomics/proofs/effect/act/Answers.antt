use Rattle.std.proofs.Common.{◌≡◌, refl, ℕ, ◌+◌, ◌%◌, ◌^◌, Bool, ◌||◌, List, false, true}
use Rattle.std.proofs.Common.{if◌then◌else◌}
use Rattle.std.specs.Int.{w64, w128, from_le_bytes}
use Rattle.hmc_codes.specs.declared.answer.Acted.{Acted}
use Rattle.hmc_atomics.specs.Act.{acted_of, acted_half, acted_block}
use Rattle.hmc_atomics.specs.Effects.{effect_of, becomes, is_greater, overflows, number_of_halves}
use Rattle.hmc_atomics.specs.Effects.{low, high}
use Rattle.hmc_atomics.specs.Halves.{block_half}
use Rattle.hmc_atomics.specs.declared.atomic.Atomic.{Atomic}
use Rattle.hmc_atomics.specs.declared.atomic.Atomic.TheVariants.{TwoAdd8, CasGt8}
use Rattle.hmc_atomics.proofs.effect.act.Goals as goal

acted_of-two_sums : (op : Atomic) (at_high : Bool) (block operand : List ℕ)
    (lo hi m first last sums : ℕ) (low_flag high_flag : Bool) (result : Acted) → op ≡ TwoAdd8 →
    lo ≡ from_le_bytes w64 (block_half false operand) →
    hi ≡ from_le_bytes w64 (block_half true operand) → m ≡ from_le_bytes w128 block →
    first ≡ low m → last ≡ high m → sums
    ≡ number_of_halves ((first + lo) % 2 ^ 64) ((last + hi) % 2 ^ 64) →
    low_flag ≡ overflows w64 first lo → high_flag ≡ overflows w64 last hi →
    result ≡ acted_block block (becomes sums (low_flag || high_flag)) →
    result ≡ acted_of op at_high block operand
unfolding acted_of effect_of
acted_of-two_sums op at_high block operand lo hi m first last sums low_flag high_flag result e0 e1
    e2 e3 e4 e5 e6 e7 e8 e9 =
    rw (e9, e8, e7, e6, e5, e4, e3, e2, e1, e0) refl

acted_of-greater : (op : Atomic) (at_high : Bool) (block operand : List ℕ) (h lo : ℕ)
    (passes : Bool) (result : Acted) → op ≡ CasGt8 →
    h ≡ from_le_bytes w64 (block_half at_high block) →
    lo ≡ from_le_bytes w64 (block_half false operand) → passes ≡ is_greater w64 lo h →
    result ≡ acted_half at_high block
    (becomes (if passes then lo else from_le_bytes w64 (block_half at_high block)) passes) →
    result ≡ acted_of op at_high block operand
unfolding acted_of effect_of
acted_of-greater op at_high block operand h lo passes result e0 e1 e2 e3 e4 =
    rw (e4, e3, e2, e1, e0) refl

pub returns-in-TwoAdd8 : goal.returns-in-TwoAdd8
returns-in-TwoAdd8 c =
    acted_of-two_sums _ c.args.high c.args.block c.args.operand _ _ _ _ _ _ _ _ _ c.in-TwoAdd8.is
    c.half_number-lo.ensures c.half_number-hi.ensures c.from_le_bytes-m.ensures
    c.low_of-first.ensures c.high_of-last.ensures c.number_of_halves-sums.ensures
    c.overflows64.ensures c.overflows64-in-TwoAdd8.ensures c.block_becomes.ensures

pub returns-in-CasGt8 : goal.returns-in-CasGt8
returns-in-CasGt8 c =
    acted_of-greater _ c.args.high c.args.block c.args.operand _ _ _ _ c.in-CasGt8.is
    c.half_number-h.ensures c.half_number-lo.ensures c.is_greater64.ensures
    c.half_replaced-in-CasGt8.ensures
