-- Each step of a schedule that is read names parts of its case, and each mask is as long as a flit.
use Rattle.std.proofs.Common.{◌≡◌, ◌≤◌, ◌<◌, ◌+◌, ◌==◌, ℕ, Bool, true, false, cond, Option, Some, None, IfSome, List, [], ◌∷◌, length, codes, refl, sym, subst, arith}
use Rattle.std.proofs.lemmas.Bool.Decides.{nat_tests}
use Rattle.std.proofs.lemmas.List.Elements.{All-nil}
use Rattle.std.specs.List.{All}
use Rattle.std.specs.Result.{result_ok}
use Rattle.std.specs.Str.{bytes_eq}
use Rattle.hex.specs.Hex.{decode_sized}
use Rattle.hmc_codes.proofs.BytesLemmas.{zero_is_flit}
use Rattle.hmc_codes.specs.Flit.{IsFlit}
use Rattle.hmc_codes.specs.Limits.{ports, most_steps}
use Rattle.hmc_text.specs.Lines.{lines_of}
use Rattle.hmc_text.specs.Reading.{or_fault, next_word, no_word}
use Rattle.hmc_text.specs.Words.{words_of, is_passed_over}
use Rattle.hmc_schedule.proofs.WorkLemmas.{still_progress}
use Rattle.hmc_schedule.specs.Meaning.{IsMeaning, numbered_step, land_of, port_step, spread_of, bank_of, lift_of, step_of, one_of, rounds_meaning, noise_end, noise_begin, noise_meaning, noise_or_one, statement_of, meaning_of}
use Rattle.hmc_schedule.specs.Operands.{index_word, port_words, vault_words, vault_lift, lift_word, mask_word, mask_words, due_mask, count_word}
use Rattle.hmc_schedule.specs.Plan.{PlanFields, IsWorking, IsPortOf, IsVaultOf, IsLiftBelow, is_joined, vaults_at, banks_at, slots}
use Rattle.hmc_schedule.specs.Schedule.{Progress, nothing_yet, after_line, schedule_of, IsProgress}
use Rattle.hmc_schedule.specs.Verb.{verb_of}
use Rattle.hmc_schedule.specs.declared.fault.ScheduleKind.TheVariants as kinds
use Rattle.hmc_schedule.specs.declared.step.Step.{Step}
use Rattle.hmc_schedule.specs.declared.step.Step.TheVariants as steps
use Rattle.hmc_schedule.specs.declared.verb.Verb.{Verb}
use Rattle.hmc_schedule.specs.declared.verb.Verb.TheVariants as verbs
use Rattle.hmc_cases.proofs.Digits.{AreBytes, digits_known}
use Rattle.hmc_cases.proofs.Reading.{IfRead, value, fault, after, after_any, either, some_value, all_lines, number_small}

abbrev Words : Type 0
Words = List (List ℕ)

-- operands

index_small : (limit : ℕ) (words : Words)
    → IfRead (index_word limit words) (λ number. number.0 < limit)
index_small limit words = number_small kinds.Words kinds.Number kinds.Range limit words

port_joined : (joined : Bool) (port : ℕ)
    → IfRead (or_fault kinds.Range (cond joined (Some port) None))
    (λ same. (same ≡ port) × (joined ≡ true))
port_joined true port = value (refl, refl)
port_joined false port = fault

port_known : (plan : PlanFields) (words : Words)
    → IfRead (port_words plan words) (λ port. IsPortOf plan port.0 port.1)
unfolding port_words
port_known plan words =
    after (index_small (length plan.cubes) words) (λ cube in_cubes.
    after (index_small ports cube.1) (λ port in_ports.
    after (port_joined (is_joined plan cube.0 port.0) port.0) (λ same is.
    let is_port : IsPortOf plan cube.0 port.0 = record {
      some_cube = in_cubes;
      some_port = in_ports;
      joined = is.1;
    } in
    value (subst (IsPortOf plan cube.0) (sym is.0) is_port))))

vault_known : (plan : PlanFields) (words : Words)
    → IfRead (vault_words plan words) (λ vault. IsVaultOf plan vault.0 vault.1)
unfolding vault_words
vault_known plan words =
    after (index_small (length plan.cubes) words) (λ cube in_cubes.
    after (index_small (vaults_at plan cube.0) cube.1) (λ vault in_vaults.
    value (record { some_cube = in_cubes; some_vault = in_vaults })))

lift_known : (vaults : ℕ) (words : Words)
    → IfRead (lift_word vaults words) (λ lift. IsLiftBelow vaults lift.0)
unfolding lift_word vault_lift
lift_known vaults words =
    after_any (next_word kinds.Words words) (λ first.
    either (bytes_eq first.0 (codes "r"))
    (λ registers. value tt)
    (λ other. after (index_small vaults words) (λ vault small. value small)))

mask_known : (word : List ℕ) → IfRead (mask_word word) IsFlit
unfolding mask_word
mask_known word = some_value kinds.Mask digits (by digits (digits_known word 16))
  where
    digits : Option (List ℕ)
    digits = result_ok (decode_sized word 16)

    by : (bytes : Option (List ℕ)) → IfSome bytes (AreBytes 16) → IfSome bytes IsFlit
    by (Some bytes) are = record { bytes = are.bytes; long = are.long }
    by None are = tt

masks_known : (words : Words) → IfRead (mask_words words) (λ mask. IsFlit mask.0)
unfolding mask_words
masks_known [] = value zero_is_flit
masks_known (word ∷ words) = after (mask_known word) (λ mask is. value is)

due_mask_known : (words : Words) → IfRead (due_mask words) (λ mask. IsFlit mask.0)
unfolding due_mask
due_mask_known words =
    after_any (next_word kinds.Words words) (λ first.
    after (mask_known first.0) (λ mask is.
    value is))

some_count : (count : ℕ)
    → IfRead (or_fault kinds.Range (cond (count == 0) None (Some count))) (λ some. 1 ≤ some)
some_count count = by (count == 0) refl
  where
    by : (none : Bool) → (count == 0) ≡ none
        → IfRead (or_fault kinds.Range (cond none None (Some count))) (λ some. 1 ≤ some)
    by true is = fault
    by false is = value (grind (arith, nat_tests))

count_known : (words : Words) → IfRead (count_word words) (λ count. 1 ≤ count.0)
unfolding count_word
count_known words =
    after_any (index_word (most_steps + 1) words) (λ count.
    after (some_count count.0) (λ some is.
    value is))

-- steps

-- a step, whatever words follow it
abbrev Works : PlanFields → Step × Words → Type 0
Works plan step = IsWorking plan step.0

numbered_known : (plan : PlanFields) (step : ℕ → Step) (limit : ℕ) (words : Words)
    → ((number : ℕ) → number < limit → IsWorking plan (step number))
    → IfRead (numbered_step step limit words) (Works plan)
unfolding numbered_step
numbered_known plan step limit words works =
    after (index_small limit words) (λ number small. value (works number.0 small))

land_known : (plan : PlanFields) (words : Words) → IfRead (land_of plan words) (Works plan)
unfolding land_of
land_known plan words =
    after (index_small plan.directions words) (λ direction small.
    after (masks_known direction.1) (λ mask is. value (record { within = small; mask = is })))

joined_known : (plan : PlanFields) (step : ℕ → ℕ → Step) (words : Words)
    → ((cube port : ℕ) → IsPortOf plan cube port → IsWorking plan (step cube port))
    → IfRead (port_step step plan words) (Works plan)
unfolding port_step
joined_known plan step words works =
    after (port_known plan words) (λ port is. value (works port.0 port.1 is))

spread_known : (plan : PlanFields) (words : Words) → IfRead (spread_of plan words) (Works plan)
unfolding spread_of
spread_known plan words =
    after (vault_known plan words) (λ vault is. value (record { within = is; mask = tt }))

bank_known : (plan : PlanFields) (words : Words) → IfRead (bank_of plan words) (Works plan)
unfolding bank_of
bank_known plan words =
    after (vault_known plan words) (λ vault is.
    after (index_small (banks_at plan vault.0) vault.2) (λ bank small.
    value (record { within = record { some_vault = is; some_bank = small }; mask = tt })))

answers_known : (plan : PlanFields) (words : Words) → IfRead (lift_of plan words) (Works plan)
unfolding lift_of
answers_known plan words =
    after (index_small (length plan.cubes) words) (λ cube in_cubes.
    after (lift_known (vaults_at plan cube.0) cube.1) (λ lift is.
    value (record { within = record { some_cube = in_cubes; some_lift = is }; mask = tt })))

step_known : (plan : PlanFields) (verb : Verb) (words : Words)
    → IfRead (step_of plan verb words) (Works plan)
unfolding step_of
step_known plan verbs.Give words =
    numbered_known plan steps.Give plan.hosts words (λ host is. record { within = is; mask = tt })
step_known plan verbs.Send words =
    numbered_known plan steps.Send plan.directions words
    (λ direction is. record { within = is; mask = tt })
step_known plan verbs.Land words = land_known plan words
step_known plan verbs.Shift words =
    joined_known plan steps.Shift words (λ cube port is. record { within = is; mask = tt })
step_known plan verbs.Spread words = spread_known plan words
step_known plan verbs.Bank words = bank_known plan words
step_known plan verbs.Registers words =
    numbered_known plan steps.Registers (length plan.cubes) words
    (λ cube is. record { within = is; mask = tt })
step_known plan verbs.Lift words = answers_known plan words
step_known plan verbs.Take words =
    numbered_known plan steps.Take plan.hosts words (λ host is. record { within = is; mask = tt })
step_known plan verbs.Through words =
    joined_known plan steps.Through words (λ cube port is. record { within = is; mask = tt })
step_known plan verbs.Unlock words =
    numbered_known plan steps.Unlock plan.directions words
    (λ direction is. record { within = is; mask = tt })
step_known plan verbs.Retire words =
    numbered_known plan steps.Retire slots words (λ slot is. record { within = is; mask = tt })

-- lines

one_known : (plan : PlanFields) (first : List ℕ) (words : Words)
    → IfRead (one_of plan first words) (IsMeaning plan)
unfolding one_of
one_known plan first words =
    after_any (or_fault kinds.Step (verb_of first)) (λ verb.
    after (step_known plan verb words) (λ step works.
    after_any (no_word kinds.Words step.1) (λ end.
    value works)))

rounds_known : (plan : PlanFields) (words : Words) → IfRead (rounds_meaning words) (IsMeaning plan)
unfolding rounds_meaning
rounds_known plan words =
    after_any (count_word words) (λ count.
    after_any (no_word kinds.Words count.1) (λ end.
    value tt))

noise_begin_known : (plan : PlanFields) (words : Words)
    → IfRead (noise_begin words) (IsMeaning plan)
unfolding noise_begin
noise_begin_known plan words =
    after (count_known words) (λ every some.
    after (due_mask_known every.1) (λ mask is.
    after_any (no_word kinds.Words mask.1) (λ end.
    value (record { some = some; few = omega arith; mask = is }))))

noise_end_known : (plan : PlanFields) (words : Words) → IfRead (noise_end words) (IsMeaning plan)
unfolding noise_end
noise_end_known plan words = after_any (no_word kinds.Words words) (λ end. value tt)

noise_known : (plan : PlanFields) (words : Words) → IfRead (noise_meaning words) (IsMeaning plan)
unfolding noise_meaning
noise_known plan words =
    after_any (next_word kinds.Words words) (λ first.
    either (bytes_eq first.0 (codes "off"))
    (λ off. noise_end_known plan first.1)
    (λ on. noise_begin_known plan words))

statement_known : (plan : PlanFields) (words : Words)
    → IfRead (statement_of plan words) (IsMeaning plan)
unfolding statement_of noise_or_one
statement_known plan words =
    after_any (next_word kinds.Words words) (λ first.
    either (bytes_eq first.0 (codes "round"))
    (λ round. rounds_known plan first.1)
    (λ other.
    either (bytes_eq first.0 (codes "noise"))
    (λ noise. noise_known plan first.1)
    (λ one. one_known plan first.0 first.1)))

meaning_known : (plan : PlanFields) (words : Words)
    → IfRead (meaning_of plan words) (IsMeaning plan)
unfolding meaning_of
meaning_known plan words =
    either (is_passed_over words)
    (λ silent. value tt)
    (λ other. statement_known plan words)

line_keeps : (plan : PlanFields) (progress : Progress) (line : List ℕ) → IsProgress plan progress
    → IfRead (after_line plan progress line) (IsProgress plan)
unfolding after_line
line_keeps plan progress line is =
    after (meaning_known plan (words_of line)) (λ meaning good.
    record { keeps = λ next made. still_progress plan progress next meaning is good made })

pub schedule_known : (plan : PlanFields) (text : List ℕ)
    → IfRead (schedule_of plan text) (All (IsWorking plan))
unfolding schedule_of
schedule_known plan text =
    let none : IsProgress plan nothing_yet = record {
      few = omega arith;
      works = All-nil (IsWorking plan);
      noise = tt;
    } in
    after (all_lines (IsProgress plan) (line_keeps plan) 1 nothing_yet (lines_of text) none)
    (λ progress is. value is.works)
