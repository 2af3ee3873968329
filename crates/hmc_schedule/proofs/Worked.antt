-- Definitions computed at a plan of two cubes: the second has one vault, four banks, and a link at port 1 alone.
use Rattle.std.proofs.Common.{◌≡◌, ◌∙◌, ◌<◌, ◌+◌, ◌%◌, ℕ, zero, suc, List, length, nat_le, [], ◌∷◌, ◌++◌, Some, None, Result, Ok, Err, filter, replicate, slice_get, true, false, refl, ap, arith}
use Rattle.std.proofs.lemmas.Bool.Decides.{nat_tests}
use Rattle.std.specs.Prelude.{codes, map}
use Rattle.std.proofs.lemmas.List.Elements.{All-nil, All-cons}
use Rattle.hex.specs.Hex.{decode_pairs}
use Rattle.hmc_codes.specs.declared.lift.Lift.TheVariants as lifts
use Rattle.hmc_text.specs.InTurn.{after_lines}
use Rattle.hmc_text.specs.Lines.{lines_of}
use Rattle.hmc_text.specs.Number.{number_after, number_in, number_of}
use Rattle.hmc_text.specs.Reading.{◌>>=◌, number_word}
use Rattle.hmc_text.specs.Words.{words_of}
use Rattle.hmc_schedule.specs.declared.fault.ScheduleKind.{ScheduleKind}
use Rattle.hmc_schedule.specs.declared.fault.ScheduleKind.TheVariants as kinds
use Rattle.hmc_schedule.specs.declared.meaning.Meaning.{Meaning}
use Rattle.hmc_schedule.specs.declared.meaning.Meaning.TheVariants as meanings
use Rattle.hmc_schedule.specs.declared.round.Each.TheVariants as each
use Rattle.hmc_schedule.specs.declared.step.Step.{Step}
use Rattle.hmc_schedule.specs.declared.step.Step.TheVariants as steps
use Rattle.hmc_schedule.specs.declared.verb.Verb.TheVariants as verbs
use Rattle.hmc_schedule.specs.declared.written.Rounds.{Rounds}
use Rattle.hmc_schedule.specs.declared.written.Held.TheVariants as held
use Rattle.hmc_schedule.specs.declared.written.Segment.{Segment}
use Rattle.hmc_schedule.specs.declared.written.Stretch.TheVariants as stretches
use Rattle.hmc_schedule.specs.Meaning.{numbered_step, land_of, port_step, spread_of, bank_of, lift_of, step_of, one_of, rounds_meaning, noise_end, noise_begin, noise_meaning, noise_or_one, statement_of, meaning_of}
use Rattle.hmc_schedule.specs.Operands.{port_words, vault_words, vault_lift, lift_word, mask_word, mask_words, due_mask, count_word}
use Rattle.hmc_schedule.specs.Plan.{PlanFields, IsPlan, IsStepOf, HasFlit}
use Rattle.hmc_codes.specs.Flit.{zero_flit}
use Rattle.hmc_schedule.specs.Round.{shifts_of, spreads_of, banks_of, lifts_of, each_of, round_of, rounds_of}
use Rattle.hmc_schedule.specs.Noise.{is_land, noisy, IsNoise}
use Rattle.hmc_schedule.specs.Schedule.{add_steps, add_rounds, add_one, after_line, schedule_of, IsSchedule}
use Rattle.hmc_schedule.specs.Verb.{verbs as all_verbs, verb_of}
use Rattle.hmc_schedule.specs.StepsLeft.{AreRepeated, IsHand, TakesFirst, TakesKept}
use Rattle.hmc_schedule.specs.Written.{WrittenFields, Kept, kept_of, held_of, steps_in, IsKept, IsWritten}

abbrev two_cubes : PlanFields
two_cubes = record {
  hosts = 1;
  directions = 4;
  cubes =
      record { shape = record { vault_bits = 1; bank_bits = 0; rows = 1; block = 256 }; ports = true ∷ false ∷ true ∷ false ∷ [] } ∷
      record { shape = record { vault_bits = 0; bank_bits = 2; rows = 1; block = 256 }; ports = false ∷ true ∷ false ∷ false ∷ [] } ∷ [];
}

-- one kind after another, and in each kind by ascending numbers
round_of-two_cubes : round_of two_cubes ≡
    steps.Give 0 ∷ steps.Send 0 ∷ steps.Send 1 ∷ steps.Send 2 ∷ steps.Send 3 ∷
    steps.Land 0 zero_flit ∷ steps.Land 1 zero_flit ∷ steps.Land 2 zero_flit ∷ steps.Land 3 zero_flit ∷
    steps.Shift 0 0 ∷ steps.Shift 0 2 ∷ steps.Shift 1 1 ∷ steps.Spread 0 0 ∷ steps.Spread 0 1 ∷ steps.Spread 1 0 ∷
    steps.Bank 0 0 0 ∷ steps.Bank 0 1 0 ∷ steps.Bank 1 0 0 ∷ steps.Bank 1 0 1 ∷ steps.Bank 1 0 2 ∷ steps.Bank 1 0 3 ∷
    steps.Registers 0 ∷ steps.Registers 1 ∷ steps.Lift 0 (lifts.Vault 0) ∷ steps.Lift 0 (lifts.Vault 1) ∷ steps.Lift 0 lifts.Registers ∷
    steps.Lift 1 (lifts.Vault 0) ∷ steps.Lift 1 lifts.Registers ∷ steps.Take 0 ∷ []
unfolding round_of shifts_of spreads_of banks_of lifts_of
round_of-two_cubes = refl

-- what a number of each kind does in a round: a landing changes nothing
each_of-rows : map (λ kind. each_of kind 3) (each.Give ∷ each.Send ∷ each.Land ∷ each.Registers ∷ each.Take ∷ []) ≡
    steps.Give 3 ∷ steps.Send 3 ∷ steps.Land 3 zero_flit ∷ steps.Registers 3 ∷ steps.Take 3 ∷ []
each_of-rows = refl

-- a packet that still arrives goes on: a cube and a joined port
step_of-through : step_of two_cubes verbs.Through (codes "1" ∷ codes "1" ∷ codes "x" ∷ []) ≡ Ok (steps.Through 1 1, codes "x" ∷ [])
unfolding step_of port_step port_words number_word number_of number_in number_after
step_of-through = refl

step_of-unjoined : step_of two_cubes verbs.Through (codes "1" ∷ codes "0" ∷ []) ≡ Err kinds.Range
unfolding step_of port_step port_words number_word number_of number_in number_after
step_of-unjoined = refl

step_of-unlock : map (λ direction. step_of two_cubes verbs.Unlock (direction ∷ [])) (codes "3" ∷ codes "4" ∷ codes "r" ∷ []) ≡
    Ok (steps.Unlock 3, []) ∷ Err kinds.Range ∷ Err kinds.Number ∷ []
unfolding step_of numbered_step number_word number_of number_in number_after
step_of-unlock = refl

step_of-retire : map (λ slot. step_of two_cubes verbs.Retire (slot ∷ [])) (codes "7" ∷ codes "8" ∷ []) ≡ Ok (steps.Retire 7, []) ∷ Err kinds.Range ∷ []
unfolding step_of numbered_step number_word number_of number_in number_after
step_of-retire = refl

one_of-rows : map (λ first. one_of two_cubes first (codes "0" ∷ codes "2" ∷ [])) (codes "through" ∷ codes "shift" ∷ codes "unlock" ∷ codes "Through" ∷ []) ≡
    Ok (meanings.One (steps.Through 0 2)) ∷ Ok (meanings.One (steps.Shift 0 2)) ∷ Err kinds.Words ∷ Err kinds.Step ∷ []
unfolding one_of verb_of all_verbs step_of numbered_step port_step port_words number_word number_of number_in number_after
one_of-rows = refl

count_word-ends : map (λ count. count_word (count ∷ [])) (codes "0" ∷ codes "1" ∷ codes "1000000" ∷ codes "1000001" ∷ []) ≡
    Err kinds.Range ∷ Ok (1, []) ∷ Ok (1000000, []) ∷ Err kinds.Range ∷ []
unfolding count_word number_word number_of number_in number_after
count_word-ends = refl

-- two masks; a mask of too few digits and one with a sign that is no digit
abbrev last_bit : List ℕ
last_bit = replicate 15 0 ++ 1 ∷ []

abbrev first_byte : List ℕ
first_byte = 175 ∷ replicate 15 0

mask_word-rows : map mask_word (codes "00000000000000000000000000000001" ∷ codes "aF000000000000000000000000000000" ∷ codes "00" ∷ codes "0x000000000000000000000000000000" ∷ []) ≡
    Ok last_bit ∷ Ok first_byte ∷ Err kinds.Mask ∷ Err kinds.Mask ∷ []
unfolding mask_word decode_pairs
mask_word-rows = refl

-- the words after `noise`, judged from left to right
abbrev noise_meanings : List (List (List ℕ)) → List (Result Meaning ScheduleKind)
noise_meanings rows = map noise_meaning rows

noise_meaning-good : noise_meanings ((codes "off" ∷ []) ∷ (codes "1000000" ∷ codes "00000000000000000000000000000001" ∷ []) ∷ []) ≡
    Ok (meanings.Noisy None) ∷ Ok (meanings.Noisy (Some (record { every = 1000000; mask = last_bit; count = 0 }))) ∷ []
unfolding noise_meaning noise_end noise_begin count_word due_mask mask_word decode_pairs number_word number_of number_in number_after
noise_meaning-good = refl

noise_meaning-words : noise_meanings ([] ∷ (codes "5" ∷ []) ∷ (codes "off" ∷ codes "5" ∷ []) ∷ (codes "5" ∷ codes "00000000000000000000000000000001" ∷ codes "off" ∷ []) ∷ []) ≡
    Err kinds.Words ∷ Err kinds.Words ∷ Err kinds.Words ∷ Err kinds.Words ∷ []
unfolding noise_meaning noise_end noise_begin count_word due_mask mask_word decode_pairs number_word number_of number_in number_after
noise_meaning-words = refl

noise_meaning-other : noise_meanings ((codes "Off" ∷ []) ∷ (codes "0" ∷ codes "00" ∷ []) ∷ (codes "1000001" ∷ []) ∷ (codes "5" ∷ codes "00" ∷ codes "off" ∷ []) ∷ []) ≡
    Err kinds.Number ∷ Err kinds.Range ∷ Err kinds.Range ∷ Err kinds.Mask ∷ []
unfolding noise_meaning noise_end noise_begin count_word due_mask mask_word decode_pairs number_word number_of number_in number_after
noise_meaning-other = refl

-- the last step that a schedule has room for, and the one after it
add_steps-last : (before : List Step) → length before ≡ 999999 → add_steps before (steps.Give 0 ∷ []) ≡ Ok (before ++ steps.Give 0 ∷ [])
unfolding add_steps
add_steps-last before is = let room : nat_le (length before + 1) 1000000 ≡ true = grind (arith, nat_tests) in rw room refl

add_steps-many : (before : List Step) → length before ≡ 1000000 → add_steps before (steps.Give 0 ∷ []) ≡ Err kinds.Steps
unfolding add_steps
add_steps-many before is = let full : nat_le (length before + 1) 1000000 ≡ false = grind (arith, nat_tests) in rw full refl

-- what no plan is: one without a host, and one with too many directions
IsPlan-no_host : IsPlan (record two_cubes { hosts = 0 }) → ⊥
IsPlan-no_host is = omega (arith, is.some_hosts)

IsPlan-many_directions : IsPlan (record two_cubes { directions = 65 }) → ⊥
IsPlan-many_directions is = omega (arith, is.directions)

IsStepOf-bank : IsStepOf two_cubes (steps.Bank 1 0 3)
IsStepOf-bank = record { some_vault = record { some_cube = omega arith; some_vault = omega arith }; some_bank = omega arith }

-- a bank of the other cube's vaults, a port that no link joins, a slot past the last
IsStepOf-no_vault : IsStepOf two_cubes (steps.Bank 1 1 0) → ⊥
IsStepOf-no_vault is = omega (arith, is.some_vault.some_vault)

IsStepOf-unjoined : IsStepOf two_cubes (steps.Shift 1 0) → ⊥
IsStepOf-unjoined is = cc (is.joined)

IsStepOf-no_slot : IsStepOf two_cubes (steps.Retire 8) → ⊥
IsStepOf-no_slot is = omega (arith, is)

schedule_of-good : schedule_of two_cubes (codes "land 3" ++ 10 ∷ codes "# none" ++ 10 ∷ codes "lift 1 r" ++ 10 ∷ codes "bank 1 0 3") ≡
    Ok (steps.Land 3 zero_flit ∷ steps.Lift 1 lifts.Registers ∷ steps.Bank 1 0 3 ∷ [])
unfolding schedule_of after_lines after_line add_steps add_one lines_of words_of meaning_of statement_of noise_or_one one_of verb_of all_verbs step_of land_of bank_of lift_of vault_words lift_word mask_words number_word number_of number_in number_after
schedule_of-good = refl

schedule_of-fault : schedule_of two_cubes (codes "spread 1 0" ++ 10 ∷ codes "lift 1 1" ++ 10 ∷ codes "jump") ≡ Err (2, kinds.Range)
unfolding schedule_of after_lines after_line add_steps add_one lines_of words_of meaning_of statement_of noise_or_one one_of verb_of all_verbs step_of spread_of lift_of vault_words lift_word vault_lift number_word number_of number_in number_after
schedule_of-fault = refl

-- one host, one link, and a cube of one vault and one bank: a round lands twice
abbrev one_cube : PlanFields
one_cube = record {
  hosts = 1;
  directions = 2;
  cubes = record { shape = record { vault_bits = 0; bank_bits = 0; rows = 1; block = 256 }; ports = true ∷ false ∷ false ∷ false ∷ [] } ∷ [];
}

-- in a round each second landing has the mask, and no other step changes
schedule_of-noisy_round : schedule_of one_cube (codes "noise 2 00000000000000000000000000000001" ++ 10 ∷ codes "round 1") ≡
    Ok (steps.Give 0 ∷ steps.Send 0 ∷ steps.Send 1 ∷ steps.Land 0 zero_flit ∷ steps.Land 1 last_bit ∷ steps.Shift 0 0 ∷ steps.Spread 0 0 ∷ steps.Bank 0 0 0 ∷
    steps.Registers 0 ∷ steps.Lift 0 (lifts.Vault 0) ∷ steps.Lift 0 lifts.Registers ∷ steps.Take 0 ∷ [])
unfolding schedule_of after_lines after_line add_steps add_rounds lines_of words_of meaning_of statement_of rounds_meaning noise_or_one noise_meaning noise_begin count_word due_mask mask_word decode_pairs number_word number_of number_in number_after rounds_of round_of shifts_of spreads_of banks_of lifts_of noisy
schedule_of-noisy_round = refl

-- the landings alone of a schedule
abbrev landings : List ℕ → Result (List Step) (ℕ × ScheduleKind)
landings text = schedule_of one_cube text >>= (λ all. Ok (filter is_land all))

-- The count goes on over both directions, the ends of rounds, and landings outside rounds, which are
-- not counted and keep their own masks.
landings-over_rounds : landings (codes "noise 3 00000000000000000000000000000001" ++ 10 ∷ codes "round 2" ++ 10 ∷ codes "land 1" ++ 10 ∷ codes "land 0 af000000000000000000000000000000" ++ 10 ∷ codes "round 1") ≡
    Ok (steps.Land 0 zero_flit ∷ steps.Land 1 zero_flit ∷ steps.Land 0 last_bit ∷ steps.Land 1 zero_flit ∷
    steps.Land 1 zero_flit ∷ steps.Land 0 first_byte ∷ steps.Land 0 zero_flit ∷ steps.Land 1 last_bit ∷ [])
unfolding schedule_of after_lines after_line add_steps add_rounds add_one lines_of words_of meaning_of statement_of rounds_meaning noise_or_one one_of verb_of all_verbs step_of land_of noise_meaning noise_begin count_word due_mask mask_words mask_word decode_pairs number_word number_of number_in number_after rounds_of round_of shifts_of spreads_of banks_of lifts_of noisy zero_flit
landings-over_rounds = refl

-- a second `noise` line begins to count anew, and `noise off` ends it
landings-anew : landings (codes "noise 2 00000000000000000000000000000001" ++ 10 ∷ codes "round 1" ++ 10 ∷ codes "noise 3 af000000000000000000000000000000" ++ 10 ∷ codes "round 2" ++ 10 ∷ codes "noise off" ++ 10 ∷ codes "round 1") ≡
    Ok (steps.Land 0 zero_flit ∷ steps.Land 1 last_bit ∷ steps.Land 0 zero_flit ∷ steps.Land 1 zero_flit ∷
    steps.Land 0 first_byte ∷ steps.Land 1 zero_flit ∷ steps.Land 0 zero_flit ∷ steps.Land 1 zero_flit ∷ [])
unfolding schedule_of after_lines after_line add_steps add_rounds lines_of words_of meaning_of statement_of rounds_meaning noise_or_one noise_meaning noise_begin noise_end count_word due_mask mask_word decode_pairs number_word number_of number_in number_after rounds_of round_of shifts_of spreads_of banks_of lifts_of noisy zero_flit
landings-anew = refl

-- two rounds of two steps, and then a step
abbrev give_take : List Step
give_take = steps.Give 0 ∷ steps.Take 0 ∷ []

abbrev two_rounds : Rounds
two_rounds = record { round = record { start = 0; len = 2; lands = 0 }; count = 2; noise = None }

abbrev give_take_twice : Kept
give_take_twice = kept_of give_take (two_rounds ∷ [])

abbrev rounds_and_send : ℕ → List Segment
rounds_and_send start = record { start = 0; held = held.Many 0 } ∷ record { start = start; held = held.One (steps.Send 1) } ∷ []

steps_in-rounds_and_send : steps_in give_take_twice (rounds_and_send 4) ≡ steps.Give 0 ∷ steps.Take 0 ∷ steps.Give 0 ∷ steps.Take 0 ∷ steps.Send 1 ∷ []
unfolding steps_in
steps_in-rounds_and_send = refl

-- how a segment holds rounds after those of one line, and a step
held_of-rounds : held_of 1 (stretches.Many two_rounds) ≡ held.Many 1
held_of-rounds = refl

held_of-step : held_of 1 (stretches.One (steps.Send 1)) ≡ held.One (steps.Send 1)
held_of-step = refl

-- what is never kept: a segment that begins too early, a wrong number of steps, rounds that are not
-- there, more lines with rounds than steps, a round past the end
IsWritten-early : IsWritten give_take_twice (rounds_and_send 3) 5 → ⊥
unfolding steps_in
IsWritten-early is = omega (arith, is.starts 1 (record { start = 0; held = held.Many 0 }) (omega arith))

IsWritten-wrong_total : IsWritten give_take_twice (rounds_and_send 4) 4 → ⊥
unfolding steps_in
IsWritten-wrong_total is = omega (arith, is.total)

IsWritten-no_rounds : IsWritten (kept_of give_take []) (record { start = 0; held = held.Many 0 } ∷ []) 0 → ⊥
IsWritten-no_rounds is = is.held 0 (record { start = 0; held = held.Many 0 }) (omega arith)

IsWritten-many_lines : IsWritten give_take_twice [] 0 → ⊥
IsWritten-many_lines is = omega (arith, is.some)

IsKept-past_the_end : IsKept give_take (record { start = 1; len = 2; lands = 0 }) → ⊥
IsKept-past_the_end is = omega (arith, is.inside)

-- noise that gives no landing a mask, one that counted more landings than there are steps
IsNoise-never : IsNoise 5 (record { every = 0; mask = last_bit; count = 0 }) → ⊥
IsNoise-never is = omega (arith, is.some)

IsNoise-many : IsNoise 5 (record { every = 1; mask = last_bit; count = 6 }) → ⊥
IsNoise-many is = omega (arith, is.few)

-- what is a schedule, and what is not: a mask of one byte
IsSchedule-send : IsSchedule (steps.Send 1 ∷ [])
IsSchedule-send = record { few = omega arith; masks = All-cons HasFlit (steps.Send 1) [] tt (All-nil HasFlit) }

IsSchedule-short_mask : IsSchedule (steps.Land 0 (0 ∷ []) ∷ []) → ⊥
IsSchedule-short_mask is =
    let mask : HasFlit (steps.Land 0 (0 ∷ [])) = is.masks 0 (steps.Give 0) (omega arith) in
    omega (arith, mask.long)

-- ---- steps taken off one after another

TakesFirst-first : TakesFirst (steps.Give 0 ∷ steps.Take 1 ∷ []) (Some (steps.Give 0)) (steps.Take 1 ∷ [])
TakesFirst-first = refl

-- not the second one, and none only where none is left
TakesFirst-second : TakesFirst (steps.Give 0 ∷ steps.Take 1 ∷ []) (Some (steps.Take 1)) (steps.Give 0 ∷ []) → ⊥
TakesFirst-second is = absurd cc

TakesFirst-none : TakesFirst (steps.Give 0 ∷ []) None [] → ⊥
TakesFirst-none is = absurd (cc (is.0))

-- two rounds of two steps, from the second step on: the round's second step comes next
abbrev same_round_twice : WrittenFields
same_round_twice = record {
  kept = steps.Give 0 ∷ steps.Take 0 ∷ [];
  steps = steps.Give 0 ∷ steps.Take 0 ∷ steps.Give 0 ∷ steps.Take 0 ∷ steps.Send 0 ∷ [];
}

AreRepeated-same_round_twice : AreRepeated same_round_twice 1 (record { from = 0; next = 1; end = 2; until = 4 })
AreRepeated-same_round_twice = record {
  len = 2;
  place = 1;
  next_is = refl;
  end_is = refl;
  small = omega arith;
  inside = omega arith;
  few = omega arith;
  each = each;
} where
  each : (k : ℕ) → 1 + k < 4 → slice_get same_round_twice.steps (1 + k) ≡ slice_get same_round_twice.kept (0 + (1 + k) % 2)
  each zero below = refl
  each (suc zero) below = refl
  each (suc (suc zero)) below = refl
  each (suc (suc (suc k))) below = absurd (omega (arith, below))

-- the step after them is none of the round, and from the second step on the first one doesn't come next
AreRepeated-until : AreRepeated same_round_twice 4 (record { from = 0; next = 0; end = 2; until = 5 }) → ⊥
AreRepeated-until is =
    let len : is.len ≡ 2 = omega (arith, is.end_is) in
    let place : is.place ≡ 0 = omega (arith, is.next_is) in
    let first : Some (steps.Send 0) ≡ slice_get same_round_twice.kept (0 + (0 + 0) % 2) = is.each 0 (omega arith) ∙ ap (λ p. slice_get same_round_twice.kept (0 + (p + 0) % is.len)) place ∙ ap (λ n. slice_get same_round_twice.kept (0 + (0 + 0) % n)) len in
    absurd cc

-- the round's second step is at hand, and after it the round comes once more
IsHand-second : IsHand same_round_twice (record { place = 1; end = 2; until = 2; later = record { from = 0; next = 0; end = 2; until = 4 } })
IsHand-second = record {
  near = omega arith;
  ahead = omega arith;
  inside = λ some. omega arith;
  each = each;
  later = λ more. record {
    len = 2;
    place = 0;
    next_is = refl;
    end_is = refl;
    small = omega arith;
    inside = omega arith;
    few = omega arith;
    each = again;
  };
} where
  each : (k : ℕ) → 1 + k < 2 → slice_get same_round_twice.steps (1 + k) ≡ slice_get same_round_twice.kept (1 + k)
  each zero below = refl
  each (suc k) below = absurd (omega (arith, below))

  again : (k : ℕ) → 2 + k < 4 → slice_get same_round_twice.steps (2 + k) ≡ slice_get same_round_twice.kept (0 + (0 + k) % 2)
  again zero below = refl
  again (suc zero) below = refl
  again (suc (suc k)) below = absurd (omega (arith, below))

-- not the first one, where the second comes next
IsHand-first : IsHand same_round_twice (record { place = 0; end = 1; until = 2; later = record { from = 0; next = 0; end = 0; until = 0 } }) → ⊥
IsHand-first is =
    let first : Some (steps.Take 0) ≡ Some (steps.Give 0) = is.each 0 (omega arith) in
    absurd cc

-- a step that was taken is the one that is kept at the place
abbrev after_first : WrittenFields
after_first = record {
  kept = steps.Give 0 ∷ steps.Take 0 ∷ [];
  steps = steps.Take 0 ∷ steps.Give 0 ∷ steps.Take 0 ∷ steps.Send 0 ∷ [];
}

TakesKept-first : TakesKept same_round_twice 0 after_first
TakesKept-first = record { step = steps.Give 0; is = refl; small = omega arith; first = refl; kept = refl }

TakesKept-second : TakesKept same_round_twice 1 after_first → ⊥
TakesKept-second is =
    let place : Some (steps.Take 0) ≡ Some is.step = is.is in
    let first : steps.Give 0 ≡ is.step = cc is.first in
    absurd cc
