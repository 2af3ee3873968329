-- The words of a step are read again.
use Rattle.std.proofs.Common.{◌≡◌, ◌<◌, ℕ, Bool, true, false, Some, Ok, List, [], ◌∷◌, ◌++◌, codes, if◌then◌else◌, nat_eq, refl, sym, ap, arith, append-nil}
use Rattle.std.specs.Char.{digit_value}
use Rattle.std.specs.Fmt.{decimal}
use Rattle.std.specs.Prelude.{length}
use Rattle.std.specs.Str.{bytes_eq}
use Rattle.std.specs.Str.Parse.{AllDigits}
use Rattle.std.proofs.lemmas.Bool.Decides.{nat_tests}
use Rattle.std.proofs.lemmas.Fmt.{decimal_is_IsNumeral}
use Rattle.std.proofs.lemmas.Slice.Eq.{bytes_eq-Decides}
use Rattle.hex.specs.Hex.{encode_lower}
use Rattle.hex.proofs.HexLemmas.{decode_sized-encode_lower}
use Rattle.hmc_codes.specs.Flit.{zero_flit, IsFlit}
use Rattle.hmc_codes.specs.Limits.{ports}
use Rattle.hmc_codes.specs.Text.{spaced_words}
use Rattle.hmc_codes.specs.declared.lift.Lift.{Lift}
use Rattle.hmc_codes.specs.declared.lift.Lift.TheVariants as lifts
use Rattle.hmc_text.specs.Number.{number_of}
use Rattle.hmc_text.specs.Reading as reading
use Rattle.hmc_script.proofs.NumberText.{number_of-decimal, below-is}
use Rattle.hmc_script.proofs.RequestWords.{IsWord-decimal, IsWord-encode_lower}
use Rattle.hmc_script.proofs.WordsText.{IsWord, AreWords}
use Rattle.hmc_schedule.specs.declared.meaning.Meaning.TheVariants.{One}
use Rattle.hmc_schedule.specs.declared.step.Step.{Step}
use Rattle.hmc_schedule.specs.declared.step.Step.TheVariants as steps
use Rattle.hmc_schedule.specs.Meaning.{numbered_step, land_of, port_step, spread_of, bank_of, lift_of, step_of, one_of, noise_or_one, statement_of, meaning_of}
use Rattle.hmc_schedule.specs.Operands.{index_word, port_words, vault_words, vault_lift, lift_word, mask_word, mask_words}
use Rattle.hmc_schedule.specs.Plan.{PlanFields, IsStepOf, IsPortOf, IsVaultOf, IsLiftBelow, HasFlit, vaults_at, banks_at, slots}
use Rattle.hmc_schedule.specs.Verb.{verbs, verb_of}
use Rattle.hmc_entries.specs.Lines.{lift_text}
use Rattle.hmc_entries.specs.Parse.{IsStep, IsLift}
use Rattle.hmc_step_text.specs.Text.{mask_text, mask_end, written_words}

-- a number below a limit
number_word-is : (limit n : ℕ) (w : List ℕ) (ws : List (List ℕ)) → number_of w ≡ Some n → n < limit → index_word limit (w ∷ ws) ≡ Ok (n, ws)
unfolding reading.number_word
number_word-is limit n w ws is small = rw (is, below-is limit n small) refl

index_word-is : (limit n : ℕ) (ws : List (List ℕ)) → n < 256 → n < limit → index_word limit (decimal n ∷ ws) ≡ Ok (n, ws)
index_word-is limit n ws fits small = number_word-is limit n (decimal n) ws (number_of-decimal n (omega (arith, fits))) small

-- a cube and its port
port_words-is : (plan : PlanFields) (cube port : ℕ) → (cube < 256) × (port < 256) → IsPortOf plan cube port → port_words plan (decimal cube ∷ decimal port ∷ []) ≡ Ok (cube, port, [])
unfolding port_words
port_words-is plan cube port fits is =
    rw (index_word-is (length plan.cubes) cube (decimal port ∷ []) fits.0 is.some_cube, index_word-is ports port [] fits.1 is.some_port, is.joined) refl

-- a cube and its vault
vault_words-is : (plan : PlanFields) (cube vault : ℕ) (ws : List (List ℕ)) → cube < 256 → vault < 256 → IsVaultOf plan cube vault → vault_words plan (decimal cube ∷ decimal vault ∷ ws) ≡ Ok (cube, vault, ws)
unfolding vault_words
vault_words-is plan cube vault ws fits fits' is =
    rw (index_word-is (length plan.cubes) cube (decimal vault ∷ ws) fits is.some_cube, index_word-is (vaults_at plan cube) vault ws fits' is.some_vault) refl

-- a number isn't the word of the registers
not_r : (d : ℕ) → digit_value d < 10 → nat_eq d 114 ≡ false
not_r d digit = grind (arith, nat_tests)

no_r : (ds : List ℕ) → AllDigits 10 ds → bytes_eq ds (codes "r") ≡ false
no_r [] all = refl
no_r (d ∷ ds) all = rw (not_r d all.0) refl

lift_word-is : (vaults : ℕ) (from : Lift) → IsLift from → IsLiftBelow vaults from → lift_word vaults (lift_text from ∷ []) ≡ Ok (from, [])
unfolding lift_word vault_lift
lift_word-is vaults (lifts.Vault vault) fits below =
    rw (no_r (decimal vault) (decimal_is_IsNumeral vault (omega (arith, fits))).0.1, index_word-is vaults vault [] fits below) refl
lift_word-is vaults lifts.Registers fits below = refl

-- a mask, which is zero where it isn't written
mask_words-is : (mask : List ℕ) → IsFlit mask → mask_words (mask_text mask) ≡ Ok (mask, [])
unfolding mask_words mask_word
mask_words-is mask is = by (bytes_eq mask zero_flit) refl where
  by : (zero : Bool) → bytes_eq mask zero_flit ≡ zero → mask_words (if zero then [] else encode_lower mask ∷ []) ≡ Ok (mask, [])
  by true same = ap (λ (m : List ℕ). Ok (m, [])) (sym ((bytes_eq-Decides mask zero_flit).0 same))
  by false other = rw (decode_sized-encode_lower mask 16 is.long is.bytes) refl

-- each step
pub meaning_of-step : (plan : PlanFields) (step : Step) → IsStep step → IsStepOf plan step → HasFlit step → meaning_of plan (written_words step) ≡ Ok (One step)
unfolding meaning_of statement_of noise_or_one one_of step_of numbered_step land_of port_step spread_of bank_of lift_of verbs verb_of
meaning_of-step plan (steps.Give host) fits within flit = rw (index_word-is plan.hosts host [] fits within) refl
meaning_of-step plan (steps.Send direction) fits within flit = rw (index_word-is plan.directions direction [] fits within) refl
meaning_of-step plan (steps.Land direction mask) fits within flit = rw (index_word-is plan.directions direction (mask_text mask) fits within, mask_words-is mask flit) refl
meaning_of-step plan (steps.Shift cube port) fits within flit = rw (port_words-is plan cube port fits within) refl
meaning_of-step plan (steps.Spread cube vault) fits within flit = rw (vault_words-is plan cube vault [] fits.0 fits.1 within) refl
meaning_of-step plan (steps.Bank cube vault bank) fits within flit = rw (vault_words-is plan cube vault (decimal bank ∷ []) fits.0 fits.1 within.some_vault, index_word-is (banks_at plan cube) bank [] fits.2 within.some_bank) refl
meaning_of-step plan (steps.Registers cube) fits within flit = rw (index_word-is (length plan.cubes) cube [] fits within) refl
meaning_of-step plan (steps.Lift cube from) fits within flit = rw (index_word-is (length plan.cubes) cube (lift_text from ∷ []) fits.0 within.some_cube, lift_word-is (vaults_at plan cube) from fits.1 within.some_lift) refl
meaning_of-step plan (steps.Take host) fits within flit = rw (index_word-is plan.hosts host [] fits within) refl
meaning_of-step plan (steps.Through cube port) fits within flit = rw (port_words-is plan cube port fits within) refl
meaning_of-step plan (steps.Unlock direction) fits within flit = rw (index_word-is plan.directions direction [] fits within) refl
meaning_of-step plan (steps.Retire slot) fits within flit = rw (index_word-is slots slot [] fits within) refl

-- these words are words
word_of_number : (n : ℕ) → n < 256 → IsWord (decimal n)
word_of_number n fits = IsWord-decimal n (omega (arith, fits))

mask_is_word : (b : Bool) (mask : List ℕ) → IsFlit mask → AreWords (if b then [] else encode_lower mask ∷ [])
mask_is_word true mask is = tt
mask_is_word false [] is = let no = is.long in absurd cc
mask_is_word false (b ∷ bs) is = (IsWord-encode_lower b bs, tt)

lift_is_word : (from : Lift) → IsLift from → IsWord (lift_text from)
lift_is_word (lifts.Vault vault) fits = word_of_number vault fits
lift_is_word lifts.Registers fits = record { some = refl; letters = refl }

pub step_are_words : (step : Step) → IsStep step → HasFlit step → AreWords (written_words step)
step_are_words (steps.Give host) fits flit = (record { some = refl; letters = refl }, (word_of_number host fits, tt))
step_are_words (steps.Send direction) fits flit = (record { some = refl; letters = refl }, (word_of_number direction fits, tt))
step_are_words (steps.Land direction mask) fits flit = (record { some = refl; letters = refl }, (word_of_number direction fits, mask_is_word (bytes_eq mask zero_flit) mask flit))
step_are_words (steps.Shift cube port) fits flit = (record { some = refl; letters = refl }, (word_of_number cube fits.0, (word_of_number port fits.1, tt)))
step_are_words (steps.Spread cube vault) fits flit = (record { some = refl; letters = refl }, (word_of_number cube fits.0, (word_of_number vault fits.1, tt)))
step_are_words (steps.Bank cube vault bank) fits flit = (record { some = refl; letters = refl }, (word_of_number cube fits.0, (word_of_number vault fits.1, (word_of_number bank fits.2, tt))))
step_are_words (steps.Registers cube) fits flit = (record { some = refl; letters = refl }, (word_of_number cube fits, tt))
step_are_words (steps.Lift cube from) fits flit = (record { some = refl; letters = refl }, (word_of_number cube fits.0, (lift_is_word from fits.1, tt)))
step_are_words (steps.Take host) fits flit = (record { some = refl; letters = refl }, (word_of_number host fits, tt))
step_are_words (steps.Through cube port) fits flit = (record { some = refl; letters = refl }, (word_of_number cube fits.0, (word_of_number port fits.1, tt)))
step_are_words (steps.Unlock direction) fits flit = (record { some = refl; letters = refl }, (word_of_number direction fits, tt))
step_are_words (steps.Retire slot) fits flit = (record { some = refl; letters = refl }, (word_of_number slot fits, tt))

-- the words of a landing, and its mask at their end
pub land_words : (direction : ℕ) (mask : List ℕ) → spaced_words (codes "land" ∷ decimal direction ∷ mask_text mask) ≡ codes "land" ++ (32 ∷ (decimal direction ++ mask_end mask))
land_words direction mask = by (bytes_eq mask zero_flit) where
  by : (zero : Bool) → spaced_words (codes "land" ∷ decimal direction ∷ (if zero then [] else encode_lower mask ∷ [])) ≡ codes "land" ++ (32 ∷ (decimal direction ++ (if zero then [] else 32 ∷ encode_lower mask)))
  by true = ap (λ (l : List ℕ). codes "land" ++ (32 ∷ l)) (sym (append-nil (decimal direction)))
  by false = refl
