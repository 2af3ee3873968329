-- The words of a request, each of which is read again.
use Rattle.std.proofs.Common.{◌≡◌, ◌∙◌, ◌<◌, ◌≤◌, ℕ, zero, suc, ◌/◌, ◌%◌, ◌^◌, true, false, Some, List, [], ◌∷◌, ◌++◌, length, take, drop, codes, replicate, slice_index, refl, sym, ap, arith, take-append-drop, length-take}
use Rattle.std.proofs.lemmas.Bool.{and_parts}
use Rattle.std.specs.Char.{digit_value}
use Rattle.std.specs.Fmt.{decimal, digits}
use Rattle.std.specs.List.{list_all}
use Rattle.std.specs.Result.{result_ok}
use Rattle.std.specs.Str.{bytes_eq}
use Rattle.std.specs.Str.Parse.{AllDigits, IsNumeral}
use Rattle.std.proofs.lemmas.Nat.{le_bytes_4}
use Rattle.std.proofs.lemmas.Bool.Decides.{nat_tests}
use Rattle.std.proofs.lemmas.Fmt.{digits_is_IsNumeral, decimal_is_IsNumeral}
use Rattle.hex.specs.Hex.{encode_with, encode_lower, lower_digits}
use Rattle.hex.proofs.HexLemmas.{decode_sized-encode_lower}
use Rattle.hmc_codes.specs.Bytes.{IsBytes}
use Rattle.hmc_codes.proofs.BytesLemmas.{IsBytes-take}
use Rattle.hmc_codes.specs.Table.{table_line}
use Rattle.hmc_codes.specs.Codes.{all_commands}
use Rattle.hmc_codes.specs.Commands.{word_of, family_of, payload_len_of}
use Rattle.hmc_codes.specs.Text.{hex_number, is_mdwr, value_in}
use Rattle.hmc_codes.specs.declared.family.Family.TheVariants as families
use Rattle.hmc_codes.specs.declared.command.Command.{Command}
use Rattle.hmc_codes.specs.declared.command.Command.TheVariants.{Null, Pret, Tret, Irtry, RdRs, WrRs, MdRdRs, MdWrRs, Error}
use Rattle.hmc_script.proofs.WordsText.{is_letter, IsWord}
use Rattle.hmc_script.proofs.NumberText.{number_of-decimal, below-is}
use Rattle.hmc_script.specs.Commands.{requests, command_of}
use Rattle.hmc_text.specs.Number.{number_of}
use Rattle.hmc_script.specs.Payload.{payload_of, value_bytes}

-- each command's word is one word, and neither a fence nor poison
pub IsWord-word_of : (command : Command) → IsWord (word_of command)
unfolding table_line
IsWord-word_of Null = record { some = refl; letters = refl }
IsWord-word_of _ = record { some = refl; letters = refl }

pub no_fence : (command : Command) → bytes_eq (word_of command) (codes "fence") ≡ false
unfolding table_line
no_fence Null = refl
no_fence _ = refl

pub no_poison : (command : Command) → bytes_eq (word_of command) (codes "poison") ≡ false
unfolding table_line
no_poison Null = refl
no_poison _ = refl

-- no two requests have one word
pub command_of-word_of : (command : Command) → family_of command ≡ families.Ask → command_of (word_of command) ≡ Some command
unfolding table_line all_commands requests command_of
command_of-word_of Null asks = cc
command_of-word_of Pret asks = cc
command_of-word_of Tret asks = cc
command_of-word_of Irtry asks = cc
command_of-word_of RdRs asks = cc
command_of-word_of WrRs asks = cc
command_of-word_of MdRdRs asks = cc
command_of-word_of MdWrRs asks = cc
command_of-word_of Error asks = cc
command_of-word_of _ asks = refl

digit_is_letter : (c : ℕ) → digit_value c < 16 → is_letter c ≡ true
digit_is_letter c digit = grind (arith, nat_tests)

digits_are_letters : (base : ℕ) (ds : List ℕ) → base ≤ 16 → AllDigits base ds → list_all is_letter ds ≡ true
digits_are_letters base [] small all = refl
digits_are_letters base (c ∷ cs) small all =
    rw (digit_is_letter c (omega (arith, all.0)), digits_are_letters base cs small all.1) refl

numeral_is_word : (base : ℕ) (ds : List ℕ) → base ≤ 16 → IsNumeral base ds → IsWord ds
numeral_is_word base [] small numeral = absurd (omega (arith, numeral.0))
numeral_is_word base (c ∷ cs) small numeral = record { some = refl; letters = digits_are_letters base (c ∷ cs) small numeral.1 }

pub IsWord-decimal : (n : ℕ) → n < 2 ^ 64 → IsWord (decimal n)
IsWord-decimal n small = numeral_is_word 10 (decimal n) (omega arith) (decimal_is_IsNumeral n small).0

pub IsWord-hex_number : (n : ℕ) → n < 2 ^ 34 → IsWord (hex_number n)
IsWord-hex_number n small =
    record { some = refl; letters = (numeral_is_word 16 (digits 16 false n) (omega arith) (digits_is_IsNumeral 16 false (omega arith) (omega arith) n (omega arith)).0).letters }

letter_at : (xs : List ℕ) (k : ℕ) → list_all is_letter xs ≡ true → is_letter (slice_index xs k) ≡ true
letter_at [] k all = refl
letter_at (x ∷ xs) zero all = (and_parts (is_letter x) (list_all is_letter xs) all).0
letter_at (x ∷ xs) (suc k) all = letter_at xs k (and_parts (is_letter x) (list_all is_letter xs) all).1

hex_letters : (bytes : List ℕ) → list_all is_letter (encode_with lower_digits bytes) ≡ true
unfolding encode_with
hex_letters [] = refl
hex_letters (b ∷ bs) = rw (letter_at lower_digits (b / 16) refl, letter_at lower_digits (b % 16) refl, hex_letters bs) refl

pub IsWord-encode_lower : (b : ℕ) (bs : List ℕ) → IsWord (encode_lower (b ∷ bs))
unfolding encode_with
IsWord-encode_lower b bs = record { some = refl; letters = hex_letters (b ∷ bs) }

pub value_in-lt : (payload : List ℕ) → IsBytes payload → value_in payload < 2 ^ 32
value_in-lt payload bytes =
    let fits = IsBytes-take 4 payload bytes in omega (arith, fits 0, fits 1, fits 2, fits 3)

value_bytes-value_in : (payload : List ℕ) → length payload ≡ 16 → IsBytes payload → drop 4 payload ≡ replicate 12 0 → value_bytes (value_in payload) ≡ payload
value_bytes-value_in payload long bytes zeros =
    let four : length (take 4 payload) ≡ 4 = omega (arith, length-take 4 payload) in
    ap (λ l. l ++ replicate 12 0) (le_bytes_4 (take 4 payload) (value_in payload) four (IsBytes-take 4 payload bytes) refl) ∙ ap (λ l. take 4 payload ++ l) (sym zeros) ∙ take-append-drop 4 payload

-- the payload of an mdwr is read again from its value
pub payload_of-value : (command : Command) (payload : List ℕ) → is_mdwr command ≡ true → length payload ≡ 16 → IsBytes payload → drop 4 payload ≡ replicate 12 0 → payload_of command (decimal (value_in payload)) ≡ Some payload
unfolding payload_of
payload_of-value command payload mdwr long bytes zeros =
    let small = value_in-lt payload bytes in
    let number : number_of (decimal (value_in payload)) ≡ Some (value_in payload) = number_of-decimal (value_in payload) (omega (arith, small)) in
    rw (mdwr, number, below-is (2 ^ 32) (value_in payload) small) (ap Some (value_bytes-value_in payload long bytes zeros))

-- any other payload is read again from its digits
pub payload_of-digits : (command : Command) (payload : List ℕ) → is_mdwr command ≡ false → length payload ≡ payload_len_of command → IsBytes payload → payload_of command (encode_lower payload) ≡ Some payload
unfolding payload_of
payload_of-digits command payload other long bytes =
    rw other (ap result_ok (decode_sized-encode_lower payload (payload_len_of command) long bytes))
