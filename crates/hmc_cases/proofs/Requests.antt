-- Each request that words name keeps what every request keeps.
use Rattle.std.proofs.Common.{◌≡◌, ◌≤◌, ◌<◌, ◌^◌, ◌==◌, ℕ, false, Option, Some, None, IfSome, option_map, List, replicate, refl, arith}
use Rattle.std.proofs.lemmas.Bool.{cond_both, eqb-true}
use Rattle.std.specs.Int.{w32, to_le_bytes}
use Rattle.std.specs.Result.{result_ok}
use Rattle.hex.specs.Hex.{decode_sized}
use Rattle.hmc_codes.proofs.BytesLemmas.{IsBytes-append, IsBytes-zeros, IsBytes-low}
use Rattle.hmc_codes.specs.Commands.{family_of, payload_len_of}
use Rattle.hmc_codes.specs.Limits.{most_cubes}
use Rattle.hmc_codes.specs.Request.{RequestFields, IsRequest}
use Rattle.hmc_codes.specs.Text.{is_mdwr}
use Rattle.hmc_codes.specs.declared.command.Command.{Command}
use Rattle.hmc_codes.specs.declared.command.Command.TheVariants.{Mdwr}
use Rattle.hmc_codes.specs.declared.family.Family.TheVariants as families
use Rattle.hmc_text.specs.Number.{below, number_of}
use Rattle.hmc_text.specs.Reading.{next_word, no_word}
use Rattle.hmc_script.proofs.CommandLemmas.{command_of_asks}
use Rattle.hmc_script.proofs.PayloadLemmas as payloads
use Rattle.hmc_script.proofs.PayloadLemmas.{is_mdwr-only, IsPayload-[], payload_of_another, payload_of_mdwr}
use Rattle.hmc_script.specs.Commands.{command_of}
use Rattle.hmc_script.specs.Meaning.{number_word, command_word, request_of}
use Rattle.hmc_script.specs.Payload.{IsPayload, value_bytes, payload_of, no_payload, some_payload, payload_word}
use Rattle.hmc_script.specs.declared.fault.ScriptKind.{ScriptKind}
use Rattle.hmc_script.specs.declared.fault.ScriptKind.TheVariants as kinds
use Rattle.hmc_cases.proofs.Digits.{AreBytes, digits_known}
use Rattle.hmc_cases.proofs.Reading.{IfRead, value, after, after_any, either, some_value, number_small}

-- the payload of a value
value_fits : (number : Option ℕ) → IfSome (option_map value_bytes number) (IsPayload Mdwr)
value_fits None = tt
value_fits (Some number) =
    let low = IsBytes-low 0 4 number in
    payloads.value_fits number (value_bytes number) refl
    (IsBytes-append (to_le_bytes w32 number) (replicate 12 0) low (IsBytes-zeros 12))

-- the payload of digits
digits_fit : (command : Command) (payload : Option (List ℕ)) → is_mdwr command ≡ false
    → IfSome payload (AreBytes (payload_len_of command)) → IfSome payload (IsPayload command)
digits_fit command None other known = tt
digits_fit command (Some bytes) other known =
    payload_of_another (λ (p : List ℕ). p) command (Some bytes) other known.long known.bytes

payload_fits : (command : Command) (word : List ℕ)
    → IfSome (payload_of command word) (IsPayload command)
unfolding payload_of
payload_fits command word =
    let number = below (2 ^ 32) (number_of word) in
    let value = option_map value_bytes number in
    let digits = result_ok (decode_sized word (payload_len_of command)) in
    cond_both (is_mdwr command) value digits
    (λ (payload : Option (List ℕ)). IfSome payload (IsPayload command))
    (λ is. payload_of_mdwr (λ (p : List ℕ). p) command value (is_mdwr-only command is) (value_fits number))
    (λ other. digits_fit command digits other (digits_known word (payload_len_of command)))

payload_known : (command : Command) (words : List (List ℕ))
    → IfRead (payload_word command words) (IsPayload command)
unfolding payload_word no_payload some_payload
payload_known command words =
    either (payload_len_of command == 0)
    (λ none.
    after_any (no_word kinds.Words words) (λ end.
    value (IsPayload-[] command (eqb-true (payload_len_of command) 0 none))))
    (λ some.
    after_any (next_word kinds.Words words) (λ first.
    let payload = payload_of command first.0 in
    after (some_value kinds.Payload payload (payload_fits command first.0)) (λ payload fits.
    after_any (no_word kinds.Words first.1) (λ end.
    value fits))))

-- a number of a request
pub number_known : (kind : ScriptKind) (limit : ℕ) (words : List (List ℕ))
    → IfRead (number_word kind limit words) (λ number. number.0 < limit)
number_known kind limit words = number_small kinds.Words kind kind limit words

-- each word of a command is that of a request
command_asks : (words : List (List ℕ))
    → IfRead (command_word words) (λ command. family_of command.0 ≡ families.Ask)
unfolding command_word
command_asks words =
    let Asks : Command → Type 0 = λ command. family_of command ≡ families.Ask in
    after_any (next_word kinds.Words words) (λ first.
    let command = command_of first.0 in
    let asks = command_of_asks first.0 command refl in
    after (some_value {P = Asks} kinds.Command command asks) (λ command is.
    value is))

-- a request of a case with so many cubes
pub record IsRequestFor (cubes : ℕ) (request : RequestFields) : Type 0 where
  pub good : IsRequest request
  pub within : request.cube < cubes

pub request_known : (cubes : ℕ) (words : List (List ℕ)) → cubes ≤ most_cubes
    → IfRead (request_of cubes words) (IsRequestFor cubes)
unfolding request_of
request_known cubes words few =
    after (command_asks words) (λ command asks.
    after (number_known kinds.Cube cubes command.1) (λ cube within.
    after (number_known kinds.Address (2 ^ 34) cube.1) (λ address small.
    after (payload_known command.0 address.1) (λ payload fits.
    value (record {
      good = record {
        asks = asks;
        cube = omega (arith, within, few);
        address = small;
        payload = fits.length;
        bytes = fits.bytes;
        zeros = fits.zeros;
      };
      within = within;
    })))))
