-- The payload of a request, as a word.
use Rattle.std.specs.Prelude.{◌≡◌, ℕ, ◌^◌, ◌==◌, List, [], ◌++◌, length, drop, replicate, Option, option_map, Result, Ok, if◌then◌else◌}
use Rattle.std.specs.Result.{result_ok}
use Rattle.std.specs.Int.{w32, to_le_bytes}
use Rattle.hex.specs.Hex.{decode_sized}
use Rattle.hmc_codes.specs.Bytes.{IsBytes}
use Rattle.hmc_codes.specs.Commands.{payload_len_of}
use Rattle.hmc_codes.specs.Text.{is_mdwr}
use Rattle.hmc_codes.specs.declared.command.Command.{Command}
use Rattle.hmc_codes.specs.declared.command.Command.TheVariants.{Mdwr}
use Rattle.hmc_script.specs.declared.fault.ScriptKind.{ScriptKind}
use Rattle.hmc_script.specs.declared.fault.ScriptKind.TheVariants as kinds
use Rattle.hmc_text.specs.Number.{below, number_of}
use Rattle.hmc_text.specs.Reading.{◌>>=◌, or_fault, next_word, no_word}

-- the bytes are a payload of a request with this command, as IsRequest of hmc_codes requires
pub record IsPayload (command : Command) (payload : List ℕ) : Type 0 where
  pub length : length payload ≡ payload_len_of command
  pub bytes : IsBytes payload
  pub zeros : command ≡ Mdwr → drop 4 payload ≡ replicate 12 0

-- the payload of an mdwr: the value's four bytes and twelve zero bytes
abbrev pub value_bytes : ℕ → List ℕ
value_bytes value = to_le_bytes w32 value ++ replicate 12 0

-- the payload that a word represents: of an mdwr a value below 2^32, else two hexadecimal digits
-- for each byte
unfoldable pub payload_of : Command → List ℕ → Option (List ℕ)
payload_of command word =
    if is_mdwr command then option_map value_bytes (below (2 ^ 32) (number_of word))
    else result_ok (decode_sized word (payload_len_of command))

-- the end of a line, in place of a payload
unfoldable pub no_payload : List (List ℕ) → Result (List ℕ) ScriptKind
no_payload words = do
  end ← no_word kinds.Words words
  Ok []

-- the word of a payload, and the end of a line
unfoldable pub some_payload : Command → List (List ℕ) → Result (List ℕ) ScriptKind
some_payload command words = do
  first ← next_word kinds.Words words
  payload ← or_fault kinds.Payload (payload_of command first.0)
  end ← no_word kinds.Words first.1
  Ok payload

-- the last word of a request, which it has only where its command has a payload
unfoldable pub payload_word : Command → List (List ℕ) → Result (List ℕ) ScriptKind
payload_word command words =
    if payload_len_of command == 0 then no_payload words else some_payload command words
