-- The request that the words of a report's line begin with.
use Rattle.std.specs.Prelude.{ℕ, ◌^◌, ◌==◌, List, [], Option, Some, if◌then◌else◌}
use Rattle.hmc_codes.specs.Commands.{payload_len_of}
use Rattle.hmc_codes.specs.Limits.{most_cubes}
use Rattle.hmc_codes.specs.Request.{RequestFields}
use Rattle.hmc_codes.specs.declared.command.Command.{Command}
use Rattle.hmc_text.specs.Words.{first_word}
use Rattle.hmc_words.specs.Taking.{◌>>=◌, take_number}
use Rattle.hmc_script.specs.Commands.{command_of}
use Rattle.hmc_script.specs.Payload.{payload_of}

-- the word of a request, and the words after it
unfoldable pub take_command : List (List ℕ) → Option (Command × List (List ℕ))
take_command words = do
  first ← first_word words
  command ← command_of first.0
  Some (command, first.1)

-- the word of a payload, and the words after it
unfoldable pub take_operand : Command → List (List ℕ) → Option (List ℕ × List (List ℕ))
take_operand command words = do
  first ← first_word words
  payload ← payload_of command first.0
  Some (payload, first.1)

-- a payload, which has a word only where the command has one
unfoldable pub take_payload : Command → List (List ℕ) → Option (List ℕ × List (List ℕ))
take_payload command words =
    if payload_len_of command == 0 then Some ([], words) else take_operand command words

-- a command, a cube, an address and, where the command has one, a payload
unfoldable pub take_request : List (List ℕ) → Option (RequestFields × List (List ℕ))
take_request words = do
  command ← take_command words
  cube ← take_number most_cubes command.1
  address ← take_number (2 ^ 34) cube.1
  payload ← take_payload command.0 address.1
  Some (
    record { command = command.0; cube = cube.0; address = address.0; payload = payload.0 },
    payload.1,
  )
