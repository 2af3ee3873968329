-- Requests by numbers.
use Rattle.std.specs.Prelude.{ℕ, Bool, true, false, ◌^◌, ◌==◌, ◌&&◌, nat_lt, if◌then◌else◌, List, ◌++◌, length, take, replicate, Option, Some, None}
use Rattle.hmc_codes.specs.Codes.{command_of}
use Rattle.hmc_codes.specs.Commands.{family_of, payload_len_of}
use Rattle.hmc_codes.specs.Limits.{most_cubes}
use Rattle.hmc_codes.specs.Request.{RequestFields}
use Rattle.hmc_codes.specs.Text.{is_mdwr}
use Rattle.hmc_codes.specs.declared.command.Command.{Command}
use Rattle.hmc_codes.specs.declared.family.Family.{Family}
use Rattle.hmc_codes.specs.declared.family.Family.TheVariants.{Flow, Ask, Reply}

-- the family is that of requests
abbrev pub is_ask : Family → Bool
is_ask Ask = true
is_ask Flow = false
is_ask Reply = false

-- the payload: of an mdwr the first four bytes, which are its value, and zeros; else all bytes
abbrev pub payload_by : Command → (bytes : List ℕ) → List ℕ
payload_by command bytes =
    (if is_mdwr command then take 4 bytes ++ replicate 12 0 else bytes)

-- such a command, cube, address and payload make a request
abbrev pub makes_request : Command → (cube address : ℕ) → (bytes : List ℕ) → Bool
makes_request command cube address bytes =
    is_ask (family_of command) && nat_lt cube most_cubes && nat_lt address (2 ^ 34)
    && (length bytes == payload_len_of command)

-- the request with this command, if it makes one
abbrev pub request_with : Option Command → (cube address : ℕ) → (bytes : List ℕ) →
    Option RequestFields
request_with None cube address bytes = None
request_with (Some command) cube address bytes =
    (if makes_request command cube address bytes then Some (record {
      command = command;
      cube = cube;
      address = address;
      payload = payload_by command bytes;
    }) else None)

-- the request of the command with this code
abbrev pub request_named : (code cube address : ℕ) → (bytes : List ℕ) → Option RequestFields
request_named code cube address bytes = request_with (command_of code) cube address bytes
