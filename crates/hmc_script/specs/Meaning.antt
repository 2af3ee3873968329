-- What a line of a script states, word by word from left to right.
use Rattle.std.specs.Prelude.{ℕ, ◌^◌, Bool, true, false, List, codes, Result, Ok, if◌then◌else◌}
use Rattle.std.specs.Str.{bytes_eq}
use Rattle.hmc_codes.specs.Request.{RequestFields}
use Rattle.hmc_codes.specs.declared.command.Command.{Command}
use Rattle.hmc_script.specs.declared.fault.ScriptKind.{ScriptKind}
use Rattle.hmc_script.specs.declared.fault.ScriptKind.TheVariants as kinds
use Rattle.hmc_script.specs.declared.meaning.Meaning.{Meaning}
use Rattle.hmc_script.specs.declared.meaning.Meaning.TheVariants.{Nothing, Fence, Ask}
use Rattle.hmc_script.specs.Commands.{command_of}
use Rattle.hmc_script.specs.Payload.{payload_word}
use Rattle.hmc_text.specs.Reading as reading
use Rattle.hmc_text.specs.Reading.{◌>>=◌, or_fault, next_word, no_word}
use Rattle.hmc_text.specs.Words.{is_passed_over}

-- a number below the limit, or else this kind of fault
abbrev pub number_word : ScriptKind → ℕ → List (List ℕ) → Result (ℕ × List (List ℕ)) ScriptKind
number_word kind limit words = reading.number_word kinds.Words kind kind limit words

-- a word of a request, or else the fault `command`
unfoldable pub command_word : List (List ℕ) → Result (Command × List (List ℕ)) ScriptKind
command_word words = do
  first ← next_word kinds.Words words
  command ← or_fault kinds.Command (command_of first.0)
  Ok (command, first.1)

-- a command, a cube, an address and, where the command has one, a payload
unfoldable pub request_of : ℕ → List (List ℕ) → Result RequestFields ScriptKind
request_of cubes words = do
  command ← command_word words
  cube ← number_word kinds.Cube cubes command.1
  address ← number_word kinds.Address (2 ^ 34) cube.1
  payload ← payload_word command.0 address.1
  Ok (record { command = command.0; cube = cube.0; address = address.0; payload = payload })

-- a request of this host
unfoldable pub ask_of : ℕ → ℕ → Bool → List (List ℕ) → Result Meaning ScriptKind
ask_of cubes host poisoned words = do
  request ← request_of cubes words
  Ok (Ask host poisoned request)

-- a fence of this host, after which no word follows
unfoldable pub fence_of : ℕ → List (List ℕ) → Result Meaning ScriptKind
fence_of host words = do
  end ← no_word kinds.Words words
  Ok (Fence host)

-- a host, and then a fence or a request, which may be poisoned
unfoldable pub statement_of : ℕ → ℕ → List (List ℕ) → Result Meaning ScriptKind
statement_of hosts cubes words = do
  host ← number_word kinds.Host hosts words
  second ← next_word kinds.Words host.1
  if bytes_eq second.0 (codes "fence") then fence_of host.0 second.1
      else if bytes_eq second.0 (codes "poison") then ask_of cubes host.0 true second.1
      else ask_of cubes host.0 false host.1

-- what the words of a line state
unfoldable pub meaning_of : ℕ → ℕ → List (List ℕ) → Result Meaning ScriptKind
meaning_of hosts cubes words =
    if is_passed_over words then Ok Nothing else statement_of hosts cubes words
