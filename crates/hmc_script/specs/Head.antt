-- What a line states, before its request is read.
use Rattle.std.specs.Prelude.{ℕ, ◌<◌, Result, Ok, Err}
use Rattle.hmc_codes.specs.Request.{RequestFields}
use Rattle.hmc_script.specs.declared.fault.ScriptKind.{ScriptKind}
use Rattle.hmc_script.specs.declared.meaning.Asked.{Asked}
use Rattle.hmc_script.specs.declared.meaning.Head.{Head}
use Rattle.hmc_script.specs.declared.meaning.Head.TheVariants as heads
use Rattle.hmc_script.specs.declared.meaning.Meaning.{Meaning}
use Rattle.hmc_script.specs.declared.meaning.Meaning.TheVariants.{Nothing, Fence}
use Rattle.hmc_script.specs.Meaning.{ask_of}
use Rattle.hmc_text.specs.Words.{words_of}

-- the request, with the payload that was read
abbrev pub request_in : Asked → RequestFields
request_in asked = record {
  command = asked.command;
  cube = asked.cube;
  address = asked.address;
  payload = asked.payload.now;
}

-- what a line with this head states: the rest of a request's line is read as a request
abbrev pub after_head : ℕ → Head → Result Meaning ScriptKind
after_head cubes heads.Nothing = Ok Nothing
after_head cubes (heads.Fence host) = Ok (Fence host)
after_head cubes (heads.Ask host poisoned rest) = ask_of cubes host poisoned (words_of rest.now)

-- what a line states whose head is read so
abbrev pub meaning_from : ℕ → Result Head ScriptKind → Result Meaning ScriptKind
meaning_from cubes (Ok head) = after_head cubes head
meaning_from cubes (Err kind) = Err kind

-- the host that is named is among so many
abbrev pub IsOfHost : ℕ → Head → Type 0
IsOfHost hosts heads.Nothing = Unit {0}
IsOfHost hosts (heads.Fence host) = host < hosts
IsOfHost hosts (heads.Ask host poisoned rest) = host < hosts
