-- The requests of a text, or its first fault.
use Rattle.std.specs.Prelude.{ℕ, nat_lt, Bool, true, false, List, [], ◌∷◌, ◌++◌, length, replicate, slice_index_or, slice_set, Result, Ok, Err, if◌then◌else◌}
use Rattle.hmc_codes.specs.Limits.{most_hosts, most_requests}
use Rattle.hmc_script.specs.declared.fault.ScriptKind.{ScriptKind}
use Rattle.hmc_script.specs.declared.fault.ScriptKind.TheVariants.{TooMany}
use Rattle.hmc_script.specs.declared.meaning.Meaning.{Meaning}
use Rattle.hmc_script.specs.declared.meaning.Meaning.TheVariants.{Nothing, Fence, Ask}
use Rattle.hmc_script.specs.Items.{ItemFields}
use Rattle.hmc_text.specs.Lines.{lines_of}
use Rattle.hmc_script.specs.Meaning.{meaning_of}
use Rattle.hmc_text.specs.InTurn.{after_lines}
use Rattle.hmc_text.specs.Reading.{◌>>=◌}
use Rattle.hmc_text.specs.Words.{words_of}

-- what some lines make: the requests, and which hosts have a fence that no request has followed
pub record Progress : Type 0 where
  pub items : List ItemFields
  pub fences : List Bool

-- before the first line
abbrev pub nothing_yet : Progress
nothing_yet = record { items = []; fences = replicate most_hosts false }

-- A fence waits for the next request of its host. A script has a limited number of requests.
unfoldable pub after_meaning : Progress → Meaning → Result Progress ScriptKind
after_meaning progress Nothing = Ok progress
after_meaning progress (Fence host) =
    Ok (record progress { fences = slice_set progress.fences host true })
after_meaning progress (Ask host poisoned request) =
    let fenced = slice_index_or progress.fences host false in
    let item : ItemFields =
    record { host = host; fenced = fenced; poisoned = poisoned; request = request } in
    let fences = slice_set progress.fences host false in
    if nat_lt (length progress.items) most_requests
    then Ok (record { items = progress.items ++ item ∷ []; fences = fences })
    else Err TooMany

-- what the words of the line state is added
unfoldable pub after_line : ℕ → ℕ → Progress → List ℕ → Result Progress ScriptKind
after_line hosts cubes progress line = do
  meaning ← meaning_of hosts cubes (words_of line)
  after_meaning progress meaning

-- the requests, or the first fault: its line, and what is wrong there
unfoldable pub script_of : ℕ → ℕ → List ℕ → Result (List ItemFields) (ℕ × ScriptKind)
script_of hosts cubes text = do
  progress ← after_lines (after_line hosts cubes) 1 nothing_yet (lines_of text)
  Ok progress.items
