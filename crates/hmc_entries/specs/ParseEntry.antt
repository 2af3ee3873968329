-- What the words of an entry line are read as. Words left over are passed over here: whoever reads
-- a line compares it with the printed one.
use Rattle.std.specs.Prelude.{ℕ, ◌^◌, List, codes, Option, Some}
use Rattle.hmc_script.specs.Taken.{take_request}
use Rattle.hmc_text.specs.Words.{first_word}
use Rattle.hmc_words.specs.Taking.{◌>>=◌, take_number, take_this}
use Rattle.hmc_entries.specs.declared.entry.Entry.{Entry}
use Rattle.hmc_entries.specs.declared.entry.Entry.TheVariants.{Gave, Sent, Landed, Shifted, Dropped, Spread, Executed, Lifted, Took, Discarded, Through, Unlocked, Retired, Passed, Idle}
use Rattle.hmc_entries.specs.declared.head.Head.{Head}
use Rattle.hmc_entries.specs.declared.head.Head.TheVariants as heads
use Rattle.hmc_entries.specs.ParseHead.{head_of}
use Rattle.hmc_entries.specs.ParseParts.{take_unit, outcome_in, answer_in, take_step}
use Rattle.hmc_entries.specs.ParseWords.{flit_of, tag_of, what_of, cause_named, goal_of, port_of, lift_of}

-- a tag, or a dash
unfoldable pub take_tag : List (List ℕ) → Option (Option ℕ × List (List ℕ))
take_tag words = do
  first ← first_word words
  tag ← tag_of first.0
  Some (tag, first.1)

-- a flit
unfoldable pub take_flit : List (List ℕ) → Option (List ℕ × List (List ℕ))
take_flit words = do
  first ← first_word words
  flit ← flit_of first.0
  Some (flit, first.1)

unfoldable pub gave_in : List (List ℕ) → Option Entry
gave_in words = do
  host ← take_number 256 words
  tag ← take_tag host.1
  request ← take_request (take_this (codes "poison") tag.1).1
  Some (Gave host.0 tag.0 (take_this (codes "poison") tag.1).0 request.0)

unfoldable pub sent_in : List (List ℕ) → Option Entry
sent_in words = do
  direction ← take_number 256 words
  first ← first_word direction.1
  what ← what_of first.0
  flit ← take_flit first.1
  Some (Sent direction.0 what flit.0)

unfoldable pub landed_in : List (List ℕ) → Option Entry
landed_in words = do
  direction ← take_number 256 words
  flit ← take_flit direction.1
  outcome ← outcome_in flit.1
  Some (Landed direction.0 flit.0 outcome)

unfoldable pub shifted_in : List (List ℕ) → Option Entry
shifted_in words = do
  cube ← take_number 256 words
  port ← take_number 256 cube.1
  first ← first_word port.1
  goal ← goal_of first.0
  Some (Shifted cube.0 port.0 goal)

unfoldable pub dropped_in : List (List ℕ) → Option Entry
dropped_in words = do
  cube ← take_number 256 words
  port ← take_number 256 cube.1
  Some (Dropped cube.0 port.0)

unfoldable pub spread_in : List (List ℕ) → Option Entry
spread_in words = do
  cube ← take_number 256 words
  vault ← take_number 256 cube.1
  bank ← take_number 256 vault.1
  Some (Spread cube.0 vault.0 bank.0)

unfoldable pub executed_in : List (List ℕ) → Option Entry
executed_in words = do
  unit ← take_unit words
  host ← take_number 256 unit.1
  tag ← take_tag host.1
  request ← take_request tag.1
  answer ← answer_in request.1
  Some (Executed unit.0 host.0 tag.0 request.0 answer)

unfoldable pub lifted_in : List (List ℕ) → Option Entry
lifted_in words = do
  cube ← take_number 256 words
  first ← first_word cube.1
  from ← lift_of first.0
  second ← first_word first.1
  port ← port_of second.0
  Some (Lifted cube.0 from port)

unfoldable pub took_in : List (List ℕ) → Option Entry
took_in words = do
  host ← take_number 256 words
  tag ← take_number (2 ^ 16) host.1
  answer ← answer_in tag.1
  Some (Took host.0 tag.0 answer)

unfoldable pub discarded_in : List (List ℕ) → Option Entry
discarded_in words = do
  host ← take_number 256 words
  Some (Discarded host.0)

unfoldable pub through_in : List (List ℕ) → Option Entry
through_in words = do
  cube ← take_number 256 words
  port ← take_number 256 cube.1
  direction ← take_number 256 port.1
  Some (Through cube.0 port.0 direction.0)

unfoldable pub unlocked_in : List (List ℕ) → Option Entry
unlocked_in words = do
  direction ← take_number 256 words
  Some (Unlocked direction.0)

unfoldable pub retired_in : List (List ℕ) → Option Entry
retired_in words = do
  slot ← take_number 256 words
  Some (Retired slot.0)

unfoldable pub passed_in : List (List ℕ) → Option Entry
passed_in words = do
  direction ← take_number 256 words
  flit ← take_flit direction.1
  Some (Passed direction.0 flit.0)

unfoldable pub idle_in : List (List ℕ) → Option Entry
idle_in words = do
  step ← take_step words
  first ← first_word step.1
  cause ← cause_named first.0
  Some (Idle step.0 cause)

-- an entry of this kind
unfoldable pub entry_after : Head → List (List ℕ) → Option Entry
entry_after heads.Gave words = gave_in words
entry_after heads.Sent words = sent_in words
entry_after heads.Landed words = landed_in words
entry_after heads.Shifted words = shifted_in words
entry_after heads.Dropped words = dropped_in words
entry_after heads.Spread words = spread_in words
entry_after heads.Executed words = executed_in words
entry_after heads.Lifted words = lifted_in words
entry_after heads.Took words = took_in words
entry_after heads.Discarded words = discarded_in words
entry_after heads.Through words = through_in words
entry_after heads.Unlocked words = unlocked_in words
entry_after heads.Retired words = retired_in words
entry_after heads.Passed words = passed_in words
entry_after heads.Idle words = idle_in words

-- the entry that the words begin with
unfoldable pub entry_in : List (List ℕ) → Option Entry
entry_in words = do
  first ← first_word words
  head ← head_of first.0
  entry_after head first.1
