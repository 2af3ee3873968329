-- What the lines before say of a host, a tag and a slot. The newest entry is the first.
use Rattle.std.specs.Prelude.{ℕ, ◌+◌, Bool, true, false, ◌==◌, ◌&&◌, List, [], ◌∷◌, is_some, Option, Some, None, if◌then◌else◌}
use Rattle.hmc_codes.specs.declared.command.Command.{Command}
use Rattle.hmc_entries.specs.declared.entry.Entry.{Entry}
use Rattle.hmc_entries.specs.declared.entry.Entry.TheVariants.{Gave, Took, Retired}

-- the command of the request that is out under a tag of a host: it was given under the tag, and
-- its answer wasn't taken yet
unfoldable pub out_under : (host tag : ℕ) → List Entry → Option Command
out_under h t [] = None
out_under h t (Gave host (Some tag) poisoned request ∷ past) =
    if host == h && tag == t then Some request.command else out_under h t past
out_under h t (Took host tag answer ∷ past) =
    if host == h && tag == t then None else out_under h t past
out_under h t (_ ∷ past) = out_under h t past

-- whether a tag is out; where a request takes none, none is
abbrev pub is_out : (host : ℕ) → Option ℕ → List Entry → Bool
is_out h None past = false
is_out h (Some t) past = is_some (out_under h t past)

-- how many requests a host gave
unfoldable pub given_by : (host : ℕ) → List Entry → ℕ
given_by h [] = 0
given_by h (Gave host tag poisoned request ∷ past) =
    if host == h then given_by h past + 1 else given_by h past
given_by h (_ ∷ past) = given_by h past

-- whether the logic unit of a slot was retired
unfoldable pub is_retired : (slot : ℕ) → List Entry → Bool
is_retired s [] = false
is_retired s (Retired slot ∷ past) = if slot == s then true else is_retired s past
is_retired s (_ ∷ past) = is_retired s past
