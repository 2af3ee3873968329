-- What host 0 did, by the entries of a journal in the order in which they came.
use Rattle.std.specs.Prelude.{ℕ, ◌==◌, ◌&&◌, List, length, take, filter, Option, Some, None, option_and_then, if◌then◌else◌}
use Rattle.std.specs.List.{filter_map, slice_get}
use Rattle.hmc_journal.specs.Filters.{same_tag}
use Rattle.hmc_codes.specs.declared.answer.Answer.{Answer}
use Rattle.hmc_entries.specs.declared.entry.Entry.{Entry}
use Rattle.hmc_entries.specs.declared.entry.Entry.TheVariants.{Gave, Took}

-- the tag of a request that it gave
abbrev pub gave_tag : Entry → Option (Option ℕ)
gave_tag (Gave host tag poisoned request) = if host == 0 then Some tag else None
gave_tag _ = None

-- an answer that it took, and its tag
abbrev pub tagged_answer : Entry → Option (ℕ × Answer)
tagged_answer (Took host tag answer) = if host == 0 then Some (tag, answer) else None
tagged_answer _ = None

-- the answer that it took under a tag
abbrev pub took_answer : ℕ → Entry → Option Answer
took_answer sought (Took host tag answer) =
    if (host == 0) && (tag == sought) then Some answer else None
took_answer sought _ = None

-- how many of some tags are this one
abbrev pub count_tag : List (Option ℕ) → ℕ → ℕ
count_tag tags t = length (filter (λ other. same_tag other t) tags)

-- The answer to the request after n others, by the tags of all requests and by the answers under
-- each tag: as many requests with its tag are before it as answers under this tag before its own.
abbrev pub match_under : {X : Type 0} → (tags : List (Option ℕ)) → (answers : ℕ → List X) →
    (n : ℕ) → Option ℕ → Option X
match_under tags answers n None = None
match_under tags answers n (Some tag) = slice_get (answers tag) (count_tag (take n tags) tag)

abbrev pub match_of : {X : Type 0} → (tags : List (Option ℕ)) → (answers : ℕ → List X) → (n : ℕ) →
    Option X
match_of tags answers n = option_and_then (match_under tags answers n) (slice_get tags n)

-- the same by the entries
abbrev pub answer_in_order : List Entry → (n : ℕ) → Option Answer
answer_in_order journal n =
    match_of (filter_map gave_tag journal) (λ tag. filter_map (took_answer tag) journal) n

-- the answer to a request, by those that are known
abbrev pub known_answer : List (Option Answer) → (n : ℕ) → Option Answer
known_answer answers n = option_and_then (λ found. found) (slice_get answers n)
