-- The value of a load, by the answers that a journal has.
use Rattle.std.specs.Prelude.{ℕ, zero, suc, ◌+◌, ◌==◌, List, [], ◌∷◌, ◌++◌, length, take, drop, filter, Option, Some, None, option_and_then, option_map, if◌then◌else◌}
use Rattle.std.specs.List.{slice_get}
use Rattle.hmc_codes.specs.declared.answer.Answer.{Answer}
use Rattle.hmc_codes.specs.declared.answer.Answer.TheVariants as answers
use Rattle.hmc_journal.specs.Choice.{append_if}
use Rattle.hmc_entries.specs.declared.entry.Entry.{Entry}
use Rattle.hmc_entries.specs.declared.entry.Entry.TheVariants.{Gave}
use Rattle.hmc_journal.specs.Filters.{answers_under, same_tag}
use Rattle.hmc_script.specs.Items.{ItemFields}
use Rattle.hmc_serial.specs.Actions.{action_of}
use Rattle.hmc_serial.specs.declared.action.Action.{Action}
use Rattle.hmc_serial.specs.declared.action.Action.TheVariants.{Read}
use Rattle.hmc_accesses.specs.declared.load.Load.{Load}
use Rattle.hmc_accesses.specs.Compiled.{CompiledFields}

-- the tags under which a host gave its requests, the oldest first
unfoldable pub tags_given : (host : ℕ) → List Entry → List (Option ℕ)
tags_given h [] = []
tags_given h (Gave host tag poisoned request ∷ past) =
    append_if (host == h) (tag ∷ []) (tags_given h past)
tags_given h (_ ∷ past) = tags_given h past

-- the answer under a tag to the request after n others: as many with its tag are before it
abbrev pub answer_under : List Entry → (n : ℕ) → Option ℕ → Option Answer
answer_under past n None = None
answer_under past n (Some tag) =
    slice_get (answers_under 0 tag past)
    (length (filter (λ other. same_tag other tag) (take n (tags_given 0 past))))

-- the answer to the request of host 0 after n others, if it gave it and took its answer
unfoldable pub answer_of : List Entry → (n : ℕ) → Option Answer
answer_of past n = option_and_then (answer_under past n) (slice_get (tags_given 0 past) n)

-- the bytes of an answer, if it is one of a read of so many
abbrev pub read_bytes : (size : ℕ) → Answer → Option (List ℕ)
read_bytes size (answers.Read flag payload) =
    if length payload == size then Some payload else None
read_bytes size _ = None

-- how many bytes a request reads
abbrev pub size_by : Option Action → ℕ
size_by (Some (Read size)) = size
size_by _ = 0

abbrev pub size_of : ItemFields → ℕ
size_of item = size_by (action_of item.request.command)

-- the bytes that the n-th request reads
abbrev pub bytes_at : (answer : ℕ → Option Answer) → List ItemFields → (n : ℕ) →
    Option (List ℕ)
bytes_at answer script n =
    option_and_then (λ item. option_and_then (read_bytes (size_of item)) (answer n))
    (slice_get script n)

-- the bytes that so many requests read, from the n-th on
unfoldable pub joined : (answer : ℕ → Option Answer) → List ItemFields → (n count : ℕ) →
    Option (List ℕ)
joined answer script n zero = Some []
joined answer script n (suc count) =
    option_and_then (λ bytes. option_map (λ more. bytes ++ more)
    (joined answer script (n + 1) count)) (bytes_at answer script n)

-- a load's bytes
abbrev pub cut : Load → List ℕ → List ℕ
cut load bytes = take load.length (drop load.skip bytes)

-- the value of a load, by the answers to the requests of the script
unfoldable pub load_value : (answer : ℕ → Option Answer) → List ItemFields → Load →
    Option (List ℕ)
load_value answer script load =
    option_map (cut load) (joined answer script load.first load.count)

-- the value of a load by a journal, whose newest entry is first
abbrev pub value_in : CompiledFields → List Entry → Load → Option (List ℕ)
value_in compiled past load = load_value (answer_of past) compiled.script load
