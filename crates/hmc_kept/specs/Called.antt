-- The entries of links after a call of one of them, by the numbers of directions.
use Rattle.std.specs.Prelude.{◌/◌, ◌==◌, ℕ, Bool, true, List, slice_index_or, if◌then◌else◌, false}
use Rattle.hmc_codes.specs.Link.{LinkFields}
use Rattle.hmc_case.specs.declared.setup.LinkRow.{LinkRow}
use Rattle.hmc_send.specs.LinkCalls.{LinkCall}
use Rattle.hmc_send.specs.LinkEntries.{LinkEntry}
use Rattle.hmc_send.specs.declared.toward.Toward.{Toward}
use Rattle.hmc_ends.specs.Answers.{after_call}
use Rattle.hmc_journal.specs.Links.{toward}
use Rattle.hmc_journal.specs.Setup.{no_link}

-- the sizes and the profile of a link, and of the link of a direction
abbrev pub sizes_at : List LinkRow → (link : ℕ) → LinkFields
sizes_at rows link = (slice_index_or rows link no_link).setup

abbrev pub sizes_by : List LinkRow → (direction : ℕ) → LinkFields
sizes_by rows direction = sizes_at rows (direction / 2)

-- the entries of the links after a call of one of them, in a direction
abbrev pub called : List LinkRow → (direction : ℕ) → (Toward → LinkCall) →
    (ℕ → List LinkEntry) → ℕ → List LinkEntry
called rows direction call entries link =
    if direction / 2 == link
    then after_call (sizes_at rows link) (entries link) (call (toward direction))
    else entries link

-- the entries of the links, where what landed in a direction is taken at once if it is forwarded
abbrev pub taken_where : Bool → List LinkRow → (direction : ℕ) → (ℕ → List LinkEntry) → ℕ →
    List LinkEntry
taken_where true rows direction entries = called rows direction LinkCall.take entries
taken_where false rows direction entries = entries
