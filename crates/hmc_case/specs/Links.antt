-- Links.
use Rattle.std.specs.Prelude.{ℕ, nat_le, List, [], length, codes, Result, Ok}
use Rattle.toml.specs.Data.{Data, Items, Members}
use Rattle.hmc_codes.specs.Limits.{most_line, least_flits, most_tokens, most_queue}
use Rattle.hmc_codes.specs.Link.{LinkFields}
use Rattle.hmc_codes.specs.Profile.{most_retry}
use Rattle.hmc_codes.specs.declared.profile.Profile.{Profile}
use Rattle.hmc_codes.specs.declared.profile.Profile.TheVariants.{One, Two}
use Rattle.hmc_text.specs.Reading.{◌>>=◌}
use Rattle.hmc_case.specs.Keys.{table_of, text_at, number_at, profile_at}
use Rattle.hmc_case.specs.Places.{ends_of, may_join}
use Rattle.hmc_case.specs.Reading.{Fault, or_refuse, in_section, in_turn}
use Rattle.hmc_case.specs.declared.fault.CaseKind.{CaseKind}
use Rattle.hmc_case.specs.declared.fault.CaseKind.TheVariants as kinds
use Rattle.hmc_case.specs.declared.fault.Section.TheVariants.{Link}
use Rattle.hmc_case.specs.declared.keys.Part.TheVariants as parts
use Rattle.hmc_case.specs.declared.setup.LinkRow.{LinkRow}

-- the profile of a link with a retry buffer of so many flits, which a case of profile 2 states; the
-- buffer may be too large for it
unfoldable pub link_profile_of : Profile → (retry : ℕ) → Members → Result Profile CaseKind
link_profile_of One retry table = Ok One
link_profile_of Two retry table = do
  profile ← profile_at table
  small ← or_refuse kinds.Range (nat_le retry (most_retry profile))
  Ok profile

-- the sizes of a link of a case of this profile
unfoldable pub sizes_of : Profile → Members → Result LinkFields CaseKind
sizes_of profile table = do
  line ← number_at (codes "line") 1 most_line table
  tokens ← number_at (codes "tokens") least_flits most_tokens table
  retry ← number_at (codes "retry") least_flits (most_retry profile) table
  output ← number_at (codes "output") 1 most_queue table
  own ← link_profile_of profile retry table
  Ok (record {
    line = line;
    tokens = tokens;
    retry = retry;
    output = output;
    profile = own;
  })

-- a link: its table, its keys, its ends, and what these may join, given the links before it
unfoldable pub link_of : Profile → (cubes : ℕ) → List LinkRow → Data → Result LinkRow CaseKind
link_of profile cubes links value = do
  table ← table_of (parts.Link profile) value
  a ← text_at (codes "a") table
  b ← text_at (codes "b") table
  sizes ← sizes_of profile table
  join ← ends_of cubes a b
  free ← may_join links join
  Ok (record { join = join; setup = sizes })

-- the next link, numbered from 0
abbrev pub next_link : Profile → (cubes : ℕ) → List LinkRow → Data → Result LinkRow Fault
next_link profile cubes links value =
    in_section Link (length links) (link_of profile cubes links value)

-- all links, each whole before the next
abbrev pub links_of : Profile → (cubes : ℕ) → Items → Result (List LinkRow) Fault
links_of profile cubes values = in_turn (next_link profile cubes) [] values
