-- The document of a case, and its keys.
use Rattle.std.specs.Prelude.{ℕ, List, codes, Option, None, Result, Ok, if◌then◌else◌}
use Rattle.std.specs.Str.{is_utf8}
use Rattle.toml.specs.Data.{Items, Members}
use Rattle.toml.specs.Parse.{parse_document}
use Rattle.hmc_codes.specs.Limits.{most_cubes, most_links}
use Rattle.hmc_codes.specs.declared.profile.Profile.{Profile}
use Rattle.hmc_text.specs.Reading.{◌>>=◌, or_fault}
use Rattle.hmc_case.specs.Keys.{known_keys, profile_at, items_at, text_at}
use Rattle.hmc_case.specs.declared.fault.CaseKind.{CaseKind}
use Rattle.hmc_case.specs.declared.fault.CaseKind.TheVariants.{Syntax}
use Rattle.hmc_case.specs.declared.keys.Part.TheVariants.{Top}

-- the table that the bytes are as a TOML document: as UTF-8, and then by the grammar of TOML
abbrev pub document_of : List ℕ → Option Members
document_of bytes = if is_utf8 bytes then parse_document bytes else None

-- the bytes are such a document
abbrev pub table_in : List ℕ → Result Members CaseKind
table_in bytes = or_fault Syntax (document_of bytes)

-- the values at the keys of a case
pub record PartsFields : Type 0 where
  pub profile : Profile
  pub cubes : Items
  pub links : Items
  pub script : List ℕ
  pub schedule : List ℕ

-- the keys of a case
unfoldable pub parts_of : Members → Result PartsFields CaseKind
parts_of table = do
  known ← known_keys Top table
  profile ← profile_at table
  cubes ← items_at (codes "cubes") most_cubes table
  links ← items_at (codes "links") most_links table
  script ← text_at (codes "script") table
  schedule ← text_at (codes "schedule") table
  Ok (record {
    profile = profile;
    cubes = cubes;
    links = links;
    script = script;
    schedule = schedule;
  })
