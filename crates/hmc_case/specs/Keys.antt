-- The keys of a table, one after another: a key is missing, its value is of another type, or its
-- value is out of range.
use Rattle.std.specs.Prelude.{ℕ, suc, ℤ, pos, negsuc, nat_le, Bool, true, ◌&&◌, ◌||◌, ◌==◌, List, codes, Option, Some, None, Result, Ok, if◌then◌else◌}
use Rattle.std.specs.Str.{bytes_eq}
use Rattle.hmc_codes.specs.declared.profile.Profile.{Profile}
use Rattle.hmc_codes.specs.declared.profile.Profile.TheVariants.{One, Two}
use Rattle.toml.specs.Data.{Data, Items, no_items, item, Members, no_members, member, get_member, as_integer, as_str, as_array, as_table}
use Rattle.hmc_text.specs.Reading.{◌>>=◌, or_fault}
use Rattle.hmc_case.specs.Reading.{or_refuse}
use Rattle.hmc_case.specs.declared.fault.CaseKind.{CaseKind}
use Rattle.hmc_case.specs.declared.fault.CaseKind.TheVariants as kinds
use Rattle.hmc_case.specs.declared.keys.Part.{Part}
use Rattle.hmc_case.specs.declared.keys.Part.TheVariants.{Top, Cube, Link}

-- the keys of a cube in a case of either profile
abbrev pub is_common_cube_key : List ℕ → Bool
is_common_cube_key key =
    bytes_eq key (codes "vault_bits") || bytes_eq key (codes "bank_bits")
    || bytes_eq key (codes "rows") || bytes_eq key (codes "queue")

-- the keys of a cube; in a case of profile 2 also its block
abbrev pub is_cube_key : Profile → List ℕ → Bool
is_cube_key One key = is_common_cube_key key
is_cube_key Two key = is_common_cube_key key || bytes_eq key (codes "block")

-- the keys of a link's two ends
abbrev pub is_end_key : List ℕ → Bool
is_end_key key = bytes_eq key (codes "a") || bytes_eq key (codes "b")

-- the keys of a link in a case of either profile
abbrev pub is_common_link_key : List ℕ → Bool
is_common_link_key key =
    is_end_key key || bytes_eq key (codes "line") || bytes_eq key (codes "tokens")
    || bytes_eq key (codes "retry") || bytes_eq key (codes "output")

-- the keys of a link; in a case of profile 2 also its own profile
abbrev pub is_link_key : Profile → List ℕ → Bool
is_link_key One key = is_common_link_key key
is_link_key Two key = is_common_link_key key || bytes_eq key (codes "profile")

-- the keys of the document under which a network stands
abbrev pub is_net_key : List ℕ → Bool
is_net_key key =
    bytes_eq key (codes "profile") || bytes_eq key (codes "cubes") || bytes_eq key (codes "links")

-- the keys of each table; those of a cube and of a link depend on the profile of the case
abbrev pub is_key : Part → List ℕ → Bool
is_key Top key =
    is_net_key key || bytes_eq key (codes "script") || bytes_eq key (codes "schedule")
is_key (Cube profile) key = is_cube_key profile key
is_key (Link profile) key = is_link_key profile key

-- each key of the table is one of its part
abbrev pub has_only_keys : Part → Members → Bool
has_only_keys part no_members = true
has_only_keys part (member key value members) = is_key part key && has_only_keys part members

-- no key of the table is unknown
abbrev pub known_keys : Part → Members → Result (Unit {0}) CaseKind
known_keys part table = or_refuse kinds.Unknown (has_only_keys part table)

-- a table without unknown keys
unfoldable pub table_of : Part → Data → Result Members CaseKind
table_of part value = do
  table ← or_fault kinds.Kind (as_table value)
  known ← known_keys part table
  Ok table

-- the number, if it is least to most
abbrev pub among : ℕ → ℕ → ℤ → Option ℕ
among least most (pos n) = if nat_le least n && nat_le n most then Some n else None
among least most (negsuc n) = None

-- the value at the key
abbrev pub value_at : List ℕ → Members → Result Data CaseKind
value_at key table = or_fault kinds.Missing (get_member key table)

-- the integer at the key, which is least to most
unfoldable pub number_at : List ℕ → ℕ → ℕ → Members → Result ℕ CaseKind
number_at key least most table = do
  value ← value_at key table
  number ← or_fault kinds.Kind (as_integer value)
  or_fault kinds.Range (among least most number)

-- the string at the key
unfoldable pub text_at : List ℕ → Members → Result (List ℕ) CaseKind
text_at key table = do
  value ← value_at key table
  or_fault kinds.Kind (as_str value)

-- the number of items
abbrev pub count_of : Items → ℕ
count_of no_items = 0
count_of (item value items) = suc (count_of items)

-- the array at the key, which has 1 to most items
unfoldable pub items_at : List ℕ → ℕ → Members → Result Items CaseKind
items_at key most table = do
  value ← value_at key table
  items ← or_fault kinds.Kind (as_array value)
  enough ← or_refuse kinds.Range (nat_le 1 (count_of items) && nat_le (count_of items) most)
  Ok items

-- the profile with this number: 1 or 2
abbrev pub profile_numbered : ℕ → Profile
profile_numbered number = if number == 2 then Two else One

-- the profile at the key
unfoldable pub profile_at : Members → Result Profile CaseKind
profile_at table = do
  number ← number_at (codes "profile") 1 2 table
  Ok (profile_numbered number)
