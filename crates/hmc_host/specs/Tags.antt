-- The tags of a host: a flag for each, true where the tag is out.
use Rattle.std.specs.Prelude.{◌≡◌, ◌≤◌, ◌<◌, ◌+◌, ◌==◌, if◌then◌else◌, ℕ, nat_lt, Bool, true, false, not, List, length, replicate, slice_get, slice_set, count_by, Option, Some, None}
use Rattle.std.specs.List.{position}
use Rattle.hmc_codes.specs.Limits.{tags as all_tags}

-- at first no tag is out
unfoldable pub none_out : List Bool
none_out = replicate all_tags false

-- the number of tags that are out
abbrev pub number_out : List Bool → ℕ
number_out tags = count_by (λ out. out) tags

-- some tag is out
abbrev pub is_some_out : List Bool → Bool
is_some_out tags = nat_lt 0 (number_out tags)

-- the lowest tag that isn't out, if there is one
abbrev pub lowest_free : List Bool → Option ℕ
lowest_free tags = position not tags

-- a tag has gone out, if there is one
abbrev pub with_out : Option ℕ → List Bool → List Bool
with_out None tags = tags
with_out (Some tag) tags = slice_set tags tag true

-- a tag isn't out
abbrev pub IsFree : List Bool → ℕ → Type 0
IsFree tags tag = slice_get tags tag ≡ Some false

-- a tag is out
abbrev pub IsOut : List Bool → ℕ → Type 0
IsOut tags tag = slice_get tags tag ≡ Some true

-- the tag isn't out, and each lower one is
pub record IsLowestFree (tags : List Bool) (tag : ℕ) : Type 0 where
  pub free : IsFree tags tag
  pub below : (lower : ℕ) → lower < tag → IsOut tags lower

-- what every host's tags keep: their number, and the number of those that are out
pub record AreTags (tags : List Bool) (number : ℕ) : Type 0 where
  pub all : length tags ≡ all_tags
  pub count : number ≡ number_out tags

-- one further, where this is the tag that goes out
abbrev pub past : (from tag : ℕ) → ℕ
past from tag = if from == tag then from + 1 else from

-- and all tags below one are out
pub record AreKept (tags : List Bool) (number from : ℕ) : Type 0 where
  pub are : AreTags tags number
  pub within : from ≤ all_tags
  pub below : (k : ℕ) → k < from → slice_get tags k ≡ Some true
