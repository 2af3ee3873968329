-- A host, as the contracts see it.
use Rattle.std.specs.Prelude.{◌≡◌, ◌≤◌, ◌<◌, ◌+◌, ◌++◌, ◌∷◌, ℕ, Bool, List, [], length}
use Rattle.hmc_codes.specs.Limits.{most_asked, most_hosts, tags as all_tags}
use Rattle.hmc_script.specs.Items.{ItemFields, of_host}
use Rattle.hmc_host.specs.Tags.{none_out}

-- its number, its own requests that it has not given yet, the number of those given, and its tags
pub record HostFields : Type 0 where
  pub number : ℕ
  pub left : List ItemFields
  pub given : ℕ
  pub tags : List Bool

-- the requests of a script that are this host's
abbrev pub items_of : (number : ℕ) → List ItemFields → List ItemFields
items_of number script = of_host number script

-- at first no request was given and no tag is out
abbrev pub opening_host : (number : ℕ) → (script : List ItemFields) → HostFields
opening_host number script = record {
  number = number;
  left = items_of number script;
  given = 0;
  tags = none_out;
}

-- for how many requests it was asked, given or not
abbrev pub asked_count : HostFields → ℕ
asked_count host = host.given + length host.left

-- what every host keeps
pub record IsHost (host : HostFields) : Type 0 where
  pub number : host.number < most_hosts
  pub few : asked_count host ≤ most_asked
  pub tags : length host.tags ≡ all_tags

-- one that is asked for a request more, which comes after its others
abbrev pub asked : ItemFields → HostFields → HostFields
asked item host = record {
  number = host.number;
  left = host.left ++ item ∷ [];
  given = host.given;
  tags = host.tags;
}
