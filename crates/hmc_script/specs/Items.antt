-- What a script is: a list of requests.
use Rattle.hmc_codes.specs.Limits.{most_asked, most_hosts, most_requests}
use Rattle.std.specs.Prelude.{ℕ, ◌<◌, ◌≤◌, ◌==◌, Bool, List, length}
use Rattle.std.specs.List.{All, filter}
use Rattle.hmc_codes.specs.Request.{RequestFields, IsRequest}
use Rattle.hmc_script.specs.declared.item.Item.{Item}
use Rattle.hmc_script.specs.declared.item.Outline.{Outline}

-- a request of a script, as contracts see it
abbrev pub ItemFields : Type 0
ItemFields = Item

-- this host's request, with a fence before it or without, poisoned or not
abbrev pub asked_item : (host : ℕ) (fenced poisoned : Bool) → RequestFields → ItemFields
asked_item host fenced poisoned request =
    record { host = host; fenced = fenced; poisoned = poisoned; request = request }

-- what of it decides when it may be given
abbrev pub outline_of : ItemFields → Outline
outline_of item = record {
  fenced = item.fenced;
  poisoned = item.poisoned;
  command = item.request.command;
}

-- the requests that are this host's
abbrev pub of_host : (host : ℕ) → List ItemFields → List ItemFields
of_host host items = filter (λ item. item.host == host) items

-- the host and the cube are among so many
pub record IsWithin (hosts cubes : ℕ) (item : ItemFields) : Type 0 where
  pub host : item.host < hosts
  pub cube : item.request.cube < cubes

-- what every list of requests in memory keeps: it has not too many, and each is of a host that
-- there can be
pub record AreItems (items : List ItemFields) : Type 0 where
  pub few : length items ≤ most_asked
  pub hosts : All (λ item. item.host < most_hosts) items
  pub requests : All (λ item. IsRequest item.request) items

-- what every script keeps: it has not too many requests, and each is of a host that there can be
pub record IsScript (items : List ItemFields) : Type 0 where
  pub few : length items ≤ most_requests
  pub hosts : All (λ item. item.host < most_hosts) items
  pub requests : All (λ item. IsRequest item.request) items
