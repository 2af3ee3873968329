-- Requests in memory: short items, and the payload bytes of all items.
use Rattle.std.specs.Prelude.{◌≤◌, ℕ, ◌+◌, List, length, map, take, drop}
use Rattle.std.specs.List.{All}
use Rattle.hmc_codes.specs.Commands.{payload_len_of}
use Rattle.hmc_codes.specs.Request.{RequestFields}
use Rattle.hmc_script.specs.declared.stored.Short.{Short}
use Rattle.hmc_script.specs.Items.{ItemFields, AreItems, asked_item}

-- the request of a short item with this payload
abbrev pub request_with : Short → (payload : List ℕ) → RequestFields
request_with short payload = record {
  command = short.command;
  cube = short.cube;
  address = short.address;
  payload = payload;
}

-- the item of a short item with this payload
abbrev pub item_with : Short → (payload : List ℕ) → ItemFields
item_with short payload =
    asked_item short.host short.fenced short.poisoned (request_with short payload)

-- the item, whose payload begins at its place among the bytes
abbrev pub item_of : List ℕ → Short → ItemFields
item_of bytes short =
    item_with short (take (payload_len_of short.command) (drop short.start bytes))

-- all items
abbrev pub items_in : List ℕ → List Short → List ItemFields
items_in bytes shorts = map (item_of bytes) shorts

-- the payload ends among the bytes
abbrev pub IsInside : List ℕ → Short → Type 0
IsInside bytes short = short.start + payload_len_of short.command ≤ length bytes

-- what every list of requests in memory keeps
pub record IsStored (bytes : List ℕ) (shorts : List Short) : Type 0 where
  pub are : AreItems (items_in bytes shorts)
  pub inside : All (IsInside bytes) shorts
