-- How scripts are written: one line a fence or a request.
use Rattle.std.specs.Prelude.{ℕ, Bool, true, false, List, [], ◌∷◌, ◌++◌, codes}
use Rattle.std.specs.List.{flat_map}
use Rattle.std.specs.Fmt.{decimal}
use Rattle.hmc_codes.specs.Request.{RequestFields}
use Rattle.hmc_codes.specs.Text.{line, request_text}
use Rattle.hmc_script.specs.Items.{ItemFields}

-- a host, and the word of a fence
abbrev pub fence_line : ℕ → List ℕ
fence_line host = line (decimal host ∷ codes "fence" ∷ [])

-- a host, and its request, which may be poisoned
abbrev pub request_line : ℕ → Bool → RequestFields → List ℕ
request_line host false request = line (decimal host ∷ request_text request ∷ [])
request_line host true request = line (decimal host ∷ codes "poison" ∷ request_text request ∷ [])

-- the fence of a request is on the line before it
abbrev pub fence_text : ℕ → Bool → List ℕ
fence_text host false = []
fence_text host true = fence_line host

-- the lines of an item
unfoldable pub item_text : ItemFields → List ℕ
item_text item =
    fence_text item.host item.fenced ++ request_line item.host item.poisoned item.request

-- a script, printed
unfoldable pub script_text : List ItemFields → List ℕ
script_text items = flat_map item_text items
