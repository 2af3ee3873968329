-- Tables and arrays as their lists.
use Rattle.std.proofs.Common.{◌≡◌, suc, List, [], ◌∷◌, length, ◌&&◌, String, Global, string_bytes, refl, ap}
use Rattle.std.specs.List.{list_all}
use Rattle.std.specs.Map.{keys_of}
use Rattle.toml.specs.View.{members_view, items_view}
use Rattle.toml.specs.declared.value.Value.{Value}
use Rattle.hmc_case.specs.Keys.{is_key, has_only_keys, count_of}
use Rattle.hmc_case.specs.declared.keys.Part.{Part}

-- the keys of the map of a table are those of the table
pub has_only_keys-view : (part : Part) (es : List (String Global × Value)) → has_only_keys part (members_view es) ≡ list_all (λ key. is_key part (string_bytes key)) (keys_of es)
has_only_keys-view part [] = refl
has_only_keys-view part (e ∷ es) = ap (λ b. is_key part (string_bytes e.0) && b) (has_only_keys-view part es)

-- the items of an array are those of its list
pub count_of-view : (vs : List Value) → count_of (items_view vs) ≡ length vs
count_of-view [] = refl
count_of-view (v ∷ vs) = ap suc (count_of-view vs)
