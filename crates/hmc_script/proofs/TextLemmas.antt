-- A script's text, item by item.
use Rattle.std.proofs.Common.{◌≡◌, ◌∙◌, ◌<◌, ◌+◌, ℕ, List, [], ◌∷◌, ◌++◌, length, take, get_or, refl, ap, append-nil}
use Rattle.std.specs.List.{flat_map}
use Rattle.std.proofs.lemmas.List.{take_more}
use Rattle.std.proofs.lemmas.Grind.{flat_map-append}
use Rattle.hmc_script.specs.Items.{ItemFields}
use Rattle.hmc_script.specs.Text.{item_text, script_text}

pub script_text-[] : script_text [] ≡ []
unfolding script_text
script_text-[] = refl

-- one item more
pub script_text-more : (items : List ItemFields) (i : ℕ) (item : ItemFields) → i < length items → item ≡ get_or items i item → script_text (take (i + 1) items) ≡ script_text (take i items) ++ item_text item
unfolding script_text
script_text-more items i item within is =
    ap (flat_map item_text) (take_more items i item within) ∙ flat_map-append item_text (take i items) (get_or items i item ∷ []) ∙
    rw (← is) (ap (λ (l : List ℕ). flat_map item_text (take i items) ++ l) (append-nil (item_text item)))
