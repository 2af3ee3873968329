-- The lines of a journal are those of its entries in order.
use Rattle.std.proofs.Common.{◌≡◌, ◌∙◌, List, [], ◌∷◌, ◌++◌, refl, sym, ap, append_assoc}
use Rattle.std.specs.Prelude.{reverse, map}
use Rattle.std.proofs.lemmas.List.{append-nil, reverse-append}
use Rattle.hmc_entries.specs.declared.entry.Entry.{Entry}
use Rattle.hmc_entries.specs.Lines.{line_of}
use Rattle.hmc_entries.specs.Text.{lines_of}

lines_of-append : (new old : List Entry) → lines_of (new ++ old) ≡ lines_of old ++ lines_of new
unfolding lines_of
lines_of-append [] old = sym (append-nil (lines_of old))
lines_of-append (e ∷ new) old =
    ap (λ t. t ++ line_of e ∷ []) (lines_of-append new old) ∙ append_assoc (lines_of old) (lines_of new) (line_of e ∷ [])

pub lines_of-reverse : (entries : List Entry) → lines_of (reverse entries) ≡ map line_of entries
unfolding lines_of
lines_of-reverse [] = refl
lines_of-reverse (e ∷ es) =
    ap lines_of (reverse-append (e ∷ []) es) ∙ lines_of-append (reverse es) (e ∷ []) ∙ ap (λ t. line_of e ∷ t) (lines_of-reverse es)
