-- Bytes of a text that are held, one piece after another.
use Rattle.std.proofs.Common.{◌≡◌, ◌∙◌, ℕ, ◌+◌, List, [], ◌++◌, take, drop, Option, Some, None, Result, Ok, Err, OnOk, OnErr, refl, sym, ap, append-nil, append_assoc, take-append-drop}
use Rattle.std.proofs.lemmas.List.{drop-drop}
use Rattle.std.specs.Io.KnownBytes.{Appends, Keeps, append_known}
use Rattle.hmc_outside.specs.Prefix.{AppendsPrefix}

-- a piece more of the text is held
pub piece_held : (a b c : Option (List ℕ)) (text : List ℕ) (s n : ℕ) → Keeps a (append_known b (drop s text)) → Appends b c (take n (drop s text)) → Keeps a (append_known c (drop (s + n) text))
piece_held None b c text s n kept more = tt
piece_held (Some a) None c text s n kept more = absurd kept
piece_held (Some a) (Some b) None text s n kept more = more
piece_held (Some a) (Some b) (Some c) text s n kept more =
    let rest : drop (s + n) text ≡ drop n (drop s text) = sym (drop-drop n s text) in
    rw (more, rest) (append_assoc b (take n (drop s text)) (drop n (drop s text)) ∙ ap (λ l. b ++ l) (take-append-drop n (drop s text)) ∙ kept)

-- bytes are held where the text is empty
after_text : (a b c : Option (List ℕ)) (text bytes : List ℕ) (s : ℕ) → text ≡ [] → s ≡ 0 → Keeps a (append_known b (drop s text)) → Appends b c bytes → Appends a (append_known c (drop s text)) bytes
after_text None b c text bytes s empty start kept more = tt
after_text (Some a) None c text bytes s empty start kept more = absurd kept
after_text (Some a) (Some b) None text bytes s empty start kept more = more
after_text (Some a) (Some b) (Some c) text bytes s empty start kept more =
    let nothing : drop s text ≡ [] = rw (empty, start) refl in
    let same : b ++ [] ≡ a = ap (λ l. b ++ l) (sym nothing) ∙ kept in
    rw (nothing, more) (append-nil (b ++ bytes) ∙ ap (λ l. l ++ bytes) (sym (append-nil b) ∙ same))

pub held_after : {T E : Type 0} (r : Result T E) (a b c : Option (List ℕ)) (text bytes : List ℕ) (s : ℕ) → text ≡ [] → s ≡ 0 → Keeps a (append_known b (drop s text)) → OnOk r (Appends b c bytes) → OnOk r (Appends a (append_known c (drop s text)) bytes)
held_after (Ok t) a b c text bytes s empty start kept more = after_text a b c text bytes s empty start kept more
held_after (Err e) a b c text bytes s empty start kept more = tt

pub prefix_held : {T E : Type 0} (r : Result T E) (a b c : Option (List ℕ)) (text bytes : List ℕ) (s : ℕ) → text ≡ [] → s ≡ 0 → Keeps a (append_known b (drop s text)) → OnErr r (AppendsPrefix b c bytes) → OnErr r (AppendsPrefix a (append_known c (drop s text)) bytes)
prefix_held (Ok t) a b c text bytes s empty start kept more = tt
prefix_held (Err e) a b c text bytes s empty start kept more =
    record { prefix = more.prefix; rest = more.rest; parts = more.parts; appended = after_text a b c text more.prefix s empty start kept more.appended }

-- none of the bytes are written
none_appended : (a b : Option (List ℕ)) → Keeps a b → Appends a b []
none_appended None b kept = tt
none_appended (Some a) None kept = absurd kept
none_appended (Some a) (Some b) kept = kept ∙ sym (append-nil a)

pub none_written : {T E : Type 0} (r : Result T E) (a b : Option (List ℕ)) (bytes : List ℕ) → Keeps a b → OnErr r (AppendsPrefix a b bytes)
none_written (Ok t) a b bytes kept = tt
none_written (Err e) a b bytes kept = record { prefix = []; rest = bytes; parts = refl; appended = none_appended a b kept }
