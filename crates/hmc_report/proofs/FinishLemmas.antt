-- Lines that are appended to a text one after another.
use Rattle.std.proofs.Common.{◌≡◌, ◌∙◌, ℕ, List, [], ◌∷◌, ◌++◌, sym, ap, append_assoc, append-nil}
use Rattle.std.specs.List.{concat}
use Rattle.hmc_codes.proofs.General.{concat-more}
use Rattle.hmc_report.specs.Final.{AppendsSome}

-- one line more was taken from those that are left, and appended
pub lines_more : (all whole left left' : List (List ℕ)) (line : List ℕ) → all ≡ whole ++ left → left ≡ line ∷ left' → all ≡ (whole ++ line ∷ []) ++ left'
lines_more all whole left left' line parts next =
    parts ∙ ap (λ l. whole ++ l) next ∙ sym (append_assoc whole (line ∷ []) left')

pub text_more : (old text text' line : List ℕ) (whole : List (List ℕ)) → text ≡ old ++ concat whole → text' ≡ text ++ line → text' ≡ old ++ concat (whole ++ line ∷ [])
text_more old text text' line whole before here =
    here ∙ ap (λ t. t ++ line) before ∙ append_assoc old (concat whole) line ∙ ap (λ t. old ++ t) (sym (concat-more whole line))

-- none is left
pub text_all : (old text : List ℕ) (all whole left : List (List ℕ)) → all ≡ whole ++ left → left ≡ [] → text ≡ old ++ concat whole → text ≡ old ++ concat all
text_all old text all whole left parts none before =
    before ∙ ap (λ l. old ++ concat l) (sym (parts ∙ ap (λ l. whole ++ l) none ∙ append-nil whole))

-- nothing more was appended
pub some_stopped : (old text text' : List ℕ) (all whole left : List (List ℕ)) → all ≡ whole ++ left → text ≡ old ++ concat whole → text' ≡ text → AppendsSome old text' all
some_stopped old text text' all whole left parts before same =
    record { whole = whole; rest = left; parts = parts; appended = same ∙ before }
