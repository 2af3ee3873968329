-- A poisoned request has a word before it.
use Rattle.std.proofs.Common.{◌≡◌, ◌∙◌, ℕ, List, [], ◌∷◌, ◌++◌, codes, ap, append_assoc}
use Rattle.hmc_codes.specs.Text.{request_text}
use Rattle.hmc_entries.proofs.pieces.push_request_end.Goals.{then-poisoned, else-poisoned}
use Rattle.hmc_entries.proofs.pieces.push_request_end.Goals as goal

-- a space, a text and a line feed
spaced : (old first second new text : List ℕ) → first ≡ old ++ (32 ∷ []) → second ≡ first ++ text → new ≡ second ++ (10 ∷ []) → new ≡ old ++ (32 ∷ (text ++ (10 ∷ [])))
spaced old first second new text first_is second_is new_is =
    new_is ∙ ap (λ (l : List ℕ). l ++ (10 ∷ [])) (second_is ∙ ap (λ (l : List ℕ). l ++ text) first_is ∙ append_assoc old (32 ∷ []) text) ∙ append_assoc old (32 ∷ text) (10 ∷ [])

-- the same after the word
poisoned_end : (old middle new rest : List ℕ) → middle ≡ old ++ codes " poison" → new ≡ middle ++ rest → new ≡ old ++ (codes " poison" ++ rest)
poisoned_end old middle new rest middle_is new_is =
    new_is ∙ ap (λ (l : List ℕ). l ++ rest) middle_is ∙ append_assoc old (codes " poison") rest

pub returns-clause-text : goal.returns-clause-text
returns-clause-text g c =
    let text = request_text c.args.request.now in
    let end = spaced c.if-poisoned.into.bytes _ _ _ text c.push_str-2.ensures.bytes c.print.ensures.text c.push_str-3.ensures.bytes in
    elim c.if-poisoned.branch [
      | then-poisoned w ↦ rw w.if-poisoned.true (poisoned_end c.args.into.now.bytes _ _ (32 ∷ (text ++ (10 ∷ []))) (ap (λ s. s.bytes) w.into-is ∙ w.push_str.ensures.bytes) end)
      | else-poisoned w ↦ rw w.if-poisoned.false (end ∙ ap (λ s. s.bytes ++ (32 ∷ (text ++ (10 ∷ [])))) w.into-is)
    ]
