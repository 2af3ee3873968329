-- The mask ends the words.
use Rattle.std.proofs.Common.{◌∙◌, ◌++◌, ◌∷◌, List, ℕ, codes, ap, sym, append_assoc}
use Rattle.std.specs.Fmt.{decimal}
use Rattle.hmc_step_text.specs.Text.{mask_end}
use Rattle.hmc_step_text.proofs.StepWords.{land_words}
use Rattle.hmc_step_text.proofs.line.push_land.Goals as goal

pub returns-clause-text : goal.returns-clause-text
returns-clause-text c =
    let old = c.args.into.now.bytes in
    let end = mask_end c.args.mask.now in
    c.push_mask.ensures.text ∙ ap (λ (l : List ℕ). l ++ end) c.push_one.ensures.text
    ∙ append_assoc old (codes "land" ++ (32 ∷ decimal c.args.direction)) end
    ∙ ap (λ (l : List ℕ). old ++ l) (sym (land_words c.args.direction c.args.mask.now))
