-- How steps are written in a schedule: one line a step.
use Rattle.std.specs.Prelude.{ℕ, List, [], ◌∷◌, codes, if◌then◌else◌}
use Rattle.std.specs.Fmt.{decimal}
use Rattle.std.specs.List.{flat_map}
use Rattle.std.specs.Str.{bytes_eq}
use Rattle.hex.specs.Hex.{encode_lower}
use Rattle.hmc_codes.specs.Flit.{zero_flit}
use Rattle.hmc_codes.specs.Text.{line}
use Rattle.hmc_schedule.specs.declared.step.Step.{Step}
use Rattle.hmc_schedule.specs.declared.step.Step.TheVariants.{Land}
use Rattle.hmc_entries.specs.Lines.{step_words}

-- a mask as a word, or none where it changes nothing
abbrev pub mask_text : List ℕ → List (List ℕ)
mask_text mask = if bytes_eq mask zero_flit then [] else encode_lower mask ∷ []

-- the same at the end of a line
abbrev pub mask_end : List ℕ → List ℕ
mask_end mask = if bytes_eq mask zero_flit then [] else 32 ∷ encode_lower mask

-- the words of a step: those of a report, and after those of a landing its mask
abbrev pub written_words : Step → List (List ℕ)
written_words (Land direction mask) = codes "land" ∷ decimal direction ∷ mask_text mask
written_words step = step_words step

-- the line of a step
abbrev pub step_line : Step → List ℕ
step_line step = line (written_words step)

-- a schedule, printed
unfoldable pub schedule_text : List Step → List ℕ
schedule_text steps = flat_map step_line steps
