-- The line of an entry isn't empty.
use Rattle.std.proofs.Common.{◌<◌, length, ◌∷◌, [], ◌++◌}
use Rattle.std.specs.Prelude.{codes}
use Rattle.std.specs.Fmt.{decimal}
use Rattle.hex.specs.Hex.{encode_lower}
use Rattle.hmc_codes.specs.Text.{spaced_words, request_text, answer_text}
use Rattle.hmc_entries.specs.declared.entry.Entry.{Entry}
use Rattle.hmc_entries.specs.declared.entry.Entry.TheVariants.{Gave, Sent, Landed, Shifted, Dropped, Spread, Executed, Lifted, Took, Discarded, Through, Unlocked, Retired, Passed, Idle}
use Rattle.hmc_entries.specs.Lines.{line_of, tag_text, request_words, unit_text, what_text, outcome_text, goal_text, lift_text, cause_text, step_words}
use Rattle.hmc_report.proofs.SomeLemmas.{line-some}

pub line_of-some : (entry : Entry) → 0 < length (line_of entry)
unfolding line_of
line_of-some (Gave host tag poisoned request) = line-some (codes "gave" ∷ decimal host ∷ tag_text tag ∷ request_words poisoned request)
line_of-some (Sent direction what flit) = line-some (codes "sent" ∷ decimal direction ∷ what_text what ∷ encode_lower flit ∷ [])
line_of-some (Landed direction flit outcome) = line-some (codes "landed" ∷ decimal direction ∷ encode_lower flit ∷ outcome_text outcome ∷ [])
line_of-some (Shifted cube port goal) = line-some (codes "shifted" ∷ decimal cube ∷ decimal port ∷ goal_text goal ∷ [])
line_of-some (Dropped cube port) = line-some (codes "dropped" ∷ decimal cube ∷ decimal port ∷ [])
line_of-some (Spread cube vault bank) = line-some (codes "spread" ∷ decimal cube ∷ decimal vault ∷ decimal bank ∷ [])
line_of-some (Executed unit host tag request answer) = line-some (codes "executed" ∷ unit_text unit ∷ decimal host ∷ tag_text tag ∷ request_text request ∷ answer_text answer ∷ [])
line_of-some (Lifted cube from port) = line-some (codes "lifted" ∷ decimal cube ∷ lift_text from ∷ (codes "p" ++ decimal port) ∷ [])
line_of-some (Took host tag answer) = line-some (codes "took" ∷ decimal host ∷ decimal tag ∷ answer_text answer ∷ [])
line_of-some (Discarded host) = line-some (codes "discarded" ∷ decimal host ∷ [])
line_of-some (Through cube port direction) = line-some (codes "through" ∷ decimal cube ∷ decimal port ∷ decimal direction ∷ [])
line_of-some (Unlocked direction) = line-some (codes "unlocked" ∷ decimal direction ∷ [])
line_of-some (Retired slot) = line-some (codes "retired" ∷ decimal slot ∷ [])
line_of-some (Passed direction flit) = line-some (codes "passed" ∷ decimal direction ∷ encode_lower flit ∷ [])
line_of-some (Idle step cause) = line-some (codes "idle" ∷ spaced_words (step_words step) ∷ cause_text cause ∷ [])
