-- The line of an entry is its words with one space between, and those are words.
use Rattle.std.proofs.Common.{◌≡◌, ◌∙◌, ℕ, Bool, true, false, Option, List, [], ◌∷◌, ◌++◌, codes, option_to_list, refl, sym, ap, append_assoc}
use Rattle.std.specs.Fmt.{decimal}
use Rattle.std.specs.Int.{w32, to_be_bytes}
use Rattle.hex.specs.Hex.{encode_lower}
use Rattle.hmc_codes.specs.Request.{RequestFields}
use Rattle.hmc_codes.specs.Commands.{word_of}
use Rattle.hmc_codes.specs.Text.{spaced_words, line, hex_number, is_mdwr, operand_of, flag_text, request_text, answer_text}
use Rattle.hmc_codes.specs.declared.answer.Answer.{Answer}
use Rattle.hmc_codes.specs.declared.answer.Answer.TheVariants.{Silent, Done, Read, Register, Stored, Refused}
use Rattle.hmc_codes.specs.declared.unit.Unit.{Unit as Executor}
use Rattle.hmc_codes.specs.declared.unit.Unit.TheVariants as units
use Rattle.hmc_packet.specs.declared.bad.Bad.TheVariants as bads
use Rattle.hmc_packet.specs.declared.kind.Kind.TheVariants as kinds
use Rattle.hmc_packet.specs.declared.outcome.Outcome.{Outcome}
use Rattle.hmc_packet.specs.declared.outcome.Outcome.TheVariants as outcomes
use Rattle.hmc_schedule.specs.declared.step.Step.{Step}
use Rattle.hmc_schedule.specs.declared.step.Step.TheVariants as steps
use Rattle.hmc_script.proofs.MeaningText as meaning
use Rattle.hmc_script.proofs.WordsText.{line-spaced}
use Rattle.hmc_entries.specs.declared.entry.Entry.{Entry}
use Rattle.hmc_entries.specs.declared.entry.Entry.TheVariants.{Gave, Sent, Landed, Shifted, Dropped, Spread, Executed, Lifted, Took, Discarded, Through, Unlocked, Retired, Passed, Idle}
use Rattle.hmc_entries.specs.Lines.{tag_text, unit_text, what_text, outcome_text, goal_text, lift_text, cause_text, step_words, line_of}

-- the words of an answer, and of the other parts that may have several
abbrev pub answer_words : Answer → List (List ℕ)
answer_words Silent = codes "silent" ∷ []
answer_words (Done flag) = codes "done" ∷ flag_text flag ∷ []
answer_words (Read flag payload) = codes "read" ∷ flag_text flag ∷ encode_lower payload ∷ []
answer_words (Register value) = codes "register" ∷ encode_lower (to_be_bytes w32 value) ∷ []
answer_words Stored = codes "stored" ∷ []
answer_words (Refused errstat) = codes "error" ∷ decimal errstat ∷ []

abbrev pub unit_words : Executor → List (List ℕ)
unit_words (units.Bank cube vault bank) = decimal cube ∷ decimal vault ∷ decimal bank ∷ []
unit_words (units.Registers cube) = decimal cube ∷ codes "r" ∷ []

abbrev pub outcome_words : Outcome → List (List ℕ)
outcome_words outcomes.Quiet = codes "quiet" ∷ []
outcome_words outcomes.Trained = codes "trained" ∷ []
outcome_words outcomes.Gathered = codes "gathered" ∷ []
outcome_words outcomes.Accepted = codes "accepted" ∷ []
outcome_words outcomes.Poisoned = codes "poisoned" ∷ []
outcome_words outcomes.Repeat = codes "repeat" ∷ []
outcome_words (outcomes.AbortedBad bads.Length) = codes "aborted" ∷ codes "length" ∷ []
outcome_words (outcomes.AbortedBad bads.Command) = codes "aborted" ∷ codes "command" ∷ []
outcome_words (outcomes.AbortedBad bads.Reserved) = codes "aborted" ∷ codes "reserved" ∷ []
outcome_words (outcomes.AbortedBad bads.Crc) = codes "aborted" ∷ codes "crc" ∷ []
outcome_words outcomes.AbortedOrder = codes "aborted" ∷ codes "order" ∷ []
outcome_words (outcomes.Ran kinds.Start) = codes "ran" ∷ codes "start" ∷ []
outcome_words (outcomes.Ran kinds.Clear) = codes "ran" ∷ codes "clear" ∷ []

abbrev pub poison_words : Bool → RequestFields → List (List ℕ)
poison_words true request = codes "poison" ∷ meaning.request_words request
poison_words false request = meaning.request_words request

-- the words of an entry
abbrev pub entry_words : Entry → List (List ℕ)
entry_words (Gave host tag poisoned request) = codes "gave" ∷ decimal host ∷ tag_text tag ∷ poison_words poisoned request
entry_words (Sent direction what flit) = codes "sent" ∷ decimal direction ∷ what_text what ∷ encode_lower flit ∷ []
entry_words (Landed direction flit outcome) = codes "landed" ∷ decimal direction ∷ encode_lower flit ∷ outcome_words outcome
entry_words (Shifted cube port goal) = codes "shifted" ∷ decimal cube ∷ decimal port ∷ goal_text goal ∷ []
entry_words (Dropped cube port) = codes "dropped" ∷ decimal cube ∷ decimal port ∷ []
entry_words (Spread cube vault bank) = codes "spread" ∷ decimal cube ∷ decimal vault ∷ decimal bank ∷ []
entry_words (Executed unit host tag request answer) =
    codes "executed" ∷ (unit_words unit ++ (decimal host ∷ tag_text tag ∷ (meaning.request_words request ++ answer_words answer)))
entry_words (Lifted cube from port) = codes "lifted" ∷ decimal cube ∷ lift_text from ∷ (codes "p" ++ decimal port) ∷ []
entry_words (Took host tag answer) = codes "took" ∷ decimal host ∷ decimal tag ∷ answer_words answer
entry_words (Discarded host) = codes "discarded" ∷ decimal host ∷ []
entry_words (Through cube port direction) = codes "through" ∷ decimal cube ∷ decimal port ∷ decimal direction ∷ []
entry_words (Unlocked direction) = codes "unlocked" ∷ decimal direction ∷ []
entry_words (Retired slot) = codes "retired" ∷ decimal slot ∷ []
entry_words (Passed direction flit) = codes "passed" ∷ decimal direction ∷ encode_lower flit ∷ []
entry_words (Idle step cause) = codes "idle" ∷ (step_words step ++ (cause_text cause ∷ []))

-- words that stand as one among others are words of the line
line_flat : (v : List ℕ) (vs : List (List ℕ)) (w : List ℕ) (ws : List (List ℕ)) → line (spaced_words (v ∷ vs) ∷ w ∷ ws) ≡ line (v ∷ (vs ++ (w ∷ ws)))
line_flat v [] w ws = refl
line_flat v (u ∷ us) w ws =
    append_assoc v (32 ∷ spaced_words (u ∷ us)) (32 ∷ line (w ∷ ws)) ∙ ap (λ l. v ++ (32 ∷ l)) (line_flat u us w ws)

-- so are those at its end
line_end : (ws : List (List ℕ)) (v : List ℕ) (vs : List (List ℕ)) → line (ws ++ (spaced_words (v ∷ vs) ∷ [])) ≡ line (ws ++ (v ∷ vs))
line_end [] v vs = sym (line-spaced (v ∷ vs))
line_end (w ∷ []) v vs = ap (λ l. w ++ (32 ∷ l)) (sym (line-spaced (v ∷ vs)))
line_end (w ∷ u ∷ ws) v vs = ap (λ l. w ++ (32 ∷ l)) (line_end (u ∷ ws) v vs)

line_answer : (ws : List (List ℕ)) (answer : Answer) → line (ws ++ (answer_text answer ∷ [])) ≡ line (ws ++ answer_words answer)
unfolding answer_text
line_answer ws Silent = line_end ws (codes "silent") []
line_answer ws (Done flag) = line_end ws (codes "done") (flag_text flag ∷ [])
line_answer ws (Read flag payload) = line_end ws (codes "read") (flag_text flag ∷ encode_lower payload ∷ [])
line_answer ws (Register value) = line_end ws (codes "register") (encode_lower (to_be_bytes w32 value) ∷ [])
line_answer ws Stored = line_end ws (codes "stored") []
line_answer ws (Refused errstat) = line_end ws (codes "error") (decimal errstat ∷ [])

request_spaced : (request : RequestFields) → request_text request ≡ spaced_words (meaning.request_words request)
unfolding request_text
request_spaced request = refl

line_request : (request : RequestFields) (w : List ℕ) → line (request_text request ∷ w ∷ []) ≡ line (meaning.request_words request ++ (w ∷ []))
line_request request w =
    ap (λ t. line (t ∷ w ∷ [])) (request_spaced request) ∙ line_flat (word_of request.command) (decimal request.cube ∷ hex_number request.address ∷ option_to_list (operand_of (is_mdwr request.command) request.payload)) w []

line_request_end : (request : RequestFields) → line (request_text request ∷ []) ≡ line (meaning.request_words request)
line_request_end request =
    ap (λ t. line (t ∷ [])) (request_spaced request) ∙ sym (line-spaced (meaning.request_words request))

line_step : (step : Step) (w : List ℕ) → line (spaced_words (step_words step) ∷ w ∷ []) ≡ line (step_words step ++ (w ∷ []))
line_step (steps.Give host) w = line_flat (codes "give") (decimal host ∷ []) w []
line_step (steps.Send direction) w = line_flat (codes "send") (decimal direction ∷ []) w []
line_step (steps.Land direction mask) w = line_flat (codes "land") (decimal direction ∷ []) w []
line_step (steps.Shift cube port) w = line_flat (codes "shift") (decimal cube ∷ decimal port ∷ []) w []
line_step (steps.Spread cube vault) w = line_flat (codes "spread") (decimal cube ∷ decimal vault ∷ []) w []
line_step (steps.Bank cube vault bank) w = line_flat (codes "bank") (decimal cube ∷ decimal vault ∷ decimal bank ∷ []) w []
line_step (steps.Registers cube) w = line_flat (codes "registers") (decimal cube ∷ []) w []
line_step (steps.Lift cube from) w = line_flat (codes "lift") (decimal cube ∷ lift_text from ∷ []) w []
line_step (steps.Take host) w = line_flat (codes "take") (decimal host ∷ []) w []
line_step (steps.Through cube port) w = line_flat (codes "through") (decimal cube ∷ decimal port ∷ []) w []
line_step (steps.Unlock direction) w = line_flat (codes "unlock") (decimal direction ∷ []) w []
line_step (steps.Retire slot) w = line_flat (codes "retire") (decimal slot ∷ []) w []

line_outcome : (outcome : Outcome) → line (outcome_text outcome ∷ []) ≡ line (outcome_words outcome)
line_outcome outcomes.Quiet = refl
line_outcome outcomes.Trained = refl
line_outcome outcomes.Gathered = refl
line_outcome outcomes.Accepted = refl
line_outcome outcomes.Poisoned = refl
line_outcome outcomes.Repeat = refl
line_outcome (outcomes.AbortedBad bads.Length) = refl
line_outcome (outcomes.AbortedBad bads.Command) = refl
line_outcome (outcomes.AbortedBad bads.Reserved) = refl
line_outcome (outcomes.AbortedBad bads.Crc) = refl
line_outcome outcomes.AbortedOrder = refl
line_outcome (outcomes.Ran kinds.Start) = refl
line_outcome (outcomes.Ran kinds.Clear) = refl

line_executed : (u : Executor) (host : ℕ) (tag : Option ℕ) (request : RequestFields) (answer : Answer) →
    line (codes "executed" ∷ unit_text u ∷ decimal host ∷ tag_text tag ∷ request_text request ∷ answer_text answer ∷ []) ≡ line (entry_words (Executed u host tag request answer))
line_executed u host tag request answer =
    let inner : line (request_text request ∷ answer_text answer ∷ []) ≡ line (meaning.request_words request ++ answer_words answer) = line_request request (answer_text answer) ∙ line_answer (meaning.request_words request) answer in
    let tagged = ap (λ (l : List ℕ). tag_text tag ++ (32 ∷ l)) inner in
    let hosted = ap (λ (l : List ℕ). decimal host ++ (32 ∷ l)) tagged in
    by_unit u hosted
  where
    by_unit : (u : Executor) → line (decimal host ∷ tag_text tag ∷ request_text request ∷ answer_text answer ∷ []) ≡ line (decimal host ∷ tag_text tag ∷ (meaning.request_words request ++ answer_words answer)) →
        line (codes "executed" ∷ unit_text u ∷ decimal host ∷ tag_text tag ∷ request_text request ∷ answer_text answer ∷ []) ≡ line (entry_words (Executed u host tag request answer))
    by_unit (units.Bank cube vault bank) same =
        ap (λ l. codes "executed" ++ (32 ∷ l)) (line_flat (decimal cube) (decimal vault ∷ decimal bank ∷ []) (decimal host) (tag_text tag ∷ request_text request ∷ answer_text answer ∷ []) ∙ ap (λ l. decimal cube ++ (32 ∷ (decimal vault ++ (32 ∷ (decimal bank ++ (32 ∷ l)))))) same)
    by_unit (units.Registers cube) same =
        ap (λ l. codes "executed" ++ (32 ∷ l)) (line_flat (decimal cube) (codes "r" ∷ []) (decimal host) (tag_text tag ∷ request_text request ∷ answer_text answer ∷ []) ∙ ap (λ l. decimal cube ++ (32 ∷ (codes "r" ++ (32 ∷ l)))) same)

line_idle : (step : Step) (w : List ℕ) → line (codes "idle" ∷ spaced_words (step_words step) ∷ w ∷ []) ≡ line (codes "idle" ∷ (step_words step ++ (w ∷ [])))
line_idle step w = ap (λ l. codes "idle" ++ (32 ∷ l)) (line_step step w) ∙ head step where
  head : (step : Step) → codes "idle" ++ (32 ∷ line (step_words step ++ (w ∷ []))) ≡ line (codes "idle" ∷ (step_words step ++ (w ∷ [])))
  head (steps.Give host) = refl
  head _ = refl

line_answer_at : (w v : List ℕ) (answer : Answer) → line (w ∷ v ∷ answer_text answer ∷ []) ≡ line (w ∷ v ∷ answer_words answer)
line_answer_at w v answer = line_answer (w ∷ v ∷ []) answer

line_landed : (w v : List ℕ) (outcome : Outcome) → line (w ∷ v ∷ outcome_text outcome ∷ []) ≡ line (w ∷ v ∷ outcome_words outcome)
line_landed w v outcome = ap (λ l. w ++ (32 ∷ (v ++ (32 ∷ l)))) (line_outcome outcome) ∙ head outcome where
  head : (outcome : Outcome) → w ++ (32 ∷ (v ++ (32 ∷ line (outcome_words outcome)))) ≡ line (w ∷ v ∷ outcome_words outcome)
  head (outcomes.AbortedBad bads.Length) = refl
  head (outcomes.AbortedBad bads.Command) = refl
  head (outcomes.AbortedBad bads.Reserved) = refl
  head (outcomes.AbortedBad bads.Crc) = refl
  head (outcomes.Ran kinds.Start) = refl
  head (outcomes.Ran kinds.Clear) = refl
  head _ = refl

-- the line of an entry, in words
pub line_of-words : (entry : Entry) → line_of entry ≡ line (entry_words entry)
unfolding line_of
line_of-words (Gave host tag true request) =
    ap (λ l. codes "gave" ++ (32 ∷ (decimal host ++ (32 ∷ (tag_text tag ++ (32 ∷ (codes "poison" ++ (32 ∷ l)))))))) (line_request_end request)
line_of-words (Gave host tag false request) =
    ap (λ l. codes "gave" ++ (32 ∷ (decimal host ++ (32 ∷ (tag_text tag ++ (32 ∷ l)))))) (line_request_end request)
line_of-words (Sent direction what flit) = refl
line_of-words (Landed direction flit outcome) =
    ap (λ l. codes "landed" ++ (32 ∷ l)) (line_landed (decimal direction) (encode_lower flit) outcome)
line_of-words (Shifted cube port goal) = refl
line_of-words (Dropped cube port) = refl
line_of-words (Spread cube vault bank) = refl
line_of-words (Executed unit host tag request answer) = line_executed unit host tag request answer
line_of-words (Lifted cube from port) = refl
line_of-words (Took host tag answer) =
    ap (λ l. codes "took" ++ (32 ∷ l)) (line_answer_at (decimal host) (decimal tag) answer)
line_of-words (Discarded host) = refl
line_of-words (Through cube port direction) = refl
line_of-words (Unlocked direction) = refl
line_of-words (Retired slot) = refl
line_of-words (Passed direction flit) = refl
line_of-words (Idle step cause) = line_idle step (cause_text cause)
