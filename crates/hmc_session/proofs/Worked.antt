-- Texts that are asked, laid steps, runs and chosen kinds, computed.
use Rattle.std.proofs.Common.{◌≡◌, ◌∙◌, ◌<◌, ◌+◌, ℕ, List, [], ◌∷◌, ◌++◌, length, length-append, Option, Some, None, Ok, Err, true, false, inl, inr, refl, sym, ap, subst, arith, lit≤}
use Rattle.std.specs.Prelude.{codes, map, slice_index_or}
use Rattle.std.proofs.lemmas.List.{append-nil}
use Rattle.hmc_codes.specs.Codes.{all_commands}
use Rattle.hmc_codes.specs.Table.{table_line}
use Rattle.hmc_codes.specs.declared.command.Command.TheVariants as commands
use Rattle.hmc_codes.specs.declared.lift.Lift.TheVariants as lifts
use Rattle.hmc_text.specs.InTurn.{after_lines}
use Rattle.hmc_text.specs.Lines.{lines_of}
use Rattle.hmc_text.specs.Number.{number_after, number_in, number_of}
use Rattle.hmc_text.specs.Reading.{number_word as number_read}
use Rattle.hmc_text.specs.Words.{words_of}
use Rattle.hmc_script.specs.declared.fault.ScriptKind.TheVariants as kinds
use Rattle.hmc_script.specs.Commands.{requests, command_of}
use Rattle.hmc_script.specs.Meaning.{command_word, request_of, ask_of, fence_of, statement_of, meaning_of}
use Rattle.hmc_script.specs.Payload.{payload_of, no_payload, some_payload, payload_word}
use Rattle.hmc_script.specs.Script.{after_meaning, after_line, script_of}
use Rattle.hmc_codes.specs.Limits.{most_taken}
use Rattle.hmc_host.specs.Host.{HostFields}
use Rattle.hmc_script.specs.Items.{ItemFields}
use Rattle.hmc_schedule.specs.Plan.{PlanFields}
use Rattle.hmc_schedule.specs.declared.step.Step.{Step}
use Rattle.hmc_schedule.specs.declared.step.Step.TheVariants as steps
use Rattle.hmc_entries.specs.declared.entry.Entry.{Entry}
use Rattle.hmc_entries.specs.declared.entry.Entry.TheVariants.{Discarded, Unlocked, Idle}
use Rattle.hmc_entries.specs.declared.event.Event.TheVariants as events
use Rattle.hmc_entries.specs.declared.outcome.Cause.TheVariants.{Empty}
use Rattle.hmc_journal.specs.Setup.{Setup}
use Rattle.hmc_session.specs.Asking.{item_in, told_of}
use Rattle.hmc_session.specs.Numbers.{step_named}
use Rattle.hmc_session.specs.Count.{IsCount}
use Rattle.hmc_session.specs.Refusals.{has_step, refusal_in, step_refusal}
use Rattle.hmc_session.specs.Running.{TakenOrWaiting, StopsOnce, EndsTaken, RunsOn, RunsBy, TriesAll, ended_by, stopped_at}
use Rattle.hmc_session.specs.Session.{SessionFields, IsWaiting, waits_in}
use Rattle.hmc_session.specs.Stops.{event_stop, is_stop, no_stops, IsQuiet}
use Rattle.hmc_session.specs.declared.refusal.LineNotAsked.TheVariants.{Fault, NotOne, Refused}
use Rattle.hmc_session.specs.declared.refusal.NotAsked.TheVariants as causes
use Rattle.hmc_session.specs.declared.refusal.NotTaken.TheVariants as refusals
use Rattle.hmc_session.specs.declared.run.Ran.TheVariants.{Ended, Over, Stopped, Tried, Unknown}
use Rattle.hmc_session.specs.declared.stops.Stops.{Stops}
use Rattle.hmc_session.proofs.Known.{never}

-- ---- texts: two hosts and one cube

abbrev plan : PlanFields
plan = record { hosts = 2; directions = 4; cubes = record { shape = record { vault_bits = 0; bank_bits = 0; rows = 1; block = 256 }; ports = [] } ∷ [] }

-- a fence of its host before it, one of another host, which does nothing, and a comment
item_in-fenced : item_in plan (codes "1 fence" ++ 10 ∷ codes "0 fence" ++ 10 ∷ codes "# one" ++ 10 ∷ codes "1 poison rd16 0 0x40" ++ [])
    ≡ Ok (record { host = 1; fenced = true; poisoned = true; request = record { command = commands.Rd16; cube = 0; address = 64; payload = [] } })
unfolding script_of after_lines after_line after_meaning lines_of words_of meaning_of statement_of fence_of ask_of request_of command_word command_of requests all_commands table_line number_read number_of number_in number_after payload_word no_payload some_payload payload_of
item_in-fenced = refl

-- none, and two
item_in-none : item_in plan (codes "0 fence") ≡ Err NotOne
unfolding script_of after_lines after_line after_meaning lines_of words_of meaning_of statement_of fence_of ask_of request_of command_word command_of requests all_commands table_line number_read number_of number_in number_after payload_word no_payload some_payload payload_of
item_in-none = refl

item_in-two : item_in plan (codes "0 rd16 0 0" ++ 10 ∷ codes "1 rd16 0 0" ++ []) ≡ Err NotOne
unfolding script_of after_lines after_line after_meaning lines_of words_of meaning_of statement_of fence_of ask_of request_of command_word command_of requests all_commands table_line number_read number_of number_in number_after payload_word no_payload some_payload payload_of
item_in-two = refl

-- a cube that isn't there, in line 2
item_in-fault : item_in plan (codes "# one" ++ 10 ∷ codes "0 rd16 1 0" ++ []) ≡ Err (Fault 2 kinds.Cube)
unfolding script_of after_lines after_line after_meaning lines_of words_of meaning_of statement_of fence_of ask_of request_of command_word command_of requests all_commands table_line number_read number_of number_in number_after payload_word no_payload some_payload payload_of
item_in-fault = refl

-- out of memory says nothing of the text
told_of-refusals : map told_of (Refused causes.Memory ∷ Refused causes.Full ∷ NotOne ∷ []) ≡ None ∷ Some (Refused causes.Full) ∷ Some NotOne ∷ []
told_of-refusals = refl

-- ---- steps by numbers, and the parts that they name

-- in place of a vault 255 are the registers; there are twelve kinds
step_named-registers : step_named 7 2 255 9 [] ≡ Some (steps.Lift 2 lifts.Registers)
unfolding step_named
step_named-registers = refl

step_named-vault : step_named 7 2 254 9 [] ≡ Some (steps.Lift 2 (lifts.Vault 254))
unfolding step_named
step_named-vault = refl

step_named-none : step_named 12 0 0 0 [] ≡ None
unfolding step_named
step_named-none = refl

-- the last host, bank and slot, and one more each; a port that no link joins
has_step-last : map (has_step plan) (steps.Give 1 ∷ steps.Bank 0 0 0 ∷ steps.Retire 7 ∷ steps.Lift 0 lifts.Registers ∷ []) ≡ true ∷ true ∷ true ∷ true ∷ []
has_step-last = refl

has_step-past : map (has_step plan) (steps.Give 2 ∷ steps.Bank 0 0 1 ∷ steps.Retire 8 ∷ steps.Lift 1 lifts.Registers ∷ steps.Shift 0 0 ∷ []) ≡ false ∷ false ∷ false ∷ false ∷ false ∷ []
has_step-past = refl

-- a give waits where its host has given all of its requests and isn't finished, and only then
abbrev hosts : List HostFields
hosts = record { number = 0; left = []; given = 1; tags = [] } ∷ record { number = 1; left = item ∷ []; given = 0; tags = [] } ∷ [] where
  item : ItemFields
  item = record { host = 1; fenced = false; poisoned = false; request = record { command = commands.Rd16; cube = 0; address = 64; payload = [] } }

waits_in-open : map (waits_in (false ∷ false ∷ []) hosts) (steps.Give 0 ∷ steps.Give 1 ∷ steps.Give 2 ∷ steps.Take 0 ∷ []) ≡ true ∷ false ∷ false ∷ false ∷ []
waits_in-open = refl

waits_in-finished : waits_in (true ∷ false ∷ []) hosts (steps.Give 0) ≡ false
waits_in-finished = refl

-- a part that isn't there is told before a host that waits
refusal_in-each : map (refusal_in plan (false ∷ false ∷ []) hosts) (steps.Give 0 ∷ steps.Give 1 ∷ steps.Give 2 ∷ steps.Send 4 ∷ steps.Send 3 ∷ []) ≡
    Some refusals.Waits ∷ None ∷ Some refusals.Unknown ∷ Some refusals.Unknown ∷ None ∷ []
refusal_in-each = refl

-- ---- counts

-- three steps were taken, and the last one passed: none may follow
IsCount-passed : IsCount 4 1 true
IsCount-passed = record { few = lit≤ tt; some = lit≤ tt; within = lit≤ tt; all = λ no. absurd cc; none = λ same. refl }

-- none that passed leaves none, and none that didn't leaves fewer than all
IsCount-open : IsCount 4 2 true → ⊥
IsCount-open is = let none : 2 ≡ 1 = is.none refl in absurd (omega (arith, none))

IsCount-short : IsCount 4 1 false → ⊥
IsCount-short is = let all : 4 ≡ most_taken + 1 = is.all refl in absurd cc

-- ---- runs

-- no step was tried and none was taken
TakenOrWaiting-none : (setup : Setup) (past : List Entry) → TakenOrWaiting [] setup past [] [] past
unfolding TakenOrWaiting
TakenOrWaiting-none setup past = refl

-- one that was taken was tried
TakenOrWaiting-untried : (setup : Setup) (past : List Entry) → TakenOrWaiting [] setup past [] (steps.Send 0 ∷ []) past → ⊥
unfolding TakenOrWaiting
TakenOrWaiting-untried setup past is = is

-- a give waits only of a host that isn't finished, and no other step waits
IsWaiting-finished : (setup : Setup) (past : List Entry) → IsWaiting (true ∷ []) setup past (steps.Give 0) → ⊥
IsWaiting-finished setup past is =
    let host : 0 ≡ is.host = cc is.ends.gives in
    let free : true ≡ false = ap (λ (h : ℕ). slice_index_or (true ∷ []) h true) host ∙ is.free in
    absurd cc

IsWaiting-send : (setup : Setup) (past : List Entry) → IsWaiting (false ∷ []) setup past (steps.Send 0) → ⊥
IsWaiting-send setup past is = let gives = is.ends.gives in absurd cc

-- so a send isn't left out, nor is a give of a finished host
TakenOrWaiting-send : (setup : Setup) (past journal : List Entry) → TakenOrWaiting (false ∷ []) setup past (steps.Send 0 ∷ []) [] journal → ⊥
unfolding TakenOrWaiting
TakenOrWaiting-send setup past journal is = IsWaiting-send setup past is.0

TakenOrWaiting-finished : (setup : Setup) (past journal : List Entry) → TakenOrWaiting (true ∷ []) setup past (steps.Give 0 ∷ []) [] journal → ⊥
unfolding TakenOrWaiting
TakenOrWaiting-finished setup past journal is = IsWaiting-finished setup past is.0

-- nor do two steps change places
TakenOrWaiting-order : (setup : Setup) (past journal : List Entry) → TakenOrWaiting (false ∷ []) setup past (steps.Send 0 ∷ steps.Unlock 0 ∷ []) (steps.Unlock 0 ∷ steps.Send 0 ∷ []) journal → ⊥
unfolding TakenOrWaiting
TakenOrWaiting-order setup past journal (inl is) = let same = is.0 in absurd cc
TakenOrWaiting-order setup past journal (inr is) = IsWaiting-send setup past is.0

-- no step was tried that wasn't laid, and they are as many as is said
RunsOn-nothing : (S : Setup → List Entry → Type 0) (setup : Setup) (past : List Entry) (stops : Stops) → RunsOn S [] setup past [] [] stops 1 false → ⊥
RunsOn-nothing S setup past stops is =
    let none : [] ≡ is.tried = is.laid_is ∙ append-nil is.tried in
    let no : 0 ≡ 1 = ap length none ∙ is.count_is in
    absurd cc

-- a send that is off the list was taken
RunsOn-send : (S : Setup → List Entry → Type 0) (setup : Setup) (past : List Entry) (stops : Stops) (is : RunsOn S (false ∷ []) setup past (steps.Send 0 ∷ []) [] stops 1 false) → is.taken ≡ [] → ⊥
RunsOn-send S setup past stops is none =
    let tried : is.tried ≡ steps.Send 0 ∷ [] = sym (is.laid_is ∙ append-nil is.tried) in
    TakenOrWaiting-send setup past (is.entries ++ past)
    (subst (λ (l : List Step). TakenOrWaiting (false ∷ []) setup past l [] (is.entries ++ past)) tried
    (subst (λ (l : List Step). TakenOrWaiting (false ∷ []) setup past is.tried l (is.entries ++ past)) none is.each))

-- where as many as allowed were tried, a run doesn't end since none is left
RunsBy-ended : (S : Setup → List Entry → Type 0) (now : SessionFields) (setup : Setup) (past : List Entry) (stops : Stops) → RunsBy S Ended now setup past [] [] stops 0 → ⊥
RunsBy-ended S now setup past stops is = let few : is.0 < 0 = is.1 in absurd (omega (arith, few))

-- nor because a step is refused, nor at an entry
RunsBy-over : (S : Setup → List Entry → Type 0) (now : SessionFields) (setup : Setup) (past : List Entry) (laid left : List Step) (stops : Stops) → RunsBy S Over now setup past laid left stops 0 → ⊥
RunsBy-over S now setup past laid left stops is = let few = is.few in absurd (omega (arith, few))

RunsBy-refused : (S : Setup → List Entry → Type 0) (now : SessionFields) (setup : Setup) (past : List Entry) (laid left : List Step) (stops : Stops) (most : ℕ) (is : RunsBy S Over now setup past laid left stops most) → step_refusal now is.step ≡ Some refusals.Over
RunsBy-refused S now setup past laid left stops most is = is.refused

RunsBy-stopped : (S : Setup → List Entry → Type 0) (now : SessionFields) (setup : Setup) (past : List Entry) (laid left : List Step) (stops : Stops) → RunsBy S Stopped now setup past laid left stops 0 → ⊥
RunsBy-stopped S now setup past laid left stops is =
    let ends = is.2.ends refl in
    let some : length is.2.tried ≡ length ends.before + 1 = ap length ends.tried_is ∙ length-append ends.before (ends.last ∷ []) in
    let count = is.2.count_is in
    let few = is.1 in
    absurd (omega (arith, some, count, few))

-- of no steps none ends a run, and no step ends it as all tried
TriesAll-ended : (S : Setup → List Entry → Type 0) (now : SessionFields) (setup : Setup) (past : List Entry) (stops : Stops) → TriesAll S (Some Ended) now setup past [] [] stops 0 → ⊥
TriesAll-ended S now setup past stops is = RunsBy-ended S now setup past stops is.1

TriesAll-tried : (S : Setup → List Entry → Type 0) (now : SessionFields) (setup : Setup) (past : List Entry) (laid left : List Step) (stops : Stops) → TriesAll S (Some Tried) now setup past laid left stops 2 → ⊥
TriesAll-tried S now setup past laid left stops is = is.0 refl

-- a step that waits is passed over
ended_by-each : map ended_by (refusals.Waits ∷ refusals.Unknown ∷ refusals.Over ∷ []) ≡ None ∷ Some Unknown ∷ Some Over ∷ []
ended_by-each = refl

-- a run that stopped tried no step after the one at which it stopped
last_of : List Step → Option Step
last_of [] = None
last_of (step ∷ []) = Some step
last_of (step ∷ more ∷ steps) = last_of (more ∷ steps)

last_append : (l : List Step) (step : Step) → last_of (l ++ step ∷ []) ≡ Some step
unfolding last_of
last_append [] step = refl
last_append (first ∷ []) step = refl
last_append (first ∷ second ∷ l) step = last_append (second ∷ l) step

EndsTaken-after : (setup : Setup) (past journal : List Entry) → EndsTaken (false ∷ []) setup past (steps.Unlock 0 ∷ steps.Give 0 ∷ []) (steps.Unlock 0 ∷ []) journal → ⊥
unfolding last_of
EndsTaken-after setup past journal is =
    let tried : Some (steps.Give 0) ≡ Some is.last = ap last_of is.tried_is ∙ last_append is.before is.last in
    let taken : Some (steps.Unlock 0) ≡ Some is.last = ap last_of is.taken_is ∙ last_append is.some is.last in
    absurd cc

-- ---- chosen kinds

abbrev unlocks : Stops
unlocks = record { gave = false; sent = false; landed = false; shifted = false; dropped = false; spread = false; executed = false; lifted = false; took = false; discarded = false; through = false; unlocked = true; retired = false; passed = false; idle = false }

is_stop-each : map (is_stop unlocks) (Unlocked 0 ∷ Discarded 0 ∷ Idle (steps.Take 1) Empty ∷ []) ≡ true ∷ false ∷ false ∷ []
is_stop-each = refl

stopped_at-each : map (stopped_at unlocks) (Unlocked 0 ∷ Discarded 0 ∷ []) ≡ Some Stopped ∷ None ∷ []
stopped_at-each = refl

-- a kind that is chosen isn't quiet
IsQuiet-no_stops : IsQuiet true no_stops
IsQuiet-no_stops = λ is. never

IsQuiet-unlocks : IsQuiet true unlocks → ⊥
IsQuiet-unlocks is = let no : true ≡ false = is refl (Unlocked 0) in absurd cc

-- what is counted as nothing may be of a chosen kind or not
event_stop-each : map (event_stop unlocks) (events.Unlocked 0 ∷ events.Gave 0 ∷ events.Other ∷ []) ≡ Some true ∷ Some false ∷ None ∷ []
event_stop-each = refl

-- the latest entry is the first of a list: a run that stopped has one, and no earlier one is chosen
StopsOnce-nothing : StopsOnce true unlocks [] → ⊥
unfolding StopsOnce
StopsOnce-nothing is = is

StopsOnce-other : StopsOnce true unlocks (Discarded 0 ∷ []) → ⊥
unfolding StopsOnce
StopsOnce-other is = let no : false ≡ true = is.0 in absurd cc
