-- Requests in the words of a script.
use Rattle.std.specs.Prelude.{◌≡◌, ℕ, List, [], ◌∷◌, length, Option, Some, None, IfSome, option_map, Result, Ok, Err}
use Rattle.hmc_script.specs.Items.{ItemFields}
use Rattle.hmc_script.specs.Script.{script_of}
use Rattle.hmc_script.specs.declared.fault.ScriptKind.{ScriptKind}
use Rattle.hmc_schedule.specs.Plan.{PlanFields}
use Rattle.hmc_entries.specs.declared.entry.Entry.{Entry}
use Rattle.hmc_journal.specs.Setup.{Setup}
use Rattle.hmc_growing.specs.Growing.{with_item}
use Rattle.hmc_session.specs.declared.refusal.NotAsked.TheVariants as causes
use Rattle.hmc_session.specs.declared.refusal.LineNotAsked.{LineNotAsked}
use Rattle.hmc_session.specs.declared.refusal.LineNotAsked.TheVariants.{Fault, NotOne, Refused}
use Rattle.hmc_session.specs.Refusals.{ask_refusal}
use Rattle.hmc_session.specs.Session.{SessionFields, StandsIn}

-- what a refusal says of the text and of the session: nothing where it is out of memory
abbrev pub told_of : LineNotAsked → Option LineNotAsked
told_of (Fault line kind) = Some (Fault line kind)
told_of NotOne = Some NotOne
told_of (Refused causes.NoHost) = Some (Refused causes.NoHost)
told_of (Refused causes.NoCube) = Some (Refused causes.NoCube)
told_of (Refused causes.Finished) = Some (Refused causes.Finished)
told_of (Refused causes.Full) = Some (Refused causes.Full)
told_of (Refused causes.Memory) = None

-- the request of a script that has one
abbrev pub only_item : List ItemFields → Result ItemFields LineNotAsked
only_item [] = Err NotOne
only_item (item ∷ []) = Ok item
only_item (item ∷ more ∷ items) = Err NotOne

-- the one request of a text that was read, or its first fault
abbrev pub item_read : Result (List ItemFields) (ℕ × ScriptKind) → Result ItemFields LineNotAsked
item_read (Ok items) = only_item items
item_read (Err fault) = Err (Fault fault.0 fault.1)

-- the one request of a text, in the words of a script for the hosts and cubes of a plan
abbrev pub item_in : PlanFields → (text : List ℕ) → Result ItemFields LineNotAsked
item_in plan text = item_read (script_of plan.hosts (length plan.cubes) text)

-- why the request of a text isn't asked, if it isn't: the text states none, or its host isn't asked
abbrev pub item_refusal : SessionFields → Result ItemFields LineNotAsked → Option LineNotAsked
item_refusal session (Err refusal) = Some refusal
item_refusal session (Ok item) =
    option_map Refused (ask_refusal session item.host item.request.cube)

abbrev pub line_refusal : SessionFields → (text : List ℕ) → Option LineNotAsked
line_refusal session text = item_refusal session (item_in session.plan text)

-- a call returned the request of a text, or why it states none, or was out of memory
abbrev pub GivesItem : Result ItemFields LineNotAsked → Result ItemFields LineNotAsked → Type 0
GivesItem (Ok item) read = read ≡ Ok item
GivesItem (Err refusal) read = IfSome (told_of refusal) (λ told. read ≡ Err told)

-- the session stands for the case with the request of the text, and for the same journal
pub record AskedFor (before now : SessionFields) (setup : Setup) (past : List Entry)
    (text : List ℕ) : Type 0 where
  pub item : ItemFields
  pub states : item_in before.plan text ≡ Ok item
  pub stands : StandsIn now (with_item setup item) past
