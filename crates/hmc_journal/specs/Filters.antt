-- The requests and answers of a journal, the oldest first: by host the requests given, by host and
-- unit those given to it and executed there, and by host and tag those asked, replied to and taken.
use Rattle.std.specs.Prelude.{ℕ, Bool, false, not, ◌==◌, ◌&&◌, List, [], ◌∷◌, Option, Some, None}
use Rattle.hmc_journal.specs.Choice.{append_if}
use Rattle.hmc_codes.specs.Commands.{is_posted}
use Rattle.hmc_codes.specs.Request.{RequestFields}
use Rattle.hmc_codes.specs.declared.answer.Answer.{Answer}
use Rattle.hmc_codes.specs.declared.unit.Unit.{Unit as RequestUnit}
use Rattle.hmc_codes.specs.declared.unit.Unit.TheVariants as units
pub use Rattle.hmc_hops.specs.Flows.{TaggedRequest, TaggedAnswer}
use Rattle.hmc_entries.specs.declared.entry.Entry.{Entry}
use Rattle.hmc_entries.specs.declared.entry.Entry.TheVariants.{Gave, Executed, Took}
use Rattle.hmc_journal.specs.Setup.{Topology, unit_in}
use Rattle.hmc_journal.specs.Queues.{QueueId, same_queue, answers_of, tag_number}

-- a request as a script says it
pub record ScriptRequest : Type 0 where
  pub poisoned : Bool
  pub request : RequestFields

-- a request with its answer
pub record Completion : Type 0 where
  pub request : RequestFields
  pub answer : Answer

-- the same bank, or the registers of the same cube
abbrev pub same_unit : RequestUnit → RequestUnit → Bool
same_unit (units.Bank c v b) (units.Bank d w a) = (c == d) && ((v == w) && (b == a))
same_unit (units.Registers c) (units.Registers d) = c == d
same_unit _ _ = false

-- a request has this tag; it may have none
abbrev pub same_tag : Option ℕ → ℕ → Bool
same_tag None tag = false
same_tag (Some t) tag = t == tag

-- all requests that a host gave
unfoldable pub given_by : (host : ℕ) → List Entry → List ScriptRequest
given_by h [] = []
given_by h (Gave host tag poisoned request ∷ past) =
    append_if (host == h) (record { poisoned = poisoned; request = request } ∷ []) (given_by h past)
given_by h (_ ∷ past) = given_by h past

-- the requests that a host gave to a unit, except poisoned ones
unfoldable pub given_to : Topology → (host : ℕ) → RequestUnit → List Entry → List TaggedRequest
given_to topology h unit [] = []
given_to topology h unit (Gave host tag poisoned request ∷ past) =
    append_if ((host == h) && (not poisoned && same_unit (unit_in topology request) unit))
    (record { tag = tag; request = request } ∷ []) (given_to topology h unit past)
given_to topology h unit (_ ∷ past) = given_to topology h unit past

-- the requests of a host that a unit executed
unfoldable pub executed_by : (host : ℕ) → RequestUnit → List Entry → List TaggedRequest
executed_by h unit [] = []
executed_by h unit (Executed here host tag request answer ∷ past) =
    append_if ((host == h) && same_unit here unit) (record { tag = tag; request = request } ∷ [])
    (executed_by h unit past)
executed_by h unit (_ ∷ past) = executed_by h unit past

-- the requests that a host gave under a tag
unfoldable pub asked_under : (host tag : ℕ) → List Entry → List RequestFields
asked_under h t [] = []
asked_under h t (Gave host tag poisoned request ∷ past) =
    append_if ((host == h) && same_tag tag t) (request ∷ []) (asked_under h t past)
asked_under h t (_ ∷ past) = asked_under h t past

-- the requests of a host that were executed under a tag, with their answers
unfoldable pub replies_under : (host tag : ℕ) → List Entry → List Completion
replies_under h t [] = []
replies_under h t (Executed unit host tag request answer ∷ past) =
    append_if ((host == h) && same_tag tag t) (record { request = request; answer = answer } ∷ [])
    (replies_under h t past)
replies_under h t (_ ∷ past) = replies_under h t past

-- the answers that a host took under a tag
unfoldable pub answers_under : (host tag : ℕ) → List Entry → List Answer
answers_under h t [] = []
answers_under h t (Took host tag answer ∷ past) =
    append_if ((host == h) && (tag == t)) (answer ∷ []) (answers_under h t past)
answers_under h t (_ ∷ past) = answers_under h t past

-- the answers, with their tags, to the requests that were executed into a queue of answers; a
-- posted request has none
unfoldable pub answered_into : (queue : QueueId) → List Entry → List TaggedAnswer
answered_into here [] = []
answered_into here (Executed unit host tag request answer ∷ past) =
    append_if (not (is_posted request.command) && same_queue (answers_of unit) here)
    (record { tag = tag_number tag; answer = answer } ∷ []) (answered_into here past)
answered_into here (_ ∷ past) = answered_into here past

-- the answers that a host took, with their tags
unfoldable pub taken_by : (host : ℕ) → List Entry → List TaggedAnswer
taken_by h [] = []
taken_by h (Took host tag answer ∷ past) =
    append_if (host == h) (record { tag = tag; answer = answer } ∷ []) (taken_by h past)
taken_by h (_ ∷ past) = taken_by h past
