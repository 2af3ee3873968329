-- The walk over a journal: one machine, the requests that wait, the oldest first, and the answers
-- that are ready.
use Rattle.std.specs.Prelude.{ℕ, Bool, true, false, ◌==◌, ◌&&◌, ◌||◌, nat_lt, length, List, [], ◌∷◌, ◌++◌, Option, Some, None}
use Rattle.std.specs.Str.{bytes_eq}
use Rattle.hmc_codes.specs.Commands.{code_of}
use Rattle.hmc_codes.specs.Request.{RequestFields}
use Rattle.hmc_codes.specs.declared.answer.Answer.{Answer}
use Rattle.hmc_codes.specs.declared.unit.Unit.{Unit as RequestUnit}
use Rattle.hmc_units.specs.Unit.{UnitFields}
use Rattle.hmc_serial.specs.Cube.{CubeState}
use Rattle.hmc_serial.specs.Machine.{State, apply, answer_to, machine_of, retire}
use Rattle.hmc_entries.specs.declared.entry.Entry.{Entry}
use Rattle.hmc_entries.specs.declared.entry.Entry.TheVariants.{Gave, Took, Executed, Retired}
use Rattle.hmc_journal.specs.Filters.{same_unit}
use Rattle.hmc_journal.specs.Setup.{Topology, unit_in}
use Rattle.hmc_search.specs.Kept.{same_answer, shares_tag}
use Rattle.hmc_search.specs.declared.waiting.Ready.{Ready}
use Rattle.hmc_search.specs.declared.waiting.Waiting.{Waiting}
use Rattle.hmc_search.specs.Point.{Point, start_at, in_lane, ready_under}
use Rattle.hmc_judge.specs.Picked.{Picked, first_out}

-- a value where a test holds
abbrev pub some_if : {X : Type 0} → Bool → X → Option X
some_if true x = Some x
some_if false x = None

-- the same tag, or none
abbrev pub same_tags : (a b : Option ℕ) → Bool
same_tags None None = true
same_tags (Some a) (Some b) = a == b
same_tags _ _ = false

-- the same request
abbrev pub same_request : (a b : RequestFields) → Bool
same_request a b = (code_of a.command == code_of b.command)
    && ((a.cube == b.cube) && ((a.address == b.address) && bytes_eq a.payload b.payload))

-- the same request of the same host under the same tag
abbrev pub same_waiting : (a b : Waiting) → Bool
same_waiting a b =
    (a.host == b.host) && (same_tags a.tag b.tag && same_request a.request b.request)

-- while another request waits this one can't be executed: they share a lane or a tag
abbrev pub is_before : Topology → (next other : Waiting) → Bool
is_before topology next other = in_lane topology next.host (unit_in topology next.request) other
    || shares_tag next.host next.tag other

-- the first of these can be executed if it is this one, and its unit is this one
abbrev pub left_by : Topology → RequestUnit → Waiting → Option (Picked Waiting) →
    Option (List Waiting)
left_by topology unit next None = None
left_by topology unit next (Some picked) =
    some_if (same_waiting next picked.first && same_unit (unit_in topology next.request) unit)
    picked.rest

-- the requests that are left where a unit executes this one next; None where it can't
unfoldable pub left_waiting : Topology → RequestUnit → Waiting → List Waiting → Option (List Waiting)
left_waiting topology unit next waiting =
    left_by topology unit next (first_out (is_before topology next) waiting)

abbrev pub left_if : Answer → Option (Picked Ready) → Option (List Ready)
left_if answer None = None
left_if answer (Some picked) = some_if (same_answer picked.first.answer answer) picked.rest

-- the answers that are left where a host takes this one next; None where it can't
unfoldable pub left_ready : (host tag : ℕ) → Answer → List Ready → Option (List Ready)
left_ready host tag answer ready = left_if answer (first_out (ready_under host tag) ready)

-- a request that was given waits, unless it is poisoned; one that is has no tag
abbrev pub waiting_with : (host : ℕ) → Option ℕ → (poisoned : Bool) → RequestFields →
    List Waiting → Option (List Waiting)
waiting_with host tag false request waiting =
    Some (waiting ++ record { host = host; tag = tag; request = request } ∷ [])
waiting_with host None true request waiting = Some waiting
waiting_with host (Some tag) true request waiting = None

abbrev pub waiting_if : Point → Option (List Waiting) → Option Point
waiting_if point None = None
waiting_if point (Some waiting) = Some (record point { waiting = waiting })

-- an answer is ready if its request has a tag
abbrev pub ready_with : (host : ℕ) → Option ℕ → Answer → List Ready → List Ready
ready_with host None answer ready = ready
ready_with host (Some tag) answer ready =
    ready ++ record { host = host; tag = Some tag; answer = answer } ∷ []

-- a request was executed, and these are left
abbrev pub performed : Point → Waiting → Answer → List Waiting → Point
performed point next answer rest = record {
  machine = apply point.machine next.request;
  waiting = rest;
  ready = ready_with next.host next.tag answer point.ready;
}

-- a request's cube is there, and the machine gives this answer
abbrev pub gives : State → RequestFields → Answer → Bool
gives machine request answer = nat_lt request.cube (length machine.cubes)
    && same_answer (answer_to machine request) answer

abbrev pub performed_if : Point → Waiting → Answer → Option (List Waiting) → Option Point
performed_if point next answer None = None
performed_if point next answer (Some rest) =
    some_if (gives point.machine next.request answer) (performed point next answer rest)

abbrev pub taken_if : Point → Option (List Ready) → Option Point
taken_if point None = None
taken_if point (Some rest) = Some (record point { ready = rest })

-- the state of a machine and two lists
abbrev pub point_of : List CubeState → List (Option UnitFields) → List Waiting → List Ready → Point
point_of cubes slots waiting ready = record {
  machine = machine_of cubes slots;
  waiting = waiting;
  ready = ready;
}

-- the state after one more entry; None where the walk can't go on
unfoldable pub walk_step : Topology → Point → Entry → Option Point
walk_step topology point (Gave host tag poisoned request) =
    waiting_if point (waiting_with host tag poisoned request point.waiting)
walk_step topology point (Executed unit host tag request answer) =
    performed_if point (record { host = host; tag = tag; request = request }) answer
    (left_waiting topology unit (record { host = host; tag = tag; request = request }) point.waiting)
walk_step topology point (Took host tag answer) =
    taken_if point (left_ready host tag answer point.ready)
walk_step topology point (Retired slot) =
    Some (record point { machine = retire point.machine slot })
walk_step topology point _ = Some point

abbrev pub step_from : Topology → Entry → Option Point → Option Point
step_from topology entry None = None
step_from topology entry (Some point) = walk_step topology point entry

-- the state after a journal, the newest entry first
unfoldable pub walked : Topology → State → List Entry → Option Point
walked topology opening [] = Some (start_at opening)
walked topology opening (entry ∷ past) = step_from topology entry (walked topology opening past)
