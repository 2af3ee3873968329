-- There is no front, or it waits.
use Rattle.std.proofs.Common.{◌≡◌, ◌∙◌, ℕ, true, false, length, sym, ap, ap₂, subst}
use Rattle.std.specs.Prelude.{nat_lt, slice_get}
use Rattle.hmc_codes.specs.Commands.{is_posted}
use Rattle.hmc_codes.specs.Request.{RequestFields}
use Rattle.hmc_queues.specs.Queues.{IsQueue, packets_at, size_at}
use Rattle.hmc_queues.specs.declared.queue_name.QueueName.{QueueName}
use Rattle.hmc_queues.specs.declared.queue_name.QueueName.TheVariants as names
use Rattle.hmc_schedule.specs.declared.step.Step.{Step}
use Rattle.hmc_schedule.specs.declared.step.Step.TheVariants as steps
use Rattle.hmc_entries.specs.declared.outcome.Cause.TheVariants as causes
use Rattle.hmc_entries.specs.declared.entry.Entry.{Entry}
use Rattle.hmc_entries.specs.declared.entry.Entry.TheVariants.{Idle}
use Rattle.hmc_journal.specs.Setup.{unit_cube}
use Rattle.hmc_check.specs.Past.{PastFields, PastParts, past_of}
use Rattle.hmc_check.specs.Units.{step_of, queue_name, answers_name, IsRequestAt}
use Rattle.hmc_check.proofs.Holding.{of_parts, some_of, idle_takes}
use Rattle.hmc_check.proofs.Spreading.{some_there}
use Rattle.hmc_check.proofs.Executing.{queue_there, answers_there, unit_empty, unit_bare, unit_full}
use Rattle.hmc_check.proofs.Tests.{below}
use Rattle.hmc_check.proofs.past.Past.execute_front.Goals as goal

pub returns-in_default : goal.returns-in_default
returns-in_default g c =
    let i = c.self.inside in
    let old : PastFields = record { topology = i.wiring; queues = i.queues; cubes = i.plain; slots = g.B.Workbench.slots i.bench; hosts = i.hosts.items; ends = i.ends; piped = i.piped; tally = i.tally; last = i.last } in
    let unit = c.args.unit in
    let none_at : slice_get (packets_at i.queues c.args.cube c.queue_of.result) 0 ≡ slice_get (packets_at i.queues (unit_cube unit) (queue_name unit)) 0 =
    ap₂ (λ (n : ℕ) (r : QueueName). slice_get (packets_at i.queues n r) 0) c.requires.cube c.queue_of.ensures in
    of_parts g.B.Workbench.slots _ c.args.self.now _ (step_of c.args.unit) c.self.view_is
    (idle_takes old _ (step_of unit) (step_of unit) causes.Empty (ap (λ (e : Entry). record old { last = e }) (c.idle.ensures ∙ ap (λ (s : Step). Idle s causes.Empty) c.step_of.ensures))
    (λ setup past is. unit_empty setup past old unit is (sym none_at ∙ sym c.front.ensures ∙ c.in_default.is)))

pub returns-in_default-request_of : goal.returns-in_default-request_of
returns-in_default-request_of g c =
    let i = c.self.inside in
    let old : PastFields = record { topology = i.wiring; queues = i.queues; cubes = i.plain; slots = g.B.Workbench.slots i.bench; hosts = i.hosts.items; ends = i.ends; piped = i.piped; tally = i.tally; last = i.last } in
    let unit = c.args.unit in
    let none_at : slice_get (packets_at i.queues c.args.cube c.queue_of.result) 0 ≡ slice_get (packets_at i.queues (unit_cube unit) (queue_name unit)) 0 =
    ap₂ (λ (n : ℕ) (r : QueueName). slice_get (packets_at i.queues n r) 0) c.requires.cube c.queue_of.ensures in
    of_parts g.B.Workbench.slots _ c.args.self.now _ (step_of c.args.unit) c.self.view_is
    (idle_takes old _ (step_of unit) (step_of unit) causes.Empty (ap (λ (e : Entry). record old { last = e }) (c.idle-in_default-request_of.ensures ∙ ap (λ (s : Step). Idle s causes.Empty) c.step_of-in_default-request_of.ensures))
    (λ setup past is. unit_bare setup past old unit c.in-Some.front is (sym none_at ∙ sym c.front.ensures ∙ c.in-Some.is) (sym c.in_default-request_of.ensures.exact)))

pub returns-then-not-has_room : goal.returns-then-not-has_room
returns-then-not-has_room g c =
    let i = c.self.inside in
    let old : PastFields = record { topology = i.wiring; queues = i.queues; cubes = i.plain; slots = g.B.Workbench.slots i.bench; hosts = i.hosts.items; ends = i.ends; piped = i.piped; tally = i.tally; last = i.last } in
    let some = some_of g.B.Workbench.slots _ c.args.self.now (step_of c.args.unit) c.self.view_is c.requires.next in
    let unit = c.args.unit in
    let none_at : slice_get (packets_at i.queues c.args.cube c.queue_of.result) 0 ≡ slice_get (packets_at i.queues (unit_cube unit) (queue_name unit)) 0 =
    ap₂ (λ (n : ℕ) (r : QueueName). slice_get (packets_at i.queues n r) 0) c.requires.cube c.queue_of.ensures in
    let less = (queue_there old unit some.is.holds.sized (some_there old (step_of unit) some)).some_cube in
    let full : nat_lt (length (packets_at i.queues (unit_cube unit) (answers_name unit))) (size_at i.queues (unit_cube unit)) ≡ false =
    ap₂ (λ (n : ℕ) (r : QueueName). nat_lt (length (packets_at i.queues n r)) (size_at i.queues n)) (sym c.requires.cube) (sym c.answers_of.ensures) ∙ sym c.has_room.ensures ∙ c.if-not-has_room.true in
    of_parts g.B.Workbench.slots _ c.args.self.now _ (step_of c.args.unit) c.self.view_is
    (idle_takes old _ (step_of unit) (step_of unit) causes.Full (ap (λ (e : Entry). record old { last = e }) (c.idle-then-not-has_room.ensures ∙ ap (λ (s : Step). Idle s causes.Full) c.step_of-then-not-has_room.ensures))
    (λ setup past is. unit_full setup past old unit c.in-Some.front c.in-Some-request_of.request is less (sym none_at ∙ sym c.front.ensures ∙ c.in-Some.is) (sym c.in-Some-request_of.ensures.exact) (ap (λ (r : RequestFields). is_posted r.command) (sym c.request.view_is) ∙ sym c.posted.ensures ∙ c.if-posted.false) full))

pub front-requires : goal.front-requires
front-requires g c =
    let i = c.self.inside in
    let old : PastFields = record { topology = i.wiring; queues = i.queues; cubes = i.plain; slots = g.B.Workbench.slots i.bench; hosts = i.hosts.items; ends = i.ends; piped = i.piped; tally = i.tally; last = i.last } in
    let some = some_of g.B.Workbench.slots _ c.args.self.now (step_of c.args.unit) c.self.view_is c.requires.next in
    let sized = some.is.holds.sized in
    let there = some_there old (step_of c.args.unit) some in
    subst (λ (n : ℕ). IsQueue i.queues n c.queue_of.result) (sym c.requires.cube)
    (subst (λ (r : QueueName). IsQueue i.queues (unit_cube c.args.unit) r) (sym c.queue_of.ensures) (queue_there old c.args.unit sized there))

pub has_room-requires : goal.has_room-requires
has_room-requires g c =
    let i = c.self.inside in
    let old : PastFields = record { topology = i.wiring; queues = i.queues; cubes = i.plain; slots = g.B.Workbench.slots i.bench; hosts = i.hosts.items; ends = i.ends; piped = i.piped; tally = i.tally; last = i.last } in
    let some = some_of g.B.Workbench.slots _ c.args.self.now (step_of c.args.unit) c.self.view_is c.requires.next in
    let sized = some.is.holds.sized in
    let there = some_there old (step_of c.args.unit) some in
    subst (λ (n : ℕ). IsQueue i.queues n c.answers_of.result) (sym c.requires.cube)
    (subst (λ (r : QueueName). IsQueue i.queues (unit_cube c.args.unit) r) (sym c.answers_of.ensures) (answers_there old c.args.unit sized there))

pub execute_posted-requires : goal.execute_posted-requires
execute_posted-requires g c =
    let at : IsRequestAt (past_of g.B.Workbench.slots c.args.self.now) c.args.unit c.args.cube c.in-Some.front c.in-Some-request_of.request = record {
      is_cube = c.requires.cube;
      is_front = ap₂ (λ (v : PastParts _) (r : QueueName). slice_get (packets_at v.queues c.args.cube r) 0) (sym c.self.view_is) (sym c.queue_of.ensures) ∙ sym c.front.ensures ∙ c.in-Some.is;
      carries = sym c.in-Some-request_of.ensures.exact;
    } in
    record { next = c.requires.next; front = at; posted = ap (λ (r : RequestFields). is_posted r.command) (sym c.request.view_is) ∙ sym c.posted.ensures ∙ c.if-posted.true }

pub execute_answered-requires : goal.execute_answered-requires
execute_answered-requires g c =
    let at : IsRequestAt (past_of g.B.Workbench.slots c.args.self.now) c.args.unit c.args.cube c.in-Some.front c.in-Some-request_of.request = record {
      is_cube = c.requires.cube;
      is_front = ap₂ (λ (v : PastParts _) (r : QueueName). slice_get (packets_at v.queues c.args.cube r) 0) (sym c.self.view_is) (sym c.queue_of.ensures) ∙ sym c.front.ensures ∙ c.in-Some.is;
      carries = sym c.in-Some-request_of.ensures.exact;
    } in
    let room : nat_lt (length (packets_at c.args.self.now.queues c.args.cube (answers_name c.args.unit))) (size_at c.args.self.now.queues c.args.cube) ≡ true =
    ap₂ (λ (v : PastParts _) (r : QueueName). nat_lt (length (packets_at v.queues c.args.cube r)) (size_at v.queues c.args.cube)) (sym c.self.view_is) (sym c.answers_of.ensures) ∙ sym c.has_room.ensures ∙ c.if-not-has_room.false in
    record {
      next = c.requires.next;
      front = at;
      answered = ap (λ (r : RequestFields). is_posted r.command) (sym c.request.view_is) ∙ sym c.posted.ensures ∙ c.if-posted.false;
      room = below (length (packets_at c.args.self.now.queues c.args.cube (answers_name c.args.unit))) (size_at c.args.self.now.queues c.args.cube) room;
    }
