-- A request is executed, and its answer waits.
use Rattle.std.proofs.Common.{◌≡◌, ◌<◌, ◌++◌, ◌∷◌, ◌∙◌, [], List, ℕ, true, Some, length, drop, refl, sym, ap, ap₂, subst, arith}
use Rattle.std.specs.Prelude.{nat_lt, slice_get}
use Rattle.hmc_codes.specs.Answer.{CanReply}
use Rattle.hmc_codes.specs.Request.{RequestFields}
use Rattle.hmc_codes.specs.declared.answer.Answer.{Answer}
use Rattle.hmc_packet.specs.Packet.{PacketFields}
use Rattle.hmc_packet.specs.Transactions.{reply_packet}
use Rattle.hmc_serial.specs.Machine.{machine_of, answer_to}
use Rattle.hmc_queues.specs.Queues.{CubeQueuesFields, packets_at, size_at, with_packets, IsQueue}
use Rattle.hmc_queues.specs.declared.queue_name.QueueName.{QueueName}
use Rattle.hmc_entries.specs.declared.entry.Entry.{Entry}
use Rattle.hmc_entries.specs.declared.entry.Entry.TheVariants.{Executed}
use Rattle.hmc_journal.specs.Setup.{unit_cube}
use Rattle.hmc_check.specs.Past.{PastFields, PastParts}
use Rattle.hmc_check.specs.Units.{step_of, queue_name, answers_name, IsRequestAt}
use Rattle.hmc_check.proofs.Holding.{of_parts, some_of}
use Rattle.hmc_check.proofs.Spreading.{some_there, still_size, queue_still}
use Rattle.hmc_check.proofs.Tests.{lt_is}
use Rattle.hmc_check.proofs.Executing.{queue_there, answers_there, answered_takes, can_reply, machine_there, answers_still}
use Rattle.hmc_check.proofs.past.Past.execute_answered.Goals as goal

pub apply-answer-requires : goal.apply-answer-requires
apply-answer-requires g c =
    let i = c.self.inside in
    let old : PastFields = record { topology = i.wiring; queues = i.queues; cubes = i.plain; slots = g.B.Workbench.slots i.bench; hosts = i.hosts.items; ends = i.ends; piped = i.piped; tally = i.tally; last = i.last } in
    let some = some_of g.B.Workbench.slots _ c.args.self.now (step_of c.args.unit) c.self.view_is c.requires.next in
    let unit = c.args.unit in
    let request = c.args.request.now in
    let front = c.args.front.now in
    let is_cube = c.requires.front.is_cube in
    let queues_is : i.queues ≡ c.args.self.now.queues = ap (λ (p : PastParts _). p.queues) c.self.view_is in
    let at : IsRequestAt old unit (unit_cube unit) front request = record {
      is_cube = refl;
      is_front = ap₂ (λ (r : List CubeQueuesFields) (n : ℕ). slice_get (packets_at r n (queue_name unit)) 0) queues_is (sym is_cube) ∙ c.requires.front.is_front;
      carries = c.requires.front.carries;
    } in
    machine_there old unit front request some at

pub reply-back-requires-clause-answer : goal.reply-back-requires-clause-answer
reply-back-requires-clause-answer g c =
    let i = c.self.inside in
    let old : PastFields = record { topology = i.wiring; queues = i.queues; cubes = i.plain; slots = g.B.Workbench.slots i.bench; hosts = i.hosts.items; ends = i.ends; piped = i.piped; tally = i.tally; last = i.last } in
    let some = some_of g.B.Workbench.slots _ c.args.self.now (step_of c.args.unit) c.self.view_is c.requires.next in
    let unit = c.args.unit in
    let request = c.args.request.now in
    let front = c.args.front.now in
    let is_cube = c.requires.front.is_cube in
    let queues_is : i.queues ≡ c.args.self.now.queues = ap (λ (p : PastParts _). p.queues) c.self.view_is in
    let at : IsRequestAt old unit (unit_cube unit) front request = record {
      is_cube = refl;
      is_front = ap₂ (λ (r : List CubeQueuesFields) (n : ℕ). slice_get (packets_at r n (queue_name unit)) 0) queues_is (sym is_cube) ∙ c.requires.front.is_front;
      carries = c.requires.front.carries;
    } in
    subst CanReply (sym c.apply-answer.ensures.answer) (can_reply i.plain (g.B.Workbench.slots i.bench) request c.apply-answer.ensures.machine c.invariant.ensures (machine_there old unit front request some at) c.requires.answered)

pub push-requires-clause-room : goal.push-requires-clause-room
push-requires-clause-room g c =
    let i = c.self.inside in
    let old : PastFields = record { topology = i.wiring; queues = i.queues; cubes = i.plain; slots = g.B.Workbench.slots i.bench; hosts = i.hosts.items; ends = i.ends; piped = i.piped; tally = i.tally; last = i.last } in
    let some = some_of g.B.Workbench.slots _ c.args.self.now (step_of c.args.unit) c.self.view_is c.requires.next in
    let unit = c.args.unit in
    let request = c.args.request.now in
    let front = c.args.front.now in
    let is_cube = c.requires.front.is_cube in
    let queues_is : i.queues ≡ c.args.self.now.queues = ap (λ (p : PastParts _). p.queues) c.self.view_is in
    let at : IsRequestAt old unit (unit_cube unit) front request = record {
      is_cube = refl;
      is_front = ap₂ (λ (r : List CubeQueuesFields) (n : ℕ). slice_get (packets_at r n (queue_name unit)) 0) queues_is (sym is_cube) ∙ c.requires.front.is_front;
      carries = c.requires.front.carries;
    } in
    let popped : c.pop.new.self ≡ with_packets (unit_cube unit) (queue_name unit) (drop 1 (packets_at i.queues (unit_cube unit) (queue_name unit))) i.queues =
    c.pop.ensures ∙ ap₂ (λ (n : ℕ) (r : QueueName). with_packets n r (drop 1 (packets_at i.queues n r)) i.queues) is_cube c.queue_of.ensures in
    let sized = some.is.holds.sized in
    let there = some_there old (step_of unit) some in
    let from = queue_there old unit sized there in
    let to = answers_there old unit sized there in
    let rest = drop 1 (packets_at i.queues (unit_cube unit) (queue_name unit)) in
    let room : length (packets_at i.queues (unit_cube unit) (answers_name unit)) < size_at i.queues (unit_cube unit) =
    subst (λ (n : ℕ). length (packets_at i.queues n (answers_name unit)) < size_at i.queues n) is_cube (subst (λ (r : List CubeQueuesFields). length (packets_at r c.args.cube (answers_name unit)) < size_at r c.args.cube) (sym queues_is) c.requires.room) in
    let now : length (packets_at (with_packets (unit_cube unit) (queue_name unit) rest i.queues) (unit_cube unit) (answers_name unit)) < size_at (with_packets (unit_cube unit) (queue_name unit) rest i.queues) (unit_cube unit) =
    omega (arith, room, ap length (answers_still old unit rest sized from), still_size old (unit_cube unit) (queue_name unit) rest sized from) in
    subst (λ (r : List CubeQueuesFields). length (packets_at r c.args.cube c.answers_of.result) < size_at r c.args.cube) (sym popped)
    (subst (λ (x : QueueName). length (packets_at (with_packets (unit_cube unit) (queue_name unit) rest i.queues) c.args.cube x) < size_at (with_packets (unit_cube unit) (queue_name unit) rest i.queues) c.args.cube) (sym c.answers_of.ensures)
    (subst (λ (n : ℕ). length (packets_at (with_packets (unit_cube unit) (queue_name unit) rest i.queues) n (answers_name unit)) < size_at (with_packets (unit_cube unit) (queue_name unit) rest i.queues) n) (sym is_cube) now))

pub returns : goal.returns
returns g c =
    let i = c.self.inside in
    let old : PastFields = record { topology = i.wiring; queues = i.queues; cubes = i.plain; slots = g.B.Workbench.slots i.bench; hosts = i.hosts.items; ends = i.ends; piped = i.piped; tally = i.tally; last = i.last } in
    let some = some_of g.B.Workbench.slots _ c.args.self.now (step_of c.args.unit) c.self.view_is c.requires.next in
    let unit = c.args.unit in
    let request = c.args.request.now in
    let front = c.args.front.now in
    let is_cube = c.requires.front.is_cube in
    let queues_is : i.queues ≡ c.args.self.now.queues = ap (λ (p : PastParts _). p.queues) c.self.view_is in
    let at : IsRequestAt old unit (unit_cube unit) front request = record {
      is_cube = refl;
      is_front = ap₂ (λ (r : List CubeQueuesFields) (n : ℕ). slice_get (packets_at r n (queue_name unit)) 0) queues_is (sym is_cube) ∙ c.requires.front.is_front;
      carries = c.requires.front.carries;
    } in
    let popped : c.pop.new.self ≡ with_packets (unit_cube unit) (queue_name unit) (drop 1 (packets_at i.queues (unit_cube unit) (queue_name unit))) i.queues =
    c.pop.ensures ∙ ap₂ (λ (n : ℕ) (r : QueueName). with_packets n r (drop 1 (packets_at i.queues n r)) i.queues) is_cube c.queue_of.ensures in
    let has : nat_lt (length (packets_at i.queues (unit_cube unit) (answers_name unit))) (size_at i.queues (unit_cube unit)) ≡ true =
    lt_is (length (packets_at i.queues (unit_cube unit) (answers_name unit))) (size_at i.queues (unit_cube unit))
    (subst (λ (n : ℕ). length (packets_at i.queues n (answers_name unit)) < size_at i.queues n) is_cube (subst (λ (r : List CubeQueuesFields). length (packets_at r c.args.cube (answers_name unit)) < size_at r c.args.cube) (sym queues_is) c.requires.room)) in
    let answer = answer_to (machine_of i.plain (g.B.Workbench.slots i.bench)) request in
    let one = with_packets (unit_cube unit) (queue_name unit) (drop 1 (packets_at i.queues (unit_cube unit) (queue_name unit))) i.queues in
    let slid : c.front.inside.slid ≡ front.slid = ap (λ (p : PacketFields). p.slid) c.front.view_is in
    let tag : c.front.inside.tag ≡ front.tag = ap (λ (p : PacketFields). p.tag) c.front.view_is in
    let own : c.request.inside.cube ≡ request.cube = ap (λ (r : RequestFields). r.cube) c.request.view_is in
    let back : c.reply-back.result ≡ reply_packet answer front.tag front.slid request.cube =
    c.reply-back.ensures ∙ ap (λ (a : Answer). reply_packet a c.front.inside.tag c.front.inside.slid c.request.inside.cube) c.apply-answer.ensures.answer
    ∙ ap₂ (λ (t s : ℕ). reply_packet answer t s c.request.inside.cube) tag slid ∙ ap (reply_packet answer front.tag front.slid) own in
    let pushed : c.push.new.self ≡ with_packets (unit_cube unit) (answers_name unit) (packets_at one (unit_cube unit) (answers_name unit) ++ reply_packet answer front.tag front.slid request.cube ∷ []) one =
    c.push.ensures ∙ ap₂ (λ (n : ℕ) (r : QueueName). with_packets n r (packets_at c.pop.new.self n r ++ c.reply-back.result ∷ []) c.pop.new.self) is_cube c.answers_of.ensures
    ∙ ap₂ (λ (l : List CubeQueuesFields) (b : PacketFields). with_packets (unit_cube unit) (answers_name unit) (packets_at l (unit_cube unit) (answers_name unit) ++ b ∷ []) l) popped back in
    let entry : c.executed.new.self ≡ Executed unit front.slid (Some front.tag) request answer =
    c.executed.ensures ∙ ap₂ (λ (n t : ℕ). Executed unit n (Some t) request c.apply-answer.result) slid tag ∙ ap (Executed unit front.slid (Some front.tag) request) c.apply-answer.ensures.answer in
    of_parts g.B.Workbench.slots _ c.args.self.now _ (step_of c.args.unit) c.self.view_is
    (answered_takes old _ unit front request c.apply-answer.new.self (g.B.Workbench.slots c.apply-answer.new.bench) some at c.requires.answered has c.apply-answer.ensures.state
    (ap₂ (λ (r : List CubeQueuesFields) (e : Entry). record old { queues = r; cubes = c.apply-answer.new.self; slots = g.B.Workbench.slots c.apply-answer.new.bench; last = e }) pushed entry))

pub pop-requires : goal.pop-requires
pop-requires g c =
    let i = c.self.inside in
    let old : PastFields = record { topology = i.wiring; queues = i.queues; cubes = i.plain; slots = g.B.Workbench.slots i.bench; hosts = i.hosts.items; ends = i.ends; piped = i.piped; tally = i.tally; last = i.last } in
    let some = some_of g.B.Workbench.slots _ c.args.self.now (step_of c.args.unit) c.self.view_is c.requires.next in
    let sized = some.is.holds.sized in
    let there = some_there old (step_of c.args.unit) some in
    subst (λ (n : ℕ). IsQueue i.queues n c.queue_of.result) (sym c.requires.front.is_cube)
    (subst (λ (r : QueueName). IsQueue i.queues (unit_cube c.args.unit) r) (sym c.queue_of.ensures) (queue_there old c.args.unit sized there))

pub push-requires-clause-there : goal.push-requires-clause-there
push-requires-clause-there g c =
    let i = c.self.inside in
    let old : PastFields = record { topology = i.wiring; queues = i.queues; cubes = i.plain; slots = g.B.Workbench.slots i.bench; hosts = i.hosts.items; ends = i.ends; piped = i.piped; tally = i.tally; last = i.last } in
    let some = some_of g.B.Workbench.slots _ c.args.self.now (step_of c.args.unit) c.self.view_is c.requires.next in
    let sized = some.is.holds.sized in
    let there = some_there old (step_of c.args.unit) some in
    let unit = c.args.unit in
    let is_cube = c.requires.front.is_cube in
    let rest = drop 1 (packets_at i.queues (unit_cube unit) (queue_name unit)) in
    let popped : c.pop.new.self ≡ with_packets (unit_cube unit) (queue_name unit) (drop 1 (packets_at i.queues (unit_cube unit) (queue_name unit))) i.queues =
    c.pop.ensures ∙ ap₂ (λ (n : ℕ) (r : QueueName). with_packets n r (drop 1 (packets_at i.queues n r)) i.queues) is_cube c.queue_of.ensures in
    subst (λ (r : List CubeQueuesFields). IsQueue r c.args.cube c.answers_of.result) (sym popped)
    (subst (λ (x : QueueName). IsQueue (with_packets (unit_cube unit) (queue_name unit) rest i.queues) c.args.cube x) (sym c.answers_of.ensures)
    (subst (λ (n : ℕ). IsQueue (with_packets (unit_cube unit) (queue_name unit) rest i.queues) n (answers_name unit)) (sym is_cube)
    (queue_still old (unit_cube unit) (queue_name unit) (answers_name unit) rest sized (queue_there old unit sized there) (answers_there old unit sized there))))
