-- A posted request is executed.
use Rattle.std.proofs.Common.{◌≡◌, ◌∙◌, List, ℕ, None, drop, refl, sym, ap, ap₂}
use Rattle.std.specs.Prelude.{slice_get}
use Rattle.hmc_codes.specs.declared.answer.Answer.{Answer}
use Rattle.hmc_packet.specs.Packet.{PacketFields}
use Rattle.hmc_serial.specs.Machine.{machine_of, answer_to}
use Rattle.hmc_queues.specs.Queues.{CubeQueuesFields, packets_at, with_packets}
use Rattle.hmc_queues.specs.declared.queue_name.QueueName.{QueueName}
use Rattle.hmc_queues.specs.declared.queue_name.QueueName.TheVariants as names
use Rattle.hmc_schedule.specs.declared.step.Step.TheVariants as steps
use Rattle.hmc_entries.specs.declared.outcome.Cause.TheVariants as causes
use Rattle.hmc_entries.specs.declared.entry.Entry.{Entry}
use Rattle.hmc_entries.specs.declared.entry.Entry.TheVariants.{Executed}
use Rattle.hmc_journal.specs.Setup.{unit_cube}
use Rattle.hmc_check.specs.Past.{PastFields, PastParts}
use Rattle.hmc_check.specs.Units.{step_of, queue_name, IsRequestAt}
use Rattle.hmc_check.proofs.Holding.{of_parts, some_of}
use Rattle.hmc_check.proofs.Executing.{posted_takes, machine_there}
use Rattle.hmc_check.proofs.past.Past.execute_posted.Goals as goal

pub apply-answer-requires : goal.apply-answer-requires
apply-answer-requires g c =
    let i = c.self.inside in
    let old : PastFields = record { topology = i.wiring; queues = i.queues; cubes = i.plain; slots = g.B.Workbench.slots i.bench; hosts = i.hosts.items; ends = i.ends; piped = i.piped; tally = i.tally; last = i.last } in
    let some = some_of g.B.Workbench.slots _ c.args.self.now (step_of c.args.unit) c.self.view_is c.requires.next in
    let unit = c.args.unit in
    let request = c.args.request.now in
    let front = c.args.front.now in
    let is_cube = c.requires.front.is_cube in
    let queues_is : i.queues ≡ c.args.self.now.queues = ap (λ (p : PastParts _). p.queues) c.self.view_is in
    let at : IsRequestAt old unit (unit_cube unit) front request = record {
      is_cube = refl;
      is_front = ap₂ (λ (r : List CubeQueuesFields) (n : ℕ). slice_get (packets_at r n (queue_name unit)) 0) queues_is (sym is_cube) ∙ c.requires.front.is_front;
      carries = c.requires.front.carries;
    } in
    machine_there old unit front request some at

pub returns : goal.returns
returns g c =
    let i = c.self.inside in
    let old : PastFields = record { topology = i.wiring; queues = i.queues; cubes = i.plain; slots = g.B.Workbench.slots i.bench; hosts = i.hosts.items; ends = i.ends; piped = i.piped; tally = i.tally; last = i.last } in
    let some = some_of g.B.Workbench.slots _ c.args.self.now (step_of c.args.unit) c.self.view_is c.requires.next in
    let unit = c.args.unit in
    let request = c.args.request.now in
    let front = c.args.front.now in
    let is_cube = c.requires.front.is_cube in
    let queues_is : i.queues ≡ c.args.self.now.queues = ap (λ (p : PastParts _). p.queues) c.self.view_is in
    let at : IsRequestAt old unit (unit_cube unit) front request = record {
      is_cube = refl;
      is_front = ap₂ (λ (r : List CubeQueuesFields) (n : ℕ). slice_get (packets_at r n (queue_name unit)) 0) queues_is (sym is_cube) ∙ c.requires.front.is_front;
      carries = c.requires.front.carries;
    } in
    let popped : c.pop.new.self ≡ with_packets (unit_cube unit) (queue_name unit) (drop 1 (packets_at i.queues (unit_cube unit) (queue_name unit))) i.queues =
    c.pop.ensures ∙ ap₂ (λ (n : ℕ) (r : QueueName). with_packets n r (drop 1 (packets_at i.queues n r)) i.queues) is_cube c.queue_of.ensures in
    let entry : c.executed.new.self ≡ Executed unit front.slid None request (answer_to (machine_of i.plain (g.B.Workbench.slots i.bench)) request) =
    c.executed.ensures ∙ ap₂ (λ (n : ℕ) (a : Answer). Executed unit n None request a) (ap (λ (p : PacketFields). p.slid) c.front.view_is) c.apply-answer.ensures.answer in
    of_parts g.B.Workbench.slots _ c.args.self.now _ (step_of c.args.unit) c.self.view_is
    (posted_takes old _ unit front request c.apply-answer.new.self (g.B.Workbench.slots c.apply-answer.new.bench) some at c.requires.posted c.apply-answer.ensures.state
    (ap₂ (λ (r : List CubeQueuesFields) (e : Entry). record old { queues = r; cubes = c.apply-answer.new.self; slots = g.B.Workbench.slots c.apply-answer.new.bench; last = e }) popped entry))
