-- The steps bank and registers, and retire.
use Rattle.std.proofs.Common.{◌≡◌, ◌<◌, ◌∙◌, ◌&&◌, ℕ, Bool, true, false, not, if◌then◌else◌, nat_le, nat_lt, Option, Some, None, List, [], ◌∷◌, ◌++◌, length, drop, refl, sym, ap, ap₂, subst, arith, append-nil}
use Rattle.std.specs.Prelude.{slice_get}
use Rattle.std.proofs.lemmas.List.{length-set}
use Rattle.hmc_codes.specs.Answer.{CanReply}
use Rattle.hmc_codes.specs.Commands.{is_posted}
use Rattle.hmc_codes.specs.Request.{RequestFields, IsRequest}
use Rattle.hmc_codes.specs.declared.answer.Answer.{Answer}
use Rattle.hmc_codes.specs.declared.unit.Unit.{Unit as RequestUnit}
use Rattle.hmc_codes.specs.declared.unit.Unit.TheVariants as units
use Rattle.hmc_packet.specs.Packet.{PacketFields}
use Rattle.hmc_packet.specs.Transactions.{request_in, reply_packet}
use Rattle.hmc_units.specs.Unit.{UnitFields}
use Rattle.hmc_units.specs.Bench.{is_live, retired_slots}
use Rattle.hmc_serial.specs.Cube.{CubeState, IsCube}
use Rattle.hmc_serial.specs.Machine.{State, IsMachine, machine_of, cube_state_at, no_cube_state, apply, answer_to, retire}
use Rattle.hmc_serial.specs.Perform.{perform_on}
use Rattle.hmc_serial.proofs.AnswerLemmas.{performed_is_carried}
use Rattle.std.proofs.lemmas.List.Elements.{All-get_or}
use Rattle.hmc_schedule.specs.declared.step.Step.{Step}
use Rattle.hmc_schedule.specs.declared.step.Step.TheVariants as steps
use Rattle.hmc_vault.specs.Execute.{must_wait}
use Rattle.hmc_vault.specs.declared.execute.Executed.TheVariants as executions
use Rattle.hmc_journal.specs.Answers.{ran_entry, tag_of}
use Rattle.hmc_journal.specs.Choice.{choose}
use Rattle.hmc_journal.specs.CubeSteps.{execution_entry}
use Rattle.hmc_entries.specs.declared.outcome.Cause.TheVariants as causes
use Rattle.hmc_entries.specs.declared.entry.Entry.{Entry}
use Rattle.hmc_entries.specs.declared.entry.Entry.TheVariants.{Executed, Retired, Idle}
use Rattle.hmc_journal.specs.Basics.{packet_if, tag_number}
use Rattle.hmc_journal.specs.Next.{next}
use Rattle.hmc_journal.specs.QueueInvariant.{IsCubeRequest}
use Rattle.hmc_journal.specs.Queues.{QueueId, same_queue, leaves, enters, arrived, arrival_in, unless_posted, contents, queue_of, answers_of, QueueId as ids}
use Rattle.hmc_journal.specs.Setup.{Topology, Setup, cube_setup, cubes_in, unit_cube}
use Rattle.hmc_journal.specs.Waiting.{queue_size}
use Rattle.hmc_journal.proofs.Moves.{arrives}
use Rattle.hmc_wiring.specs.Ready.{IsStepFor}
use Rattle.hmc_kept.proofs.Fronts.{front_some, front_none, front_all}
use Rattle.hmc_kept.proofs.Units.{own_cube}
use Rattle.hmc_queues.specs.Queues.{CubeQueuesFields, IsQueue, packets_at, size_at, with_packets}
use Rattle.hmc_check.specs.Inside.{inside_of, queue_at}
use Rattle.hmc_check.specs.Inner.{executed_by}
use Rattle.hmc_kept.specs.InCubes.{without_front}
use Rattle.hmc_check.specs.Kept.{moved}
use Rattle.hmc_check.specs.Past.{PastFields, IsSized, Holds, IsNextStep, TakesStep, IsNextOfSome}
use Rattle.hmc_check.specs.Units.{step_of, queue_name, answers_name, IsRequestAt}
use Rattle.hmc_check.proofs.Chosen.{bank_next, registers_next, retire_next}
use Rattle.hmc_check.proofs.Holding.{takes, idle_takes, ends_stay, law_of}
use Rattle.hmc_check.proofs.QueuesLaw.{popped, pushed, at_with}
use Rattle.hmc_check.proofs.Tests.{le_not}
use Rattle.hmc_kept.proofs.Units.{empty_stays}
use Rattle.hmc_check.proofs.Spreading.{kept_of, some_there, vault_queue, bank_queue, is_open, moved_fits, queue_still, cube_there}

-- ---- queues of units

queue_is : (unit : RequestUnit) → queue_at (unit_cube unit) (queue_name unit) ≡ queue_of unit
queue_is (units.Bank cube vault bank) = refl
queue_is (units.Registers cube) = refl

answers_is : (unit : RequestUnit) → queue_at (unit_cube unit) (answers_name unit) ≡ answers_of unit
answers_is (units.Bank cube vault bank) = refl
answers_is (units.Registers cube) = refl

inside_queue : (cubes : List CubeQueuesFields) (unit : RequestUnit) → inside_of cubes (queue_of unit) ≡ packets_at cubes (unit_cube unit) (queue_name unit)
inside_queue cubes (units.Bank cube vault bank) = refl
inside_queue cubes (units.Registers cube) = refl

inside_answers : (cubes : List CubeQueuesFields) (unit : RequestUnit) → inside_of cubes (answers_of unit) ≡ packets_at cubes (unit_cube unit) (answers_name unit)
inside_answers cubes (units.Bank cube vault bank) = refl
inside_answers cubes (units.Registers cube) = refl

pub unit_there : (p : PastFields) (unit : RequestUnit) → IsStepFor p.topology (step_of unit) → unit_cube unit < cubes_in p.topology
unit_there p (units.Bank cube vault bank) there = there.some_vault.some_cube
unit_there p (units.Registers cube) there = there

pub queue_there : (p : PastFields) (unit : RequestUnit) → IsSized p → IsStepFor p.topology (step_of unit) → IsQueue p.queues (unit_cube unit) (queue_name unit)
queue_there p (units.Bank cube vault bank) sized there = bank_queue p cube vault bank sized there.some_vault there.some_bank
queue_there p (units.Registers cube) sized there = record { some_cube = cube_there p cube sized there; there = refl }

pub answers_there : (p : PastFields) (unit : RequestUnit) → IsSized p → IsStepFor p.topology (step_of unit) → IsQueue p.queues (unit_cube unit) (answers_name unit)
answers_there p (units.Bank cube vault bank) sized there =
    let room = vault_queue p cube vault sized there.some_vault in record { some_cube = room.some_cube; there = room.there }
answers_there p (units.Registers cube) sized there = record { some_cube = cube_there p cube sized there; there = refl }

-- a front's request is one of its cube
front_own : (setup : Setup) (past : List Entry) (p : PastFields) (unit : RequestUnit) (front : PacketFields) → IsNextStep setup past p (step_of unit) → slice_get (packets_at p.queues (unit_cube unit) (queue_name unit)) 0 ≡ Some front → front.cube ≡ unit_cube unit
front_own setup past p (units.Bank cube vault bank) front is first =
    (front_all (IsCubeRequest cube) (contents setup.topology past (ids.Bank cube vault bank)) front (ap (λ (l : List PacketFields). slice_get l 0) (sym (is.holds.inner.queues (ids.Bank cube vault bank) tt)) ∙ first) ((law_of setup past p is.holds).queues.banks cube vault bank)).cube
front_own setup past p (units.Registers cube) front is first =
    (front_all (IsCubeRequest cube) (contents setup.topology past (ids.Registers cube)) front (ap (λ (l : List PacketFields). slice_get l 0) (sym (is.holds.inner.queues (ids.Registers cube) tt)) ∙ first) ((law_of setup past p is.holds).queues.registers cube)).cube

pub request_own : (p : PastFields) (unit : RequestUnit) (front : PacketFields) (request : RequestFields) → IsNextOfSome p (step_of unit) → slice_get (packets_at p.queues (unit_cube unit) (queue_name unit)) 0 ≡ Some front → request_in front ≡ Some request → request.cube ≡ unit_cube unit
request_own p unit front request some first carries = own_cube front request (unit_cube unit) carries (front_own some.setup some.past p unit front some.is first)

-- ---- which entry it is

unit_next : (setup : Setup) (past : List Entry) (p : PastFields) (unit : RequestUnit) → IsNextStep setup past p (step_of unit) → executed_by setup.topology (kept_of p) unit (step_of unit) ≡ next setup past (step_of unit)
unit_next setup past p (units.Bank cube vault bank) is = bank_next setup past (kept_of p) cube vault bank is.holds.inner
unit_next setup past p (units.Registers cube) is = registers_next setup past (kept_of p) cube is.holds.inner

pub unit_empty : (setup : Setup) (past : List Entry) (p : PastFields) (unit : RequestUnit) → IsNextStep setup past p (step_of unit) → slice_get (packets_at p.queues (unit_cube unit) (queue_name unit)) 0 ≡ None → Idle (step_of unit) causes.Empty ≡ next setup past (step_of unit)
unit_empty setup past p unit is none =
    sym (front_none (step_of unit) (inside_of p.queues (queue_of unit)) _ (ap (λ (l : List PacketFields). slice_get l 0) (inside_queue p.queues unit) ∙ none)) ∙ unit_next setup past p unit is

unit_front : (setup : Setup) (past : List Entry) (p : PastFields) (unit : RequestUnit) (front : PacketFields) (found : Option RequestFields) → IsNextStep setup past p (step_of unit) → slice_get (packets_at p.queues (unit_cube unit) (queue_name unit)) 0 ≡ Some front → request_in front ≡ found
    → execution_entry unit (step_of unit) front (packets_at p.queues (unit_cube unit) (answers_name unit)) (queue_size setup.topology unit) (machine_of p.cubes p.slots) found ≡ next setup past (step_of unit)
unit_front setup past p unit front found is first carries =
    ap₂ (λ (l : List PacketFields) (r : Option RequestFields). execution_entry unit (step_of unit) front l (queue_size setup.topology unit) (machine_of p.cubes p.slots) r) (sym (inside_answers p.queues unit)) (sym carries)
    ∙ sym (front_some (step_of unit) (inside_of p.queues (queue_of unit)) front _ (ap (λ (l : List PacketFields). slice_get l 0) (inside_queue p.queues unit) ∙ first)) ∙ unit_next setup past p unit is

pub unit_bare : (setup : Setup) (past : List Entry) (p : PastFields) (unit : RequestUnit) (front : PacketFields) → IsNextStep setup past p (step_of unit) → slice_get (packets_at p.queues (unit_cube unit) (queue_name unit)) 0 ≡ Some front → request_in front ≡ None → Idle (step_of unit) causes.Empty ≡ next setup past (step_of unit)
unit_bare setup past p unit front is first none = unit_front setup past p unit front None is first none

by_wait : (unit : RequestUnit) (step : Step) (host tag : ℕ) (request : RequestFields) (answer : Answer) (waits : Bool) → ran_entry unit step (if waits then executions.Full else executions.Ran host tag request answer) ≡ (if waits then Idle step causes.Full else Executed unit host (tag_of (is_posted request.command) tag) request answer)
by_wait unit step host tag request answer true = refl
by_wait unit step host tag request answer false = refl

unit_runs : (setup : Setup) (past : List Entry) (p : PastFields) (unit : RequestUnit) (front : PacketFields) (request : RequestFields) (posted full : Bool) → IsNextStep setup past p (step_of unit) → slice_get (packets_at p.queues (unit_cube unit) (queue_name unit)) 0 ≡ Some front → request_in front ≡ Some request
    → is_posted request.command ≡ posted → nat_le (queue_size setup.topology unit) (length (packets_at p.queues (unit_cube unit) (answers_name unit))) ≡ full
    → (if not posted && full then Idle (step_of unit) causes.Full else Executed unit front.slid (tag_of posted front.tag) request (answer_to (machine_of p.cubes p.slots) request)) ≡ next setup past (step_of unit)
unfolding answer_to
unit_runs setup past p unit front request posted full is first carries posted_is full_is =
    let answer = (perform_on (cube_state_at (machine_of p.cubes p.slots) request.cube) p.slots request).answer in
    let waits : must_wait request (packets_at p.queues (unit_cube unit) (answers_name unit)) (queue_size setup.topology unit) ≡ (not posted && full) = ap₂ (λ (a b : Bool). not a && b) posted_is full_is in
    ap (λ (b : Bool). if not posted && full then Idle (step_of unit) causes.Full else Executed unit front.slid (tag_of b front.tag) request answer) (sym posted_is)
    ∙ sym (by_wait unit (step_of unit) front.slid front.tag request answer (not posted && full))
    ∙ ap (λ (t : Bool). ran_entry unit (step_of unit) (if t then executions.Full else executions.Ran front.slid front.tag request answer)) (sym waits)
    ∙ unit_front setup past p unit front (Some request) is first carries

unit_size : (setup : Setup) (past : List Entry) (p : PastFields) (unit : RequestUnit) → Holds setup past p → unit_cube unit < length p.queues → size_at p.queues (unit_cube unit) ≡ queue_size setup.topology unit
unit_size setup past p unit holds less = (holds.sized.fits (unit_cube unit) less).size ∙ ap (λ (t : Topology). (cube_setup t (unit_cube unit)).queue) holds.topology

room_full : (setup : Setup) (past : List Entry) (p : PastFields) (unit : RequestUnit) (room : Bool) → Holds setup past p → unit_cube unit < length p.queues → nat_lt (length (packets_at p.queues (unit_cube unit) (answers_name unit))) (size_at p.queues (unit_cube unit)) ≡ room
    → nat_le (queue_size setup.topology unit) (length (packets_at p.queues (unit_cube unit) (answers_name unit))) ≡ not room
room_full setup past p unit room holds less has =
    ap (λ (n : ℕ). nat_le n (length (packets_at p.queues (unit_cube unit) (answers_name unit)))) (sym (unit_size setup past p unit holds less)) ∙ le_not (length (packets_at p.queues (unit_cube unit) (answers_name unit))) (size_at p.queues (unit_cube unit)) room has

pub unit_full : (setup : Setup) (past : List Entry) (p : PastFields) (unit : RequestUnit) (front : PacketFields) (request : RequestFields) → IsNextStep setup past p (step_of unit) → unit_cube unit < length p.queues → slice_get (packets_at p.queues (unit_cube unit) (queue_name unit)) 0 ≡ Some front → request_in front ≡ Some request
    → is_posted request.command ≡ false → nat_lt (length (packets_at p.queues (unit_cube unit) (answers_name unit))) (size_at p.queues (unit_cube unit)) ≡ false → Idle (step_of unit) causes.Full ≡ next setup past (step_of unit)
unit_full setup past p unit front request is less first carries answered none =
    unit_runs setup past p unit front request false true is first carries answered (room_full setup past p unit false is.holds less none)

-- ---- what it leaves

apply_count : (state : State) (request : RequestFields) → length (apply state request).cubes ≡ length state.cubes
unfolding apply
apply_count state request = length-set state.cubes request.cube _

count_is : (cubes : List CubeState) (slots : List (Option UnitFields)) (old : PastFields) (request : RequestFields) → machine_of cubes slots ≡ apply (machine_of old.cubes old.slots) request → length cubes ≡ length old.cubes
count_is cubes slots old request is = ap (λ (s : State). length s.cubes) is ∙ apply_count (machine_of old.cubes old.slots) request

sized_machine : (p : PastFields) (cubes : List CubeState) (slots : List (Option UnitFields)) (entry : Entry) → IsSized p → length cubes ≡ length p.cubes → IsSized (record p { cubes = cubes; slots = slots; last = entry })
sized_machine p cubes slots entry sized same = record { queues = sized.queues; fits = sized.fits; cubes = same ∙ sized.cubes; hosts = sized.hosts; ends = sized.ends; piped = sized.piped }

posted_queues : (setup : Setup) (past : List Entry) (p : PastFields) (unit : RequestUnit) (host : ℕ) (tag : Option ℕ) (request : RequestFields) (answer : Answer) (q : QueueId) → IsSized p → IsQueue p.queues (unit_cube unit) (queue_name unit) → is_posted request.command ≡ true
    → inside_of (with_packets (unit_cube unit) (queue_name unit) (drop 1 (packets_at p.queues (unit_cube unit) (queue_name unit))) p.queues) q ≡ moved (leaves past (Executed unit host tag request answer)) (arrives setup.topology past (Executed unit host tag request answer)) (inside_of p.queues) q
unfolding leaves enters
posted_queues setup past p unit host tag request answer q sized from posted =
    popped p.queues (unit_cube unit) (queue_name unit) q (is_open p (unit_cube unit) (queue_name unit) sized from)
    ∙ ap (λ (n : QueueId). without_front (same_queue n q) (inside_of p.queues q)) (queue_is unit)
    ∙ sym (append-nil (without_front (same_queue (queue_of unit) q) (inside_of p.queues q)))
    ∙ ap (λ (b : Bool). without_front (same_queue (queue_of unit) q) (inside_of p.queues q) ++ arrived q (arrival_in (unless_posted b (answers_of unit)) (λ n. reply_packet answer (tag_number tag) host request.cube))) (sym posted)

pub posted_takes : (old new : PastFields) (unit : RequestUnit) (front : PacketFields) (request : RequestFields) (cubes : List CubeState) (slots : List (Option UnitFields)) → IsNextOfSome old (step_of unit) → IsRequestAt old unit (unit_cube unit) front request → is_posted request.command ≡ true
    → machine_of cubes slots ≡ apply (machine_of old.cubes old.slots) request
    → new ≡ record old { queues = with_packets (unit_cube unit) (queue_name unit) (drop 1 (packets_at old.queues (unit_cube unit) (queue_name unit))) old.queues; cubes = cubes; slots = slots; last = Executed unit front.slid None request (answer_to (machine_of old.cubes old.slots) request) }
    → TakesStep old new (step_of unit)
posted_takes old new unit front request cubes slots some at posted state_is now =
    let sized = some.is.holds.sized in
    let from = queue_there old unit sized (some_there old (step_of unit) some) in
    let answer = answer_to (machine_of old.cubes old.slots) request in
    let entry = Executed unit front.slid None request answer in
    let first_sized = moved_fits old (unit_cube unit) (queue_name unit) (drop 1 (packets_at old.queues (unit_cube unit) (queue_name unit))) sized from.some_cube in
    subst (λ (p : PastFields). TakesStep old p (step_of unit)) (sym now)
    (takes old _ (step_of unit) (λ setup past is. record {
      entry = entry;
      last = refl;
      is_next = unit_runs setup past old unit front request true _ is at.is_front at.carries posted refl;
      after = record {
        topology = refl;
        queues = λ q inner. posted_queues setup past old unit front.slid None request answer q sized from posted;
        state = state_is;
        hosts = refl;
        host = tt;
        piped = refl;
        ends = λ on. ends_stay setup past old (step_of unit) is;
        sized = sized_machine (record old { queues = with_packets (unit_cube unit) (queue_name unit) (drop 1 (packets_at old.queues (unit_cube unit) (queue_name unit))) old.queues }) cubes slots entry first_sized (count_is cubes slots old request state_is);
      };
    }) refl)

answered_queues : (setup : Setup) (past : List Entry) (p : PastFields) (unit : RequestUnit) (host tag : ℕ) (request : RequestFields) (answer : Answer) (q : QueueId) → IsSized p → IsQueue p.queues (unit_cube unit) (queue_name unit) → IsQueue p.queues (unit_cube unit) (answers_name unit) → is_posted request.command ≡ false
    → (let one = with_packets (unit_cube unit) (queue_name unit) (drop 1 (packets_at p.queues (unit_cube unit) (queue_name unit))) p.queues in
    inside_of (with_packets (unit_cube unit) (answers_name unit) (packets_at one (unit_cube unit) (answers_name unit) ++ reply_packet answer tag host request.cube ∷ []) one) q)
    ≡ moved (leaves past (Executed unit host (Some tag) request answer)) (arrives setup.topology past (Executed unit host (Some tag) request answer)) (inside_of p.queues) q
unfolding leaves enters
answered_queues setup past p unit host tag request answer q sized from to answered =
    let cube = unit_cube unit in
    let one = with_packets cube (queue_name unit) (drop 1 (packets_at p.queues cube (queue_name unit))) p.queues in
    let one_sized = moved_fits p cube (queue_name unit) (drop 1 (packets_at p.queues cube (queue_name unit))) sized from.some_cube in
    let still = queue_still p cube (queue_name unit) (answers_name unit) (drop 1 (packets_at p.queues cube (queue_name unit))) sized from to in
    let back = reply_packet answer tag host request.cube in
    pushed one cube (answers_name unit) back q (is_open (record p { queues = one }) cube (answers_name unit) one_sized still)
    ∙ ap₂ (λ (l : List PacketFields) (n : QueueId). l ++ packet_if (same_queue n q) (λ x. back)) (popped p.queues cube (queue_name unit) q (is_open p cube (queue_name unit) sized from)) (answers_is unit)
    ∙ ap (λ (n : QueueId). without_front (same_queue n q) (inside_of p.queues q) ++ packet_if (same_queue (answers_of unit) q) (λ x. back)) (queue_is unit)
    ∙ ap (λ (b : Bool). without_front (same_queue (queue_of unit) q) (inside_of p.queues q) ++ arrived q (arrival_in (unless_posted b (answers_of unit)) (λ n. back))) (sym answered)

pub answered_takes : (old new : PastFields) (unit : RequestUnit) (front : PacketFields) (request : RequestFields) (cubes : List CubeState) (slots : List (Option UnitFields)) → IsNextOfSome old (step_of unit) → IsRequestAt old unit (unit_cube unit) front request → is_posted request.command ≡ false
    → nat_lt (length (packets_at old.queues (unit_cube unit) (answers_name unit))) (size_at old.queues (unit_cube unit)) ≡ true
    → machine_of cubes slots ≡ apply (machine_of old.cubes old.slots) request
    → (let one = with_packets (unit_cube unit) (queue_name unit) (drop 1 (packets_at old.queues (unit_cube unit) (queue_name unit))) old.queues in
    let answer = answer_to (machine_of old.cubes old.slots) request in
    new ≡ record old { queues = with_packets (unit_cube unit) (answers_name unit) (packets_at one (unit_cube unit) (answers_name unit) ++ reply_packet answer front.tag front.slid request.cube ∷ []) one; cubes = cubes; slots = slots; last = Executed unit front.slid (Some front.tag) request answer })
    → TakesStep old new (step_of unit)
answered_takes old new unit front request cubes slots some at answered has state_is now =
    let cube = unit_cube unit in
    let sized = some.is.holds.sized in
    let there = some_there old (step_of unit) some in
    let from = queue_there old unit sized there in
    let to = answers_there old unit sized there in
    let answer = answer_to (machine_of old.cubes old.slots) request in
    let entry = Executed unit front.slid (Some front.tag) request answer in
    let one = with_packets cube (queue_name unit) (drop 1 (packets_at old.queues cube (queue_name unit))) old.queues in
    let one_sized = moved_fits old cube (queue_name unit) (drop 1 (packets_at old.queues cube (queue_name unit))) sized from.some_cube in
    let still = queue_still old cube (queue_name unit) (answers_name unit) (drop 1 (packets_at old.queues cube (queue_name unit))) sized from to in
    let two = packets_at one cube (answers_name unit) ++ reply_packet answer front.tag front.slid request.cube ∷ [] in
    let two_sized = moved_fits (record old { queues = one }) cube (answers_name unit) two one_sized still.some_cube in
    subst (λ (p : PastFields). TakesStep old p (step_of unit)) (sym now)
    (takes old _ (step_of unit) (λ setup past is. record {
      entry = entry;
      last = refl;
      is_next = unit_runs setup past old unit front request false false is at.is_front at.carries answered (room_full setup past old unit true is.holds from.some_cube has);
      after = record {
        topology = refl;
        queues = λ q inner. answered_queues setup past old unit front.slid front.tag request answer q sized from to answered;
        state = state_is;
        hosts = refl;
        host = tt;
        piped = refl;
        ends = λ on. ends_stay setup past old (step_of unit) is;
        sized = sized_machine (record old { queues = with_packets cube (answers_name unit) two one }) cubes slots entry two_sized (count_is cubes slots old request state_is);
      };
    }) refl)

-- ---- the answer of a machine can be carried

pub can_reply : (cubes : List CubeState) (slots : List (Option UnitFields)) (request : RequestFields) → IsMachine (machine_of cubes slots) → IsRequest request → request.cube < length cubes → is_posted request.command ≡ false → CanReply (answer_to (machine_of cubes slots) request)
unfolding answer_to
can_reply cubes slots request machine is there answered =
    (performed_is_carried (cube_state_at (machine_of cubes slots) request.cube) slots request (All-get_or IsCube cubes request.cube no_cube_state there machine.cubes) is).carried answered

-- ---- retire

retire_entry : (setup : Setup) (past : List Entry) (p : PastFields) (slot : ℕ) (live : Bool) → IsNextStep setup past p (steps.Retire slot) → is_live p.slots slot ≡ live → (if live then Retired slot else Idle (steps.Retire slot) causes.Empty) ≡ next setup past (steps.Retire slot)
retire_entry setup past p slot live is at =
    ap (λ (t : Bool). if t then Retired slot else Idle (steps.Retire slot) causes.Empty) (sym at) ∙ retire_next setup past (kept_of p) slot is.holds.inner

retired_queues : (setup : Setup) (past : List Entry) (slot : ℕ) (inside : QueueId → List PacketFields) (q : QueueId) → inside q ≡ moved (leaves past (Retired slot)) (arrives setup.topology past (Retired slot)) inside q
unfolding leaves enters
retired_queues setup past slot inside q = sym (append-nil (inside q))

retired_state : (p : PastFields) (slot : ℕ) → machine_of p.cubes (retired_slots p.slots slot) ≡ retire (machine_of p.cubes p.slots) slot
unfolding retire
retired_state p slot = refl

pub retire_takes : (old new : PastFields) (slot : ℕ) → is_live old.slots slot ≡ true → new ≡ record old { slots = retired_slots old.slots slot; last = Retired slot } → TakesStep old new (steps.Retire slot)
retire_takes old new slot live now =
    subst (λ (p : PastFields). TakesStep old p (steps.Retire slot)) (sym now)
    (takes old _ (steps.Retire slot) (λ setup past is. record {
      entry = Retired slot;
      last = refl;
      is_next = retire_entry setup past old slot true is live;
      after = record {
        topology = refl;
        queues = λ q inner. retired_queues setup past slot (inside_of old.queues) q;
        state = retired_state old slot;
        hosts = refl;
        host = tt;
        piped = refl;
        ends = λ on. ends_stay setup past old (steps.Retire slot) is;
        sized = sized_machine old old.cubes (retired_slots old.slots slot) (Retired slot) is.holds.sized refl;
      };
    }) refl)

pub retire_none : (old new : PastFields) (slot : ℕ) → is_live old.slots slot ≡ false → new ≡ record old { slots = retired_slots old.slots slot; last = Idle (steps.Retire slot) causes.Empty } → TakesStep old new (steps.Retire slot)
retire_none old new slot gone now =
    idle_takes old new (steps.Retire slot) (steps.Retire slot) causes.Empty
    (now ∙ ap (λ (s : List (Option UnitFields)). record old { slots = s; last = Idle (steps.Retire slot) causes.Empty }) (empty_stays old.slots slot gone))
    (λ setup past is. retire_entry setup past old slot false is gone)

-- ---- conditions of the calls

pub machine_there : (p : PastFields) (unit : RequestUnit) (front : PacketFields) (request : RequestFields) → IsNextOfSome p (step_of unit) → IsRequestAt p unit (unit_cube unit) front request → request.cube < length p.cubes
machine_there p unit front request some at =
    let own = request_own p unit front request some at.is_front at.carries in
    let there = unit_there p unit (some_there p (step_of unit) some) in
    omega (arith, own, there, some.is.holds.sized.cubes)

-- the answers of a unit are others than its requests
answers_apart : (unit : RequestUnit) → same_queue (queue_at (unit_cube unit) (queue_name unit)) (queue_at (unit_cube unit) (answers_name unit)) ≡ false
answers_apart (units.Bank cube vault bank) = refl
answers_apart (units.Registers cube) = refl

pub answers_still : (p : PastFields) (unit : RequestUnit) (packets : List PacketFields) → IsSized p → IsQueue p.queues (unit_cube unit) (queue_name unit) → packets_at (with_packets (unit_cube unit) (queue_name unit) packets p.queues) (unit_cube unit) (answers_name unit) ≡ packets_at p.queues (unit_cube unit) (answers_name unit)
answers_still p unit packets sized from =
    at_with p.queues (unit_cube unit) (unit_cube unit) (queue_name unit) (answers_name unit) packets (is_open p (unit_cube unit) (queue_name unit) sized from)
    ∙ ap (λ (b : Bool). choose b packets (packets_at p.queues (unit_cube unit) (answers_name unit))) (answers_apart unit)
