-- The parts of each entry of a lawful journal fit their types: its numbers are those of its step,
-- or those of parts that are there, and its flits, requests and answers are good ones.
use Rattle.std.proofs.Common.{◌≡◌, ◌≤◌, ◌<◌, ◌/◌, ◌^◌, ◌∙◌, ◌==◌, inl, inr, ℕ, zero, suc, Bool, true, false, Option, Some, None, List, [], ◌∷◌, ◌++◌, length, take, refl, sym, subst, arith}
use Rattle.std.specs.Prelude.{slice_get, slice_index_or}
use Rattle.std.specs.List.{All}
use Rattle.std.proofs.Math.Nat.{mod-lt, pow-le-pow_right}
use Rattle.std.proofs.lemmas.List.Elements.{All-nil, All-cons, All-head, All-tail}
use Rattle.std.proofs.lemmas.Nat.{pow_pos}
use Rattle.std.proofs.lemmas.Option.{same_Some}
use Rattle.hmc_codes.proofs.BytesLemmas.{IsBytes-take}
use Rattle.hmc_codes.specs.Answer.{IsAnswer}
use Rattle.hmc_codes.specs.Bytes.{IsBytes}
use Rattle.hmc_codes.specs.Commands.{family_of, is_posted}
use Rattle.hmc_codes.specs.Flit.{IsFlit}
use Rattle.hmc_codes.specs.Graph.{GraphFields}
use Rattle.hmc_codes.specs.Link.{LinkFields}
use Rattle.hmc_codes.specs.Request.{RequestFields, IsRequest}
use Rattle.hmc_codes.specs.Shape.{ShapeFields, vault_of}
use Rattle.hmc_codes.specs.declared.answer.Answer.{Answer}
use Rattle.hmc_codes.specs.declared.command.Command.{Command}
use Rattle.hmc_codes.specs.declared.command.Command.TheVariants.{WrRs, RdRs, MdRdRs, MdWrRs, Error}
use Rattle.hmc_codes.specs.declared.family.Family.{Family}
use Rattle.hmc_codes.specs.declared.family.Family.TheVariants as families
use Rattle.hmc_codes.specs.declared.lift.Lift.{Lift}
use Rattle.hmc_codes.specs.declared.place.Place.TheVariants as places
use Rattle.hmc_codes.specs.declared.unit.Unit.{Unit as RequestUnit}
use Rattle.hmc_routes.proofs.Joined.{joined-passes, port-there}
use Rattle.hmc_routes.specs.Ports.{port_to_cube, port_to_host}
use Rattle.hmc_routes.specs.WellFormed.{is_there}
use Rattle.hmc_case.specs.Setup.{CubeSetupFields, IsCubeSetup}
use Rattle.hmc_crossbar.specs.To.{into_cube, request_to, unpoisoned_to}
use Rattle.hmc_packet.specs.Packet.{PacketFields}
use Rattle.hmc_packet.specs.Parts.{half_of}
use Rattle.hmc_packet.specs.Transactions.{answer_by, answer_in}
use Rattle.hmc_packet.specs.declared.feed.Feed.{Feed}
use Rattle.hmc_packet.specs.declared.what.What.{What}
use Rattle.hmc_schedule.specs.Plan.{HasFlit}
use Rattle.hmc_schedule.specs.declared.step.Step.{Step}
use Rattle.hmc_schedule.specs.declared.step.Step.TheVariants as steps
use Rattle.hmc_host.specs.Give.{wants_tag}
use Rattle.hmc_host.specs.Tags.{lowest_free}
use Rattle.hmc_send.specs.LinkEntries.{LinkEntry}
use Rattle.hmc_send.specs.LinkLines.{StampedFlit, stamped_flit, sent_flits}
use Rattle.hmc_send.specs.declared.toward.Toward.{Toward}
use Rattle.hmc_send.specs.declared.toward.Toward.TheVariants.{Forth, Back}
use Rattle.hmc_wire.specs.LinkLaws.{IsKept}
use Rattle.hmc_wire.proofs.Flits.{AreFlits, masked-flit}
use Rattle.hmc_wire.proofs.Joins.{kept-joins}
use Rattle.hmc_serial.specs.Machine.{cube_state_at, answer_to}
use Rattle.hmc_serial.specs.Unit.{is_for_registers}
use Rattle.hmc_serial.proofs.AnswerLemmas.{performed_is_carried}
use Rattle.hmc_entries.specs.declared.outcome.Goal.{Goal}
use Rattle.hmc_entries.specs.declared.outcome.Goal.TheVariants as goals
use Rattle.hmc_entries.specs.declared.entry.Entry.{Entry}
use Rattle.hmc_entries.specs.declared.entry.Entry.TheVariants.{Gave, Sent, Landed, Shifted, Dropped, Spread, Executed, Lifted, Took, Discarded, Through, Unlocked, Retired, Passed, Idle}
use Rattle.hmc_entries.specs.Parse.{IsTag, IsGoal, IsStep, FitsTypes}
use Rattle.hmc_journal.specs.Hosts.{host_of, tags_out}
use Rattle.hmc_journal.specs.Lawful.{Follows, Lawful}
use Rattle.hmc_journal.specs.Links.{toward, sizes_on, entries_on}
use Rattle.hmc_journal.specs.Network.{IsNetwork}
use Rattle.hmc_journal.specs.Next.{goal_at, tag_of}
use Rattle.hmc_journal.specs.Piped.{pipe_onto}
use Rattle.hmc_journal.specs.Queues.QueueId.{Host}
use Rattle.hmc_journal.specs.Setup.{Setup, no_setup, cubes_in, graph_of, joins_of, shape_of, direction_from}
use Rattle.hmc_journal.specs.StepView.{state_of, view_of}
use Rattle.hmc_journal.proofs.EntryRule.{EntryRule, IsTagged, HasGiven, HasSent, HasPassed, HasShifted, HasSpread, HasExecuted, HasLifted, HasTaken, HasThrough, feed_on, entry_rule, lawful_past}
use Rattle.hmc_journal.proofs.Joins.{from_place}
use Rattle.hmc_journal.proofs.LinkKept.{kept-sent, line-flit}
use Rattle.hmc_laws.proofs.Entering.{Kept, front_stands, has_direction, no_vault, own_item, tag_small, runs_request}
use Rattle.hmc_laws.proofs.Machine.{cube_there}
use Rattle.hmc_laws.proofs.Piping.{feed_fits, up_on}
use Rattle.hmc_laws.proofs.Sound.{kept}
use Rattle.hmc_laws.proofs.SoundAtOnce.{landed_flit}
use Rattle.hmc_laws.proofs.Standing.{GoesTo, all_get}
use Rattle.hmc_laws.proofs.Wired.{wired}
use Rattle.hmc_texts.specs.Texts.{IsTypedJournal}
use Rattle.hmc_texts.proofs.StepNumbers.{FitsStep, next_fits}

-- ---- ports, vaults and banks

pub port_few : (setup : Setup) (cube port direction : ℕ) → IsNetwork setup →
    direction_from setup.topology (places.Port cube port) ≡ Some direction → port < 4
port_few setup cube port direction network is =
    let joins = joins_of setup.topology in
    let cubes = cubes_in setup.topology in
    let at = from_place joins (places.Port cube port) direction is in
    let both = joined-passes (is_there cubes) joins (places.Port cube port) _
    network.graph.ends_exist at.joined in
    (port-there (graph_of setup.topology) cube port both.0).port_real

pub record HasFewBits (shape : ShapeFields) : Type 0 where
  pub vaults : shape.vault_bits ≤ 5
  pub banks : shape.bank_bits ≤ 5

pub few_bits : (cubes : List CubeSetupFields) (cube : ℕ) → All IsCubeSetup cubes →
    HasFewBits (slice_index_or cubes cube no_setup).shape
few_bits [] cube all = record { vaults = omega arith; banks = omega arith }
few_bits (first ∷ rest) zero all =
    let is = (All-head IsCubeSetup first rest all).shape in
    record { vaults = is.vault_bits; banks = omega (arith, is.bank_bits) }
few_bits (first ∷ rest) (suc cube) all = few_bits rest cube (All-tail IsCubeSetup first rest all)

pub small_power : (bits n : ℕ) → bits ≤ 5 → n < 2 ^ bits → n < 256
small_power bits n few less =
    let most : 2 ^ bits ≤ 2 ^ 5 = pow-le-pow_right {n = 2} (omega arith) few in omega arith

inside_vault : (registers : Bool) (v vault : ℕ) →
    goal_at (into_cube registers v) ≡ Some (goals.Vault vault) → v ≡ vault
inside_vault true v vault is = absurd cc
inside_vault false v vault is = cc

asked_vault : (graph : GraphFields) (shape : ShapeFields) (cube : ℕ) (packet : PacketFields)
    (here : Bool) (vault : ℕ) →
    goal_at (request_to graph shape cube packet here) ≡ Some (goals.Vault vault) →
    vault < 2 ^ shape.vault_bits
asked_vault graph shape cube packet true vault is =
    subst (λ (n : ℕ). n < 2 ^ shape.vault_bits)
    (inside_vault (is_for_registers packet.command) (vault_of shape packet.address) vault is)
    (mod-lt (packet.address / shape.block) (pow_pos shape.vault_bits))
asked_vault graph shape cube packet false vault is =
    absurd (no_vault (port_to_cube graph packet.cube cube) vault is)

goal_vault : (graph : GraphFields) (shape : ShapeFields) (cube : ℕ) (packet : PacketFields)
    (family : Family) (vault : ℕ) →
    goal_at (unpoisoned_to graph shape cube packet family) ≡ Some (goals.Vault vault) →
    vault < 2 ^ shape.vault_bits
goal_vault graph shape cube packet families.Reply vault is =
    absurd (no_vault (port_to_host graph packet.slid cube) vault is)
goal_vault graph shape cube packet families.Ask vault is =
    asked_vault graph shape cube packet (packet.cube == cube) vault is
goal_vault graph shape cube packet families.Flow vault is = absurd cc

shifted_goal : (setup : Setup) (past : List Entry) (cube port : ℕ) (goal : Goal) →
    IsNetwork setup → HasShifted setup past cube port goal → IsGoal goal
shifted_goal setup past cube port (goals.Vault vault) network has =
    small_power (shape_of setup.topology cube).vault_bits vault
    (few_bits setup.topology.cubes cube network.cubes).vaults
    (goal_vault (graph_of setup.topology) (shape_of setup.topology cube) cube has.at.front
    (family_of has.at.front.command) vault has.is_goal)
shifted_goal setup past cube port goals.Registers network has = tt
shifted_goal setup past cube port (goals.Port out) network has =
    let away =
    has_direction setup.topology (view_of setup past) (places.Port cube out) has.room in
    let few = port_few setup cube out away.0 network away.1 in omega arith

spread_bank : (setup : Setup) (past : List Entry) (cube vault bank : ℕ) → IsNetwork setup →
    HasSpread setup past cube vault bank → bank < 256
spread_bank setup past cube vault bank network has =
    let shape = shape_of setup.topology cube in
    let address = has.at.front.address in
    small_power shape.bank_bits bank (few_bits setup.topology.cubes cube network.cubes).banks
    (subst (λ (n : ℕ). n < 2 ^ shape.bank_bits) (sym has.is_bank)
    (mod-lt (address / shape.block / 2 ^ shape.vault_bits) (pow_pos shape.bank_bits)))

lifted_port : (setup : Setup) (past : List Entry) (cube : ℕ) (from : Lift) (port : ℕ) →
    IsNetwork setup → HasLifted setup past cube from port → port < 256
lifted_port setup past cube from port network has =
    let away =
    has_direction setup.topology (view_of setup past) (places.Port cube port) has.room in
    let few = port_few setup cube port away.0 network away.1 in omega arith

forwarded_direction : (setup : Setup) (past : List Entry) (cube port direction : ℕ) →
    IsNetwork setup → HasThrough setup past cube port direction → direction < 256
forwarded_direction setup past cube port direction network has =
    let inside = (wired setup network).inside (places.Port cube has.onward) direction has.starts in
    let few = network.few_links in omega arith

-- ---- flits

whole_flits : (link : LinkFields) (d : Toward) (past : List LinkEntry) → IsKept link past →
    AreFlits (sent_flits link.profile d past)
whole_flits link Forth past is = (kept-joins 0 link past is).forth.whole
whole_flits link Back past is = (kept-joins 0 link past is).back.whole

last_flit : (flits : List StampedFlit) (last : StampedFlit) → AreFlits (flits ++ last ∷ []) →
    IsFlit last.flit
last_flit [] last all = all.0
last_flit (first ∷ rest) last all = last_flit rest last all.1

newest_flit : (link : LinkFields) (d : Toward) (past : List LinkEntry) (entry : LinkEntry)
    (newest : StampedFlit) →
    sent_flits link.profile d (entry ∷ past) ≡ sent_flits link.profile d past ++ newest ∷ [] →
    IsKept link (entry ∷ past) → IsFlit newest.flit
newest_flit link d past entry newest same is =
    last_flit (sent_flits link.profile d past) newest
    (subst AreFlits same (whole_flits link d (entry ∷ past) is))

way_flit : (link : LinkFields) (way : Toward) (past : List LinkEntry) (feed : Feed) (what : What)
    (flit : List ℕ) → IsKept link (LinkEntry.sent way feed what flit ∷ past) → IsFlit flit
unfolding sent_flits
way_flit link Forth past feed what flit is =
    newest_flit link Forth past (LinkEntry.sent Forth feed what flit)
    (stamped_flit link.profile Forth past flit) refl is
way_flit link Back past feed what flit is =
    newest_flit link Back past (LinkEntry.sent Back feed what flit)
    (stamped_flit link.profile Back past flit) refl is

sent_flit : (setup : Setup) (past : List Entry) (d : ℕ) (what : What) (flit : List ℕ) →
    HasSent setup past d what flit → Kept setup past → IsFlit flit
sent_flit setup past d what flit has keeps =
    let sizes = sizes_on setup.topology d in
    let before = entries_on setup.topology d past in
    let feed = feed_on setup.topology past d in
    let fits =
    feed_fits (pipe_onto setup.topology d past) (up_on setup.topology d past) (keeps.up d) in
    way_flit sizes (toward d) before feed what flit
    (kept-sent sizes before (toward d) feed what flit (keeps.links (d / 2)) fits.fits
    fits.is_feed has)

passed_flit : (setup : Setup) (past : List Entry) (d : ℕ) (flit : List ℕ) →
    HasPassed setup past d flit → Kept setup past → IsFlit flit
passed_flit setup past d flit has keeps =
    let mask : HasFlit (steps.Land d has.mask) =
    all_get HasFlit setup.schedule (length past) (steps.Land d has.mask) keeps.masks has.step in
    subst IsFlit (sym has.flit_is)
    (masked-flit has.mask has.front.flit mask.long mask.bytes
    (line-flit (sizes_on setup.topology d) (entries_on setup.topology d past) (toward d) has.front
    (keeps.links (d / 2)) has.is_front))

-- ---- tags, requests and answers

given_tag : (awaited : Bool) (tags : List Bool) (tag : Option ℕ) → length tags ≡ 2048 →
    IsTagged awaited (lowest_free tags) tag → IsTag tag
given_tag awaited tags None long is = tt
given_tag awaited tags (Some tag) long is =
    let small : tag < 2 ^ 11 = tag_small awaited tags (Some tag) long is in omega arith

given_fits : (setup : Setup) (past : List Entry) (host : ℕ) (tag : Option ℕ) (poisoned : Bool)
    (request : RequestFields) → IsNetwork setup → HasGiven setup past host tag poisoned request →
    Kept setup past → IsTag tag × IsRequest request
unfolding host_of
given_fits setup past host tag poisoned request network has keeps =
    let own = own_item setup past host has.item network has.is_next in (
      given_tag (wants_tag has.item) (tags_out host past) tag (keeps.tags host) has.is_tagged,
      subst IsRequest (sym has.is_request) own.1.request,
    )

ran_tag : (posted : Bool) (number : ℕ) → number < 2 ^ 11 → IsTag (tag_of posted number)
ran_tag true number small = tt
ran_tag false number small = omega arith

-- what fits of an execution, apart from its unit
record RunFits (host : ℕ) (tag : Option ℕ) (request : RequestFields) (answer : Answer)
    : Type 0 where
  small_host : host < 256
  is_tag : IsTag tag
  is_request : IsRequest request
  is_answer : IsAnswer answer

run_fits : (setup : Setup) (past : List Entry) (unit : RequestUnit) (host : ℕ) (tag : Option ℕ)
    (request : RequestFields) (answer : Answer) → IsNetwork setup →
    HasExecuted setup past unit host tag request answer → Kept setup past →
    RunFits host tag request answer
unfolding answer_to
run_fits setup past unit host tag request answer network has keeps =
    let run = runs_request setup past unit host tag request answer has keeps in
    let front = has.at.front in
    let state = state_of setup past in
    let few : front.slid < 256 = omega (arith, run.asking.slid, network.few_hosts) in
    let carried = performed_is_carried (cube_state_at state request.cube) state.slots request
    (cube_there setup.topology state request.cube keeps.state run.there) run.is in record {
      small_host = subst (λ (n : ℕ). n < 256) (sym has.is_host) few;
      is_tag = subst IsTag (sym has.is_tag) (ran_tag (is_posted request.command) front.tag run.asking.counted.is_packet.ranges.tag);
      is_request = run.is;
      is_answer = subst IsAnswer (sym has.is_answer) carried.fits;
    }

half_fits : (payload : List ℕ) → IsBytes payload → half_of (take 4 payload) < 2 ^ 32
unfolding half_of
half_fits payload bytes =
    let fits = IsBytes-take 4 payload bytes in omega (arith, fits 0, fits 1, fits 2, fits 3)

answered_fits : (command : Command) (packet : PacketFields) (answer : Answer) →
    IsBytes packet.payload → answer_by command packet ≡ Some answer → IsAnswer answer
unfolding answer_by
answered_fits WrRs packet answer bytes is = subst IsAnswer (same_Some _ answer is) tt
answered_fits RdRs packet answer bytes is = subst IsAnswer (same_Some _ answer is) bytes
answered_fits MdRdRs packet answer bytes is =
    subst IsAnswer (same_Some _ answer is) (half_fits packet.payload bytes)
answered_fits MdWrRs packet answer bytes is = subst IsAnswer (same_Some _ answer is) tt
answered_fits Error packet answer bytes is = subst IsAnswer (same_Some _ answer is) tt
answered_fits _ packet answer bytes is = absurd (cc is)

taken_fits : (setup : Setup) (past : List Entry) (host tag : ℕ) (answer : Answer) →
    HasTaken setup past host tag answer → Kept setup past → (tag < 2 ^ 16) × IsAnswer answer
unfolding answer_in
taken_fits setup past host tag answer has keeps =
    by_goes (front_stands setup past (Host host) keeps has.at).goes
  where
    by_goes : GoesTo setup.topology (places.Host host) has.at.front →
        (tag < 2 ^ 16) × IsAnswer answer
    by_goes (inl bound) =
        let is = bound.replying.counted.is_packet in
        let small : has.at.front.tag < 2 ^ 16 = omega (arith, is.ranges.tag) in (
          subst (λ (n : ℕ). n < 2 ^ 16) (sym has.is_tag) small,
          answered_fits has.at.front.command has.at.front answer is.payload.bytes has.is_answer,
        )
    by_goes (inr spoiled) =
        absurd (let clash : true ≡ false = sym spoiled.poisoned ∙ has.unpoisoned in cc)

-- ---- entries

entry_fits : (setup : Setup) (past : List Entry) (entry : Entry) → IsNetwork setup →
    FitsStep entry → EntryRule setup past entry → Kept setup past → FitsTypes entry
entry_fits setup past (Gave host tag poisoned request) network own has keeps =
    let fits = given_fits setup past host tag poisoned request network has keeps in
    (own, fits.0, fits.1)
entry_fits setup past (Sent d what flit) network own has keeps =
    (own, sent_flit setup past d what flit has keeps)
entry_fits setup past (Landed d flit outcome) network own has keeps =
    (own, landed_flit setup past d flit outcome has keeps)
entry_fits setup past (Shifted cube port goal) network own has keeps =
    (own.0, own.1, shifted_goal setup past cube port goal network has)
entry_fits setup past (Dropped cube port) network own has keeps = own
entry_fits setup past (Spread cube vault bank) network own has keeps =
    (own.0, own.1, spread_bank setup past cube vault bank network has)
entry_fits setup past (Executed unit host tag request answer) network own has keeps =
    let fits = run_fits setup past unit host tag request answer network has keeps in
    (own, fits.small_host, fits.is_tag, fits.is_request, fits.is_answer)
entry_fits setup past (Lifted cube from port) network own has keeps =
    (own.0, own.1, lifted_port setup past cube from port network has)
entry_fits setup past (Took host tag answer) network own has keeps =
    let fits = taken_fits setup past host tag answer has keeps in (own, fits.0, fits.1)
entry_fits setup past (Discarded host) network own has keeps = own
entry_fits setup past (Through cube port direction) network own has keeps =
    (own.0, own.1, forwarded_direction setup past cube port direction network has)
entry_fits setup past (Unlocked direction) network own has keeps = own
entry_fits setup past (Retired slot) network own has keeps = own
entry_fits setup past (Passed d flit) network own has keeps =
    (own, passed_flit setup past d flit has keeps)
entry_fits setup past (Idle step cause) network own has keeps = own

follows_fits : (setup : Setup) (past : List Entry) (step : Option Step) (entry : Entry) →
    All IsStep setup.schedule → slice_get setup.schedule (length past) ≡ step →
    Follows setup past step entry → FitsStep entry
follows_fits setup past None entry steps is follows = absurd follows
follows_fits setup past (Some step) entry steps is follows =
    subst FitsStep (sym follows)
    (next_fits setup past step (all_get IsStep setup.schedule (length past) step steps is))

newest_fits : (setup : Setup) (entry : Entry) (past : List Entry) → All IsStep setup.schedule →
    Lawful setup (entry ∷ past) → FitsStep entry
unfolding Lawful
newest_fits setup entry past steps lawful =
    follows_fits setup past (slice_get setup.schedule (length past)) entry steps refl lawful.1

all_fit : (setup : Setup) (past : List Entry) → IsNetwork setup → All IsStep setup.schedule →
    Lawful setup past → All FitsTypes past
all_fit setup [] network steps lawful = All-nil FitsTypes
all_fit setup (entry ∷ past) network steps lawful =
    let before = lawful_past setup entry past lawful in
    All-cons FitsTypes entry past
    (entry_fits setup past entry network (newest_fits setup entry past steps lawful)
    (entry_rule setup entry past lawful) (kept setup past network before))
    (all_fit setup past network steps before)

pub entries_fit : (setup : Setup) (journal : List Entry) → IsTypedJournal setup journal →
    All FitsTypes journal
entries_fit setup journal is = all_fit setup journal is.network is.steps is.lawful
