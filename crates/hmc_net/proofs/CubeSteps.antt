-- The steps in cubes: spread, bank and registers.
use Rattle.std.proofs.Common.{◌≡◌, ◌<◌, ◌==◌, ◌%◌, ◌^◌, ◌∙◌, ℕ, Bool, true, false, not, nat_le, nat_lt, if◌then◌else◌, Option, Some, None, List, [], ◌∷◌, ◌++◌, length, drop, refl, sym, ap, ap₂, subst, arith, eqb-true}
use Rattle.std.specs.Prelude.{slice_set}
use Rattle.std.specs.List.{All}
use Rattle.std.proofs.Math.Nat.{mod-lt}
use Rattle.std.proofs.lemmas.List.{length-set, set-get_or}
use Rattle.std.proofs.lemmas.List.Elements.{All-head, All-get_or}
use Rattle.std.proofs.lemmas.Nat.{pow_pos}
use Rattle.hmc_codes.specs.Commands.{is_posted}
use Rattle.hmc_codes.specs.Request.{RequestFields}
use Rattle.hmc_codes.specs.Shape.{ShapeFields, bank_of}
use Rattle.hmc_codes.specs.declared.answer.Answer.{Answer}
use Rattle.hmc_codes.specs.declared.lift.Lift.TheVariants as lifts
use Rattle.hmc_codes.specs.declared.unit.Unit.{Unit as RequestUnit}
use Rattle.hmc_codes.specs.declared.unit.Unit.TheVariants as units
use Rattle.hmc_packet.specs.Packet.{PacketFields}
use Rattle.hmc_packet.specs.Transactions.{request_in, reply_packet}
use Rattle.hmc_serial.specs.Cube.{CubeState}
use Rattle.hmc_serial.specs.Machine.{State, cube_state_at}
use Rattle.hmc_serial.specs.Perform.{perform_on}
use Rattle.hmc_vault.specs.Vault.{VaultFields, bank_at}
use Rattle.hmc_vault.specs.declared.spread.Spread.{Spread}
use Rattle.hmc_vault.specs.declared.spread.Spread.TheVariants as spreads
use Rattle.hmc_vault.specs.Spread.{spread_says, front_goes, goes_to}
use Rattle.hmc_vault.specs.declared.execute.Executed.{Executed as Execution}
use Rattle.hmc_vault.specs.declared.execute.Executed.TheVariants as runs_as
use Rattle.hmc_vault.specs.Execute.{execute_says, carried_runs, replies_to, cube_after, slots_after as units_left, runs}
use Rattle.hmc_units.specs.Unit.{UnitFields}
use Rattle.hmc_cube.specs.Cube.{CubeFields, vault_at, with_vault, no_vault}
use Rattle.hmc_cube.specs.After.{bank_says, registers_say, after_spread, after_execute, after_registers}
use Rattle.hmc_cube.specs.Parts.{AreParts, VaultFits}
use Rattle.hmc_host.specs.Host.{HostFields}
use Rattle.hmc_link.specs.Held.{LinkHeld}
use Rattle.hmc_schedule.specs.declared.step.Step.{Step}
use Rattle.hmc_schedule.specs.declared.step.Step.TheVariants as steps
use Rattle.hmc_journal.specs.Answers.{spread_entry, ran_entry, tag_of}
use Rattle.hmc_entries.specs.declared.outcome.Cause.{Cause}
use Rattle.hmc_entries.specs.declared.outcome.Cause.TheVariants as causes
use Rattle.hmc_entries.specs.declared.entry.Entry.{Entry}
use Rattle.hmc_entries.specs.declared.entry.Entry.TheVariants as entries
use Rattle.hmc_entries.specs.Event.{cause_of}
use Rattle.hmc_journal.specs.Next.{choice, with_front, unless_full, spread_to_bank, execution_entry, queue_size}
use Rattle.hmc_journal.specs.QueueInvariant.{IsCubeRequest}
use Rattle.hmc_journal.specs.Queues.{tag_number, queue_of}
use Rattle.hmc_journal.specs.Queues.QueueId.{Vault, Bank, Registers, Answers}
use Rattle.hmc_journal.specs.Setup.{Topology, cube_setup, shape_of, cubes_in, unit_cube}
use Rattle.hmc_journal.specs.StepView.{StepView}
use Rattle.hmc_net.specs.Apply.{cubes_after, with_cube, IsEntryIn, DoesStep}
use Rattle.hmc_kept.specs.Hosts.{hosts_after, IsHostIn}
use Rattle.hmc_kept.specs.After.{slots_after, pipes_after, entries_after}
use Rattle.hmc_kept.specs.Pipes.{PipesHeld}
use Rattle.hmc_links.specs.LinkList.{LinksStandFor}
use Rattle.hmc_net.specs.NetState.{NetState, cube_in, no_cube, IsQueueOf}
use Rattle.hmc_wiring.specs.Ready.{IsVaultIn, IsBankIn}
use Rattle.hmc_net.specs.Sees.{Sees, IsSized, CubeFits, IsReady}
use Rattle.hmc_net.proofs.Doing.{with_all, with_parts, does_by, sized_units, units_seen, idle_does}
use Rattle.hmc_kept.proofs.Fronts.{front_none, no_front}
use Rattle.hmc_codes.proofs.General.{below_is_room}
use Rattle.hmc_kept.proofs.Elements.{changed_at}
use Rattle.hmc_kept.proofs.Units.{own_cube}
use Rattle.hmc_net.proofs.Standing.{state_at}

-- ---- the sizes of cubes

fits_when : (topology : Topology) (cubes : List CubeFields) (cube k : ℕ) (y : CubeFields) (test : Bool) → (cube == k) ≡ test → cube < length cubes → CubeFits (cube_setup topology cube) (cube_in cubes cube) → CubeFits (cube_setup topology k) (cube_in cubes k)
    → y.state.shape ≡ (cube_in cubes cube).state.shape → y.size ≡ (cube_in cubes cube).size → CubeFits (cube_setup topology k) (cube_in (slice_set cubes cube y) k)
fits_when topology cubes cube k y true is there own other shape size =
    subst (CubeFits (cube_setup topology k)) (sym (changed_at cubes cube k y no_cube true is there))
    (subst (λ (n : ℕ). CubeFits (cube_setup topology n) y) (eqb-true cube k is) (record { shape = shape ∙ own.shape; queue = size ∙ own.queue }))
fits_when topology cubes cube k y false is there own other shape size =
    subst (CubeFits (cube_setup topology k)) (sym (changed_at cubes cube k y no_cube false is there)) other

pub sized_cube : (net : NetState) (cube : ℕ) (y : CubeFields) (links : List LinkHeld) (entry : Entry) → IsSized net → cube < length net.cubes → y.state.shape ≡ (cube_in net.cubes cube).state.shape → y.size ≡ (cube_in net.cubes cube).size
    → IsSized (with_parts net (slice_set net.cubes cube y) net.hosts links entry)
sized_cube net cube y links entry sized there shape size = record {
  cubes = length-set net.cubes cube y ∙ sized.cubes;
  hosts = sized.hosts;
  fits = λ k less. (let inside : k < length net.cubes = omega (arith, length-set net.cubes cube y) in
      fits_when net.topology net.cubes cube k y (cube == k) refl there (sized.fits cube there) (sized.fits k inside) shape size);
  piped = sized.piped;
}

pub cube_inside : (net : NetState) (cube : ℕ) → IsSized net → cube < cubes_in net.topology → cube < length net.cubes
cube_inside net cube sized there = omega (arith, sized.cubes)

-- a vault, and a bank in it
pub vault_inside : (net : NetState) (cube vault : ℕ) → IsSized net → AreParts (cube_in net.cubes cube) → IsVaultIn net.topology cube vault → vault < length (cube_in net.cubes cube).vaults
vault_inside net cube vault sized parts there =
    let shape = (sized.fits cube (cube_inside net cube sized there.some_cube)).shape in
    omega (arith, parts.vaults, there.some_vault, ap (λ (s : ShapeFields). 2 ^ s.vault_bits) shape)

pub vault_fits : (x : CubeFields) (vault : ℕ) → AreParts x → vault < length x.vaults → VaultFits x.state.shape x.size (vault_at x vault)
vault_fits x vault parts there = All-get_or (VaultFits x.state.shape x.size) x.vaults vault no_vault there parts.are_vaults

pub bank_shape : (net : NetState) (cube vault bank : ℕ) → IsSized net → IsBankIn net.topology cube vault bank → bank < 2 ^ (cube_in net.cubes cube).state.shape.bank_bits
bank_shape net cube vault bank sized there =
    subst (λ (s : ShapeFields). bank < 2 ^ s.bank_bits) (sym (sized.fits cube (cube_inside net cube sized there.some_vault.some_cube)).shape) there.some_bank

-- ---- spread

spread_if : (cube vault bank : ℕ) (full : Bool) → spread_entry cube vault (if not full then spreads.Moved bank else spreads.Full) ≡ unless_full (steps.Spread cube vault) full (entries.Spread cube vault bank)
spread_if cube vault bank true = refl
spread_if cube vault bank false = refl

spread_test : (cube vault bank size used : ℕ) → spread_entry cube vault (if nat_lt used size then spreads.Moved bank else spreads.Full) ≡ unless_full (steps.Spread cube vault) (nat_le size used) (entries.Spread cube vault bank)
spread_test cube vault bank size used = ap (λ (t : Bool). spread_entry cube vault (if t then spreads.Moved bank else spreads.Full)) (below_is_room used size) ∙ spread_if cube vault bank (nat_le size used)

spread_front : (topology : Topology) (view : StepView) (cube vault : ℕ) (v : VaultFields) (shape : ShapeFields) (packets : List PacketFields) → v.size ≡ (cube_setup topology cube).queue → shape ≡ shape_of topology cube → ((bank : ℕ) → bank_at v bank ≡ view.inside (Bank cube vault bank))
    → spread_entry cube vault (front_goes v packets shape) ≡ with_front (steps.Spread cube vault) packets (λ front. spread_to_bank topology view cube vault (bank_of (shape_of topology cube) front.address))
spread_front topology view cube vault v shape [] size shape_is banks = refl
spread_front topology view cube vault v shape (front ∷ rest) size shape_is banks =
    ap (λ (s : ShapeFields). spread_entry cube vault (goes_to v (bank_of s front.address))) shape_is
    ∙ spread_test cube vault (bank_of (shape_of topology cube) front.address) v.size (length (bank_at v (bank_of (shape_of topology cube) front.address)))
    ∙ ap₂ (λ (n : ℕ) (l : List PacketFields). unless_full (steps.Spread cube vault) (nat_le n (length l)) (entries.Spread cube vault (bank_of (shape_of topology cube) front.address))) size (banks (bank_of (shape_of topology cube) front.address))

-- the bank of a spread is one of the vault's
bank_by : (room : Bool) (found bank bits address : ℕ) → found ≡ address % 2 ^ bits → (if room then spreads.Moved found else spreads.Full) ≡ spreads.Moved bank → bank < 2 ^ bits
bank_by true found bank bits address is same = let here : found ≡ bank = cc in subst (λ (n : ℕ). n < 2 ^ bits) (sym is ∙ here) (mod-lt address (pow_pos bits))
bank_by false found bank bits address is same = absurd (cc)

front_bank : (v : VaultFields) (packets : List PacketFields) (shape : ShapeFields) (bank : ℕ) → front_goes v packets shape ≡ spreads.Moved bank → bank < 2 ^ shape.bank_bits
front_bank v [] shape bank is = absurd (cc)
front_bank v (front ∷ rest) shape bank is = bank_by (nat_lt (length (bank_at v (bank_of shape front.address))) v.size) (bank_of shape front.address) bank shape.bank_bits _ refl is

spread_bank : (v : VaultFields) (shape : ShapeFields) (spread : Spread) (bank : ℕ) → spread ≡ spread_says v shape → spread ≡ spreads.Moved bank → bank < 2 ^ shape.bank_bits
unfolding spread_says
spread_bank v shape spread bank says is = front_bank v v.vault_queue shape bank (sym says ∙ is)

spread_cubes : (view : StepView) (cubes : List CubeFields) (cube vault : ℕ) (spread : Spread) → with_cube cube (after_spread vault spread) cubes ≡ cubes_after view (spread_entry cube vault spread) cubes
spread_cubes view cubes cube vault spreads.Empty = set-get_or cubes cube no_cube
spread_cubes view cubes cube vault spreads.Full = set-get_or cubes cube no_cube
spread_cubes view cubes cube vault (spreads.Moved bank) = refl

spread_idle : (cubes : List CubeFields) (cube vault : ℕ) (spread : Spread) (cause : Cause) → cause_of (spread_entry cube vault spread) ≡ Some cause → with_cube cube (after_spread vault spread) cubes ≡ cubes
spread_idle cubes cube vault spreads.Empty cause is = set-get_or cubes cube no_cube
spread_idle cubes cube vault spreads.Full cause is = set-get_or cubes cube no_cube
spread_idle cubes cube vault (spreads.Moved bank) cause is = absurd (cc)

spread_hosts : (hosts : List HostFields) (cube vault : ℕ) (spread : Spread) → hosts ≡ hosts_after (spread_entry cube vault spread) hosts
spread_hosts hosts cube vault spreads.Empty = refl
spread_hosts hosts cube vault spreads.Full = refl
spread_hosts hosts cube vault (spreads.Moved bank) = refl

spread_slots : (view : StepView) (slots : List (Option UnitFields)) (cube vault : ℕ) (spread : Spread) → slots ≡ slots_after view (spread_entry cube vault spread) slots
spread_slots view slots cube vault spreads.Empty = refl
spread_slots view slots cube vault spreads.Full = refl
spread_slots view slots cube vault (spreads.Moved bank) = refl

spread_piped : (topology : Topology) (view : StepView) (piped : PipesHeld) (cube vault : ℕ) (spread : Spread) → piped ≡ pipes_after topology view (spread_entry cube vault spread) piped
spread_piped topology view piped cube vault spreads.Empty = refl
spread_piped topology view piped cube vault spreads.Full = refl
spread_piped topology view piped cube vault (spreads.Moved bank) = refl

spread_host_in : (hosts : List HostFields) (cube vault : ℕ) (spread : Spread) → IsHostIn hosts (spread_entry cube vault spread)
spread_host_in hosts cube vault spreads.Empty = tt
spread_host_in hosts cube vault spreads.Full = tt
spread_host_in hosts cube vault (spreads.Moved bank) = tt

spread_links : (topology : Topology) (view : StepView) (cube vault : ℕ) (spread : Spread) → view.entries ≡ entries_after topology view (spread_entry cube vault spread)
spread_links topology view cube vault spreads.Empty = refl
spread_links topology view cube vault spreads.Full = refl
spread_links topology view cube vault (spreads.Moved bank) = refl

spread_in : (cubes : List CubeFields) (cube vault : ℕ) (spread : Spread) → cube < length cubes → vault < length (cube_in cubes cube).vaults → ((bank : ℕ) → spread ≡ spreads.Moved bank → bank < length (vault_at (cube_in cubes cube) vault).banks) → IsEntryIn cubes (spread_entry cube vault spread)
spread_in cubes cube vault spreads.Empty there inside banks = tt
spread_in cubes cube vault spreads.Full there inside banks = tt
spread_in cubes cube vault (spreads.Moved bank) there inside banks = (there, (inside, banks bank refl))

spread_shape : (x : CubeFields) (vault : ℕ) (spread : Spread) → ((after_spread vault spread x).state.shape ≡ x.state.shape) × ((after_spread vault spread x).size ≡ x.size)
spread_shape x vault spreads.Empty = (refl, refl)
spread_shape x vault spreads.Full = (refl, refl)
spread_shape x vault (spreads.Moved bank) = (refl, refl)

pub spread_does : (net now : NetState) (cube vault : ℕ) (spread : Spread) → IsReady net → IsVaultIn net.topology cube vault → AreParts (cube_in net.cubes cube) → spread ≡ spread_says (vault_at (cube_in net.cubes cube) vault) (cube_in net.cubes cube).state.shape
    → now ≡ with_parts net (with_cube cube (after_spread vault spread) net.cubes) net.hosts net.links (spread_entry cube vault spread) → DoesStep net now (steps.Spread cube vault)
unfolding choice spread_says
spread_does net now cube vault spread ready there parts says now_is =
    let x = cube_in net.cubes cube in
    let sized = ready.sized in
    let less = cube_inside net cube sized there.some_cube in
    let inside = vault_inside net cube vault sized parts there in
    let fits = vault_fits x vault parts inside in
    let own = sized.fits cube less in
    let kept = spread_shape x vault spread in
    does_by net now (with_cube cube (after_spread vault spread) net.cubes) net.hosts net.slots net.links (spread_entry cube vault spread) (steps.Spread cube vault) now_is (record {
      chosen = λ view sees. ap (spread_entry cube vault) says
          ∙ spread_front net.topology view cube vault (vault_at x vault) x.state.shape (vault_at x vault).vault_queue (fits.same_size ∙ own.queue) own.shape (λ bank. sees.shows.queues (Bank cube vault bank) tt)
          ∙ ap (λ (l : List PacketFields). with_front (steps.Spread cube vault) l (λ front. spread_to_bank net.topology view cube vault (bank_of (shape_of net.topology cube) front.address))) (sees.shows.queues (Vault cube vault) tt);
      cubes_are = λ view sees. spread_cubes view net.cubes cube vault spread;
      hosts_are = spread_hosts net.hosts cube vault spread;
      slots_are = λ view sees. spread_slots view net.slots cube vault spread;
      piped_are = λ view sees. spread_piped net.topology view net.piped cube vault spread;
      links_are = λ view sees on. subst (LinksStandFor net.topology.links net.links) (spread_links net.topology view cube vault spread) sees.shows.links;
      there = spread_in net.cubes cube vault spread less inside (λ bank is. subst (λ (n : ℕ). bank < n) (sym fits.banks) (spread_bank (vault_at x vault) x.state.shape spread bank says is));
      host = spread_host_in net.hosts cube vault spread;
      sized = sized_cube net cube (after_spread vault spread x) net.links (spread_entry cube vault spread) sized less kept.0 kept.1;
      idle = λ cause is. ap (λ (l : List CubeFields). with_parts net l net.hosts net.links (spread_entry cube vault spread)) (spread_idle net.cubes cube vault spread cause is);
    })

-- ---- bank and registers

run_found : (topology : Topology) (view : StepView) (unit : RequestUnit) (step : Step) (cube : ℕ) (front : PacketFields) (answers : List PacketFields) (size queue : ℕ) (state : CubeState) (slots : List (Option UnitFields)) (found : Option RequestFields) → request_in front ≡ found → size ≡ queue → IsCubeRequest cube front → state ≡ cube_state_at view.state cube → slots ≡ view.state.slots
    → ran_entry unit step (carried_runs front found answers size state slots) ≡ execution_entry unit step front answers queue view.state found
run_found topology view unit step cube front answers size queue state slots None is same asks state_is slots_are = refl
run_found topology view unit step cube front answers size queue state slots (Some request) is same asks state_is slots_are =
    let own : state ≡ cube_state_at view.state request.cube = state_is ∙ ap (λ (n : ℕ). cube_state_at view.state n) (sym (own_cube front request cube is asks.cube)) in
    ap₂ (λ (n : ℕ) (c : CubeState). ran_entry unit step (runs front request answers n c slots)) same own
    ∙ ap (λ (s : List (Option UnitFields)). ran_entry unit step (runs front request answers queue (cube_state_at view.state request.cube) s)) slots_are

run_front : (topology : Topology) (view : StepView) (unit : RequestUnit) (step : Step) (cube : ℕ) (waiting answers : List PacketFields) (size queue : ℕ) (state : CubeState) (slots : List (Option UnitFields)) → size ≡ queue → All (IsCubeRequest cube) waiting → state ≡ cube_state_at view.state cube → slots ≡ view.state.slots
    → ran_entry unit step (execute_says waiting answers size state slots) ≡ with_front step waiting (λ front. execution_entry unit step front answers queue view.state (request_in front))
run_front topology view unit step cube [] answers size queue state slots same asks state_is slots_are = refl
run_front topology view unit step cube (front ∷ rest) answers size queue state slots same asks state_is slots_are =
    run_found topology view unit step cube front answers size queue state slots (request_in front) refl same (All-head (IsCubeRequest cube) front rest asks) state_is slots_are

cube_state : (net : NetState) (view : StepView) (cube : ℕ) → Sees net view → (cube_in net.cubes cube).state ≡ cube_state_at view.state cube
cube_state net view cube sees = sym (state_at net.cubes net.slots cube) ∙ ap (λ (s : State). cube_state_at s cube) sees.shows.state

-- the tag of a posted request is in no reply
same_replies : (request : RequestFields) (answer : Answer) (host tag : ℕ) (posted : Bool) → is_posted request.command ≡ posted → replies_to request answer host tag ≡ replies_to request answer host (tag_number (tag_of (is_posted request.command) tag))
same_replies request answer host tag true is =
    ap (λ (t : Bool). if t then [] else reply_packet answer tag host request.cube ∷ []) is ∙ sym (ap (λ (t : Bool). if t then [] else reply_packet answer (tag_number (tag_of (is_posted request.command) tag)) host request.cube ∷ []) is)
same_replies request answer host tag false is = ap (λ (t : Bool). replies_to request answer host (tag_number (tag_of t tag))) (sym is)

bank_cubes : (view : StepView) (cubes : List CubeFields) (slots : List (Option UnitFields)) (cube vault bank : ℕ) (step : Step) (ran : Execution) → slots ≡ view.state.slots → with_cube cube (after_execute vault bank ran slots) cubes ≡ cubes_after view (ran_entry (units.Bank cube vault bank) step ran) cubes
bank_cubes view cubes slots cube vault bank step runs_as.Empty same = set-get_or cubes cube no_cube
bank_cubes view cubes slots cube vault bank step runs_as.Full same = set-get_or cubes cube no_cube
bank_cubes view cubes slots cube vault bank step (runs_as.Ran host tag request answer) same =
    let x = cube_in cubes cube in
    ap (λ (l : List PacketFields). slice_set cubes cube (record (with_vault x vault (record (vault_at x vault) { banks = slice_set (vault_at x vault).banks bank (drop 1 (bank_at (vault_at x vault) bank)); answers = (vault_at x vault).answers ++ l })) { state = cube_after (runs_as.Ran host tag request answer) x.state slots }))
    (same_replies request answer host tag (is_posted request.command) refl)
    ∙ ap (λ (s : List (Option UnitFields)). with_cube cube (after_execute vault bank (runs_as.Ran host (tag_number (tag_of (is_posted request.command) tag)) request answer) s) cubes) same

registers_cubes : (view : StepView) (cubes : List CubeFields) (slots : List (Option UnitFields)) (cube : ℕ) (step : Step) (ran : Execution) → slots ≡ view.state.slots → with_cube cube (after_registers ran slots) cubes ≡ cubes_after view (ran_entry (units.Registers cube) step ran) cubes
registers_cubes view cubes slots cube step runs_as.Empty same = set-get_or cubes cube no_cube
registers_cubes view cubes slots cube step runs_as.Full same = set-get_or cubes cube no_cube
registers_cubes view cubes slots cube step (runs_as.Ran host tag request answer) same =
    let x = cube_in cubes cube in
    ap (λ (l : List PacketFields). slice_set cubes cube (record x { state = cube_after (runs_as.Ran host tag request answer) x.state slots; register_queue = drop 1 x.register_queue; answers = x.answers ++ l }))
    (same_replies request answer host tag (is_posted request.command) refl)
    ∙ ap (λ (s : List (Option UnitFields)). with_cube cube (after_registers (runs_as.Ran host (tag_number (tag_of (is_posted request.command) tag)) request answer) s) cubes) same

bank_idle : (cubes : List CubeFields) (slots : List (Option UnitFields)) (cube vault bank : ℕ) (unit : RequestUnit) (step : Step) (ran : Execution) (cause : Cause) → cause_of (ran_entry unit step ran) ≡ Some cause → with_cube cube (after_execute vault bank ran slots) cubes ≡ cubes
bank_idle cubes slots cube vault bank unit step runs_as.Empty cause is = set-get_or cubes cube no_cube
bank_idle cubes slots cube vault bank unit step runs_as.Full cause is = set-get_or cubes cube no_cube
bank_idle cubes slots cube vault bank unit step (runs_as.Ran host tag request answer) cause is = absurd (cc)

registers_idle : (cubes : List CubeFields) (slots : List (Option UnitFields)) (cube : ℕ) (unit : RequestUnit) (step : Step) (ran : Execution) (cause : Cause) → cause_of (ran_entry unit step ran) ≡ Some cause → with_cube cube (after_registers ran slots) cubes ≡ cubes
registers_idle cubes slots cube unit step runs_as.Empty cause is = set-get_or cubes cube no_cube
registers_idle cubes slots cube unit step runs_as.Full cause is = set-get_or cubes cube no_cube
registers_idle cubes slots cube unit step (runs_as.Ran host tag request answer) cause is = absurd (cc)

-- the logic units are left as performing the request leaves them
ran_slots : (view : StepView) (state : CubeState) (slots : List (Option UnitFields)) (unit : RequestUnit) (step : Step) (ran : Execution) → state ≡ cube_state_at view.state (unit_cube unit) → units_left ran state slots ≡ slots_after view (ran_entry unit step ran) slots
ran_slots view state slots unit step runs_as.Empty same = refl
ran_slots view state slots unit step runs_as.Full same = refl
ran_slots view state slots unit step (runs_as.Ran host tag request answer) same = ap (λ (s : CubeState). (perform_on s slots request).slots) same

ran_piped : (topology : Topology) (view : StepView) (piped : PipesHeld) (unit : RequestUnit) (step : Step) (ran : Execution) → piped ≡ pipes_after topology view (ran_entry unit step ran) piped
ran_piped topology view piped unit step runs_as.Empty = refl
ran_piped topology view piped unit step runs_as.Full = refl
ran_piped topology view piped unit step (runs_as.Ran host tag request answer) = refl

ran_slots_idle : (state : CubeState) (slots : List (Option UnitFields)) (unit : RequestUnit) (step : Step) (ran : Execution) (cause : Cause) → cause_of (ran_entry unit step ran) ≡ Some cause → units_left ran state slots ≡ slots
ran_slots_idle state slots unit step runs_as.Empty cause is = refl
ran_slots_idle state slots unit step runs_as.Full cause is = refl
ran_slots_idle state slots unit step (runs_as.Ran host tag request answer) cause is = absurd (cc)

ran_hosts : (hosts : List HostFields) (unit : RequestUnit) (step : Step) (ran : Execution) → hosts ≡ hosts_after (ran_entry unit step ran) hosts
ran_hosts hosts unit step runs_as.Empty = refl
ran_hosts hosts unit step runs_as.Full = refl
ran_hosts hosts unit step (runs_as.Ran host tag request answer) = refl

ran_host_in : (hosts : List HostFields) (unit : RequestUnit) (step : Step) (ran : Execution) → IsHostIn hosts (ran_entry unit step ran)
ran_host_in hosts unit step runs_as.Empty = tt
ran_host_in hosts unit step runs_as.Full = tt
ran_host_in hosts unit step (runs_as.Ran host tag request answer) = tt

ran_links : (topology : Topology) (view : StepView) (unit : RequestUnit) (step : Step) (ran : Execution) → view.entries ≡ entries_after topology view (ran_entry unit step ran)
ran_links topology view unit step runs_as.Empty = refl
ran_links topology view unit step runs_as.Full = refl
ran_links topology view unit step (runs_as.Ran host tag request answer) = refl

ran_in : (cubes : List CubeFields) (unit : RequestUnit) (step : Step) (ran : Execution) → IsQueueOf cubes (queue_of unit) → IsEntryIn cubes (ran_entry unit step ran)
ran_in cubes unit step runs_as.Empty is = tt
ran_in cubes unit step runs_as.Full is = tt
ran_in cubes unit step (runs_as.Ran host tag request answer) is = is

execute_size : (x : CubeFields) (slots : List (Option UnitFields)) (vault bank : ℕ) (ran : Execution) → (after_execute vault bank ran slots x).size ≡ x.size
execute_size x slots vault bank runs_as.Empty = refl
execute_size x slots vault bank runs_as.Full = refl
execute_size x slots vault bank (runs_as.Ran host tag request answer) = refl

pub bank_does : (net now : NetState) (cube vault bank : ℕ) (ran : Execution) → IsReady net → IsBankIn net.topology cube vault bank → AreParts (cube_in net.cubes cube) → ran ≡ bank_says (cube_in net.cubes cube) net.slots vault bank
    → (after_execute vault bank ran net.slots (cube_in net.cubes cube)).state.shape ≡ (cube_in net.cubes cube).state.shape
    → now ≡ with_all net (with_cube cube (after_execute vault bank ran net.slots) net.cubes) net.hosts (units_left ran (cube_in net.cubes cube).state net.slots) net.links (ran_entry (units.Bank cube vault bank) (steps.Bank cube vault bank) ran) → DoesStep net now (steps.Bank cube vault bank)
unfolding choice
bank_does net now cube vault bank ran ready there parts says shape now_is =
    let x = cube_in net.cubes cube in
    let sized = ready.sized in
    let less = cube_inside net cube sized there.some_vault.some_cube in
    let inside = vault_inside net cube vault sized parts there.some_vault in
    let fits = vault_fits x vault parts inside in
    let unit = units.Bank cube vault bank in
    let step = steps.Bank cube vault bank in
    let left = units_left ran x.state net.slots in
    does_by net now (with_cube cube (after_execute vault bank ran net.slots) net.cubes) net.hosts left net.links (ran_entry unit step ran) step now_is (record {
      chosen = λ view sees.
          (let waits : bank_at (vault_at x vault) bank ≡ view.inside (Bank cube vault bank) = sees.shows.queues (Bank cube vault bank) tt in
          ap (ran_entry unit step) says
          ∙ run_front net.topology view unit step cube (bank_at (vault_at x vault) bank) (vault_at x vault).answers x.size (queue_size net.topology unit) x.state net.slots (sized.fits cube less).queue (subst (All (IsCubeRequest cube)) (sym waits) (sees.laws.banks cube vault bank)) (cube_state net view cube sees) (units_seen net view sees)
          ∙ ap₂ (λ (w a : List PacketFields). with_front step w (λ front. execution_entry unit step front a (queue_size net.topology unit) view.state (request_in front))) waits (sees.shows.queues (Answers cube (lifts.Vault vault)) tt));
      cubes_are = λ view sees. bank_cubes view net.cubes net.slots cube vault bank step ran (units_seen net view sees);
      hosts_are = ran_hosts net.hosts unit step ran;
      slots_are = λ view sees. ran_slots view x.state net.slots unit step ran (cube_state net view cube sees);
      piped_are = λ view sees. ran_piped net.topology view net.piped unit step ran;
      links_are = λ view sees on. subst (LinksStandFor net.topology.links net.links) (ran_links net.topology view unit step ran) sees.shows.links;
      there = ran_in net.cubes unit step ran (less, (inside, subst (λ (n : ℕ). bank < n) (sym fits.banks) (bank_shape net cube vault bank sized there)));
      host = ran_host_in net.hosts unit step ran;
      sized = sized_units (with_parts net (with_cube cube (after_execute vault bank ran net.slots) net.cubes) net.hosts net.links (ran_entry unit step ran)) left
          (sized_cube net cube (after_execute vault bank ran net.slots x) net.links (ran_entry unit step ran) sized less shape (execute_size x net.slots vault bank ran));
      idle = λ cause is. ap₂ (λ (l : List CubeFields) (s : List (Option UnitFields)). with_all net l net.hosts s net.links (ran_entry unit step ran)) (bank_idle net.cubes net.slots cube vault bank unit step ran cause is) (ran_slots_idle x.state net.slots unit step ran cause is);
    })

-- a cube whose place is written as it is
same_cube : (net : NetState) (cube : ℕ) → with_cube cube (λ x. x) net.cubes ≡ net.cubes
same_cube net cube = set-get_or net.cubes cube no_cube

-- the front of a bank's queue waits
pub bank_full : (net now : NetState) (cube vault bank : ℕ) → IsReady net → IsBankIn net.topology cube vault bank → AreParts (cube_in net.cubes cube) → bank_says (cube_in net.cubes cube) net.slots vault bank ≡ runs_as.Full
    → now ≡ record net { last = entries.Idle (steps.Bank cube vault bank) causes.Full } → DoesStep net now (steps.Bank cube vault bank)
bank_full net now cube vault bank ready there parts full now_is =
    bank_does net now cube vault bank runs_as.Full ready there parts (sym full) refl
    (now_is ∙ ap (λ (cubes : List CubeFields). with_all net cubes net.hosts net.slots net.links (entries.Idle (steps.Bank cube vault bank) causes.Full)) (sym (same_cube net cube)))

pub bank_none : (net now : NetState) (cube vault bank : ℕ) → IsSized net → bank_at (vault_at (cube_in net.cubes cube) vault) bank ≡ [] → now ≡ record net { last = entries.Idle (steps.Bank cube vault bank) causes.Empty } → DoesStep net now (steps.Bank cube vault bank)
unfolding choice
bank_none net now cube vault bank sized none now_is =
    idle_does net now (steps.Bank cube vault bank) (steps.Bank cube vault bank) causes.Empty now_is sized
    (λ view sees. sym (front_none (steps.Bank cube vault bank) (view.inside (Bank cube vault bank)) _ (no_front (view.inside (Bank cube vault bank)) (sym (sees.shows.queues (Bank cube vault bank) tt) ∙ none))))

pub registers_does : (net now : NetState) (cube : ℕ) (ran : Execution) → IsReady net → cube < cubes_in net.topology → ran ≡ registers_say (cube_in net.cubes cube) net.slots
    → (after_registers ran net.slots (cube_in net.cubes cube)).state.shape ≡ (cube_in net.cubes cube).state.shape
    → now ≡ with_all net (with_cube cube (after_registers ran net.slots) net.cubes) net.hosts (units_left ran (cube_in net.cubes cube).state net.slots) net.links (ran_entry (units.Registers cube) (steps.Registers cube) ran) → DoesStep net now (steps.Registers cube)
unfolding choice
registers_does net now cube ran ready there says shape now_is =
    let x = cube_in net.cubes cube in
    let sized = ready.sized in
    let less = cube_inside net cube sized there in
    let unit = units.Registers cube in
    let step = steps.Registers cube in
    let left = units_left ran x.state net.slots in
    does_by net now (with_cube cube (after_registers ran net.slots) net.cubes) net.hosts left net.links (ran_entry unit step ran) step now_is (record {
      chosen = λ view sees.
          (let waits : x.register_queue ≡ view.inside (Registers cube) = sees.shows.queues (Registers cube) tt in
          ap (ran_entry unit step) says
          ∙ run_front net.topology view unit step cube x.register_queue x.answers x.size (queue_size net.topology unit) x.state net.slots (sized.fits cube less).queue (subst (All (IsCubeRequest cube)) (sym waits) (sees.laws.registers cube)) (cube_state net view cube sees) (units_seen net view sees)
          ∙ ap₂ (λ (w a : List PacketFields). with_front step w (λ front. execution_entry unit step front a (queue_size net.topology unit) view.state (request_in front))) waits (sees.shows.queues (Answers cube lifts.Registers) tt));
      cubes_are = λ view sees. registers_cubes view net.cubes net.slots cube step ran (units_seen net view sees);
      hosts_are = ran_hosts net.hosts unit step ran;
      slots_are = λ view sees. ran_slots view x.state net.slots unit step ran (cube_state net view cube sees);
      piped_are = λ view sees. ran_piped net.topology view net.piped unit step ran;
      links_are = λ view sees on. subst (LinksStandFor net.topology.links net.links) (ran_links net.topology view unit step ran) sees.shows.links;
      there = ran_in net.cubes unit step ran (less, tt);
      host = ran_host_in net.hosts unit step ran;
      sized = sized_units (with_parts net (with_cube cube (after_registers ran net.slots) net.cubes) net.hosts net.links (ran_entry unit step ran)) left
          (sized_cube net cube (after_registers ran net.slots x) net.links (ran_entry unit step ran) sized less shape refl);
      idle = λ cause is. ap₂ (λ (l : List CubeFields) (s : List (Option UnitFields)). with_all net l net.hosts s net.links (ran_entry unit step ran)) (registers_idle net.cubes net.slots cube unit step ran cause is) (ran_slots_idle x.state net.slots unit step ran cause is);
    })

pub registers_none : (net now : NetState) (cube : ℕ) → IsSized net → (cube_in net.cubes cube).register_queue ≡ [] → now ≡ record net { last = entries.Idle (steps.Registers cube) causes.Empty } → DoesStep net now (steps.Registers cube)
unfolding choice
registers_none net now cube sized none now_is =
    idle_does net now (steps.Registers cube) (steps.Registers cube) causes.Empty now_is sized
    (λ view sees. sym (front_none (steps.Registers cube) (view.inside (Registers cube)) _ (no_front (view.inside (Registers cube)) (sym (sees.shows.queues (Registers cube) tt) ∙ none))))
