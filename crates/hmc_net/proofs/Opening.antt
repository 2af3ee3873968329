-- A new network stands for its case and the empty journal.
use Rattle.std.proofs.Common.{◌≡◌, ◌<◌, ◌+◌, ◌^◌, ◌∙◌, ℕ, zero, suc, Option, List, [], ◌∷◌, length, map, refl, sym, ap, ap₂, subst, arith}
use Rattle.std.specs.Prelude.{replicate, slice_index_or}
use Rattle.std.specs.List.{All}
use Rattle.hmc_codes.specs.Shape.{ShapeFields}
use Rattle.hmc_codes.specs.declared.lift.Lift.TheVariants as lifts
use Rattle.hmc_packet.specs.Packet.{PacketFields}
use Rattle.hmc_units.specs.Unit.{UnitFields}
use Rattle.hmc_serial.specs.Cube.{CubeState, opening}
use Rattle.hmc_serial.specs.Machine.{State, openings_from, opening_state}
use Rattle.hmc_vault.specs.Vault.{VaultFields, opening_vault, bank_at}
use Rattle.hmc_cube.specs.Cube.{CubeFields, no_vault, opening_cube}
use Rattle.hmc_case.specs.Setup.{CubeSetupFields}
use Rattle.hmc_journal.specs.Links.{link_entries}
use Rattle.hmc_journal.specs.Network.{IsNetwork}
use Rattle.hmc_journal.specs.Queues.{QueueId}
use Rattle.hmc_journal.specs.Queues.QueueId.{Output, Port, Host, Vault, Bank, Registers, Answers}
use Rattle.hmc_journal.specs.Serial.{state_after}
use Rattle.hmc_journal.specs.Setup.{Topology, Setup, no_setup, cube_setup, cubes_in, hosts_in, directions_in}
use Rattle.hmc_journal.specs.StepView.{state_of}
use Rattle.hmc_kept.specs.Pipes.{AreCounted}
use Rattle.hmc_net.specs.NetState.{NetState, cube_in, no_cube, packets_in, queue_cube, inside, machine_in}
use Rattle.hmc_kept.specs.Hosts.{no_host}
use Rattle.hmc_net.specs.Opening.{AreNewCubes, IsOpening}
use Rattle.hmc_wiring.specs.Ready.{IsStepFor}
use Rattle.hmc_net.specs.Sees.{CubeFits, IsSized}
use Rattle.hmc_net.specs.Stands.{StandsFor}
use Rattle.hmc_tally.specs.Tally.{IsWithin}
use Rattle.hmc_links.proofs.LinkCalls.{same_entries}
use Rattle.hmc_tally.proofs.TallyLaw.{tally_none}
use Rattle.hmc_kept.proofs.Opening.{nothing_in, within_nothing, lawful_nothing, opening_host_is, no_entries, nothing_forwarded, nothing_piped}
use Rattle.hmc_tally.proofs.Opening.{opening_within}

-- ---- nothing waits

replicate_at : {X : Type 0} (P : X → Type 0) (n i : ℕ) (x d : X) → P x → P d → P (slice_index_or (replicate n x) i d)
replicate_at P zero i x d px pd = pd
replicate_at P (suc n) zero x d px pd = px
replicate_at P (suc n) (suc i) x d px pd = replicate_at P n i x d px pd

abbrev IsNew : VaultFields → Type 0
IsNew vault = (vault.vault_queue ≡ []) × ((bank : ℕ) → bank_at vault bank ≡ []) × (vault.answers ≡ [])

new_vault : (n bank_bits size at : ℕ) → IsNew (slice_index_or (replicate n (opening_vault bank_bits size)) at no_vault)
new_vault n bank_bits size at = replicate_at IsNew n at (opening_vault bank_bits size) no_vault
    (refl, (λ bank. replicate_at (λ (l : List PacketFields). l ≡ []) (2 ^ bank_bits) bank [] [] refl refl), refl) (refl, (λ bank. refl), refl)

-- no queue of a new cube holds a packet
opening_packets : (number : ℕ) (shape : ShapeFields) (size : ℕ) (queue : QueueId) → packets_in (opening_cube number shape size) queue ≡ []
opening_packets number shape size (Output direction) = refl
opening_packets number shape size (Port cube other) = refl
opening_packets number shape size (Host host) = refl
opening_packets number shape size (Vault cube vault) = (new_vault (2 ^ shape.vault_bits) shape.bank_bits size vault).0
opening_packets number shape size (Bank cube vault bank) = (new_vault (2 ^ shape.vault_bits) shape.bank_bits size vault).1 bank
opening_packets number shape size (Registers cube) = refl
opening_packets number shape size (Answers cube (lifts.Vault vault)) = (new_vault (2 ^ shape.vault_bits) shape.bank_bits size vault).2
opening_packets number shape size (Answers cube lifts.Registers) = refl

no_packets : (queue : QueueId) → packets_in no_cube queue ≡ []
no_packets (Output direction) = refl
no_packets (Port cube other) = refl
no_packets (Host host) = refl
no_packets (Vault cube vault) = refl
no_packets (Bank cube vault bank) = refl
no_packets (Registers cube) = refl
no_packets (Answers cube (lifts.Vault vault)) = refl
no_packets (Answers cube lifts.Registers) = refl

-- what holds of each element and of the value for what isn't there holds of the one at any place
anywhere : {X : Type 0} (P : X → Type 0) (xs : List X) (d : X) (i : ℕ) → P d → ((k : ℕ) → k < length xs → P (slice_index_or xs k d)) → P (slice_index_or xs i d)
anywhere P [] d i none each = none
anywhere P (x ∷ xs) d zero none each = each 0 (omega arith)
anywhere P (x ∷ xs) d (suc i) none each = anywhere P xs d i none (λ k less. each (suc k) (omega arith))

nothing_inside : (setups : List CubeSetupFields) (cubes : List CubeFields) (queue : QueueId) → AreNewCubes setups cubes → inside cubes queue ≡ []
nothing_inside setups cubes queue new =
    anywhere (λ (x : CubeFields). packets_in x queue ≡ []) cubes no_cube (queue_cube queue) (no_packets queue)
    (λ k less. ap (λ (x : CubeFields). packets_in x queue) (new.each k no_setup no_cube (omega (arith, new.counted))) ∙ opening_packets k (slice_index_or setups k no_setup).shape (slice_index_or setups k no_setup).queue queue)

-- ---- the states of new cubes

states_from : (setups : List CubeSetupFields) (cubes : List CubeFields) (n : ℕ) → length cubes ≡ length setups
    → ((k : ℕ) → k < length setups → (slice_index_or cubes k no_cube).state ≡ opening (slice_index_or setups k no_setup).shape (n + k))
    → map (λ (x : CubeFields). x.state) cubes ≡ openings_from n (map (λ (s : CubeSetupFields). s.shape) setups)
states_from [] [] n same each = refl
states_from [] (x ∷ cubes) n same each = absurd (omega arith)
states_from (s ∷ setups) [] n same each = absurd (omega arith)
states_from (s ∷ setups) (x ∷ cubes) n same each =
    let zero_is : n + 0 ≡ n = omega arith in
    ap₂ (λ (c : CubeState) (l : List CubeState). c ∷ l) (each 0 (omega arith) ∙ ap (opening s.shape) zero_is)
    (states_from setups cubes (n + 1) (omega arith) (λ k less. each (suc k) (omega arith) ∙ ap (opening (slice_index_or setups k no_setup).shape) (omega arith)))

new_states : (setup : Setup) (cubes : List CubeFields) (slots : List (Option UnitFields)) → AreNewCubes setup.topology.cubes cubes → slots ≡ setup.slots → machine_in cubes slots ≡ state_of setup []
unfolding state_of state_after opening_state
new_states setup cubes slots new same =
    let topology = setup.topology in
    ap₂ {C = State} (λ (l : List CubeState) (s : List (Option UnitFields)). record { cubes = l; slots = s }) (states_from topology.cubes cubes 0 new.counted
    (λ k less. ap (λ (x : CubeFields). x.state) (new.each k no_setup no_cube less) ∙ ap (opening (slice_index_or topology.cubes k no_setup).shape) (omega arith))) same

opening_fits : (setup own : CubeSetupFields) (number : ℕ) (cube : CubeFields) → cube ≡ opening_cube number own.shape own.queue → own ≡ setup → CubeFits setup cube
unfolding opening
opening_fits setup own number cube is same = record {
  shape = ap (λ (c : CubeFields). c.state.shape) is ∙ ap (λ (s : CubeSetupFields). s.shape) same;
  queue = ap (λ (c : CubeFields). c.size) is ∙ ap (λ (s : CubeSetupFields). s.queue) same;
}

opening_sized : (net : NetState) (topology : Topology) → net.topology ≡ topology → AreNewCubes topology.cubes net.cubes → length net.hosts ≡ hosts_in topology → AreCounted (directions_in topology) net.piped → IsSized net
opening_sized net topology same cubes hosts piped = record {
  piped = subst (λ (t : Topology). AreCounted (directions_in t) net.piped) (sym same) piped;
  cubes = cubes.counted ∙ ap cubes_in (sym same);
  hosts = hosts ∙ ap hosts_in (sym same);
  fits = λ cube less. opening_fits (cube_setup net.topology cube) (cube_setup topology cube) cube (cube_in net.cubes cube)
      (cubes.each cube no_setup no_cube (omega (arith, cubes.counted))) (ap (λ (t : Topology). cube_setup t cube) (sym same));
}

pub opening_stands : (setup : Setup) (net : NetState) → IsNetwork setup → All (IsStepFor setup.topology) setup.schedule → length setup.schedule < 2 ^ 32 → IsOpening net setup.topology setup.slots setup.script → StandsFor net setup []
opening_stands setup net network steps few is = record {
  network = network;
  steps = steps;
  topology = is.same_topology;
  sized = opening_sized net setup.topology is.same_topology is.cubes is.hosts.counted is.piped;
  lawful = lawful_nothing setup;
  queues = λ queue cube. nothing_inside setup.topology.cubes net.cubes queue is.cubes ∙ sym (nothing_in setup.topology queue);
  moves = λ queue cube. within_nothing setup.topology queue;
  state = new_states setup net.cubes net.slots is.cubes is.same_slots;
  forwarded = λ direction there. is.unused.forwarded direction ∙ nothing_forwarded setup.topology direction;
  pipes = λ direction there. is.unused.pipes direction ∙ nothing_piped setup.topology direction;
  hosts = λ host less. is.hosts.each host no_host (omega (arith, is.hosts.counted)) ∙ opening_host_is setup host;
  links = λ on. same_entries setup.topology.links net.links (λ link. []) (λ link. link_entries setup.topology link []) is.links (no_entries setup.topology);
  few = few;
  within = subst (IsWithin 0) (sym is.tally) (opening_within setup.topology);
  tally = λ on. is.tally ∙ tally_none setup.topology;
}
