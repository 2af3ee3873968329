-- What is kept before the first line is what the empty journal says.
use Rattle.std.proofs.Common.{◌≡◌, ◌<◌, ◌^◌, ◌∙◌, if◌then◌else◌, ℕ, zero, suc, Bool, true, false, Option, List, [], ◌∷◌, length, refl, sym, ap, ap₂, subst, arith}
use Rattle.std.specs.Prelude.{replicate, slice_index_or}
use Rattle.std.specs.List.{All}
use Rattle.std.proofs.lemmas.List.{length-map}
use Rattle.hmc_packet.specs.Packet.{PacketFields}
use Rattle.hmc_units.specs.Unit.{UnitFields}
use Rattle.hmc_serial.specs.Cube.{CubeState}
use Rattle.hmc_script.specs.Items.{ItemFields}
use Rattle.hmc_serial.specs.Machine.{State, machine_of, opening_state}
use Rattle.hmc_case.specs.Setup.{CubeSetupFields}
use Rattle.hmc_journal.specs.Links.{link_entries}
use Rattle.hmc_journal.specs.Network.{IsNetwork}
use Rattle.hmc_journal.specs.Queues.{QueueId}
use Rattle.hmc_journal.specs.Queues.QueueId.{Output, Port, Host, Vault, Bank, Registers, Answers}
use Rattle.hmc_journal.specs.Serial.{state_after}
use Rattle.hmc_journal.specs.Setup.{Topology, Setup, no_setup, cube_setup, cubes_in, hosts_in, directions_in}
use Rattle.hmc_journal.specs.StepView.{state_of}
use Rattle.hmc_kept.specs.Hosts.{no_host}
use Rattle.hmc_kept.specs.Pipes.{AreCounted}
use Rattle.hmc_wiring.specs.Ready.{IsStepFor}
use Rattle.hmc_queues.specs.Queues.{CubeQueuesFields, opening_queues, queues_at, packets_at, is_there, place_of, seats}
use Rattle.hmc_queues.specs.declared.queue_name.QueueName.{QueueName}
use Rattle.hmc_queues.specs.declared.queue_name.QueueName.TheVariants as names
use Rattle.hmc_tally.specs.Tally.{IsWithin}
use Rattle.hmc_check.specs.Inside.{inside_of, QueuesFit}
use Rattle.hmc_check.specs.Kept.{KeepsInner}
use Rattle.hmc_check.specs.Opening.{queues_setup, sizes_of, shapes_of, new_queues, IsOpening}
use Rattle.hmc_serial.proofs.MachineLemmas.{length-openings_from}
use Rattle.hmc_check.specs.Past.{PastFields, IsSized, Holds, Keeps}
use Rattle.hmc_check.proofs.Holding.{same_hold}
use Rattle.hmc_tally.proofs.TallyLaw.{tally_none}
use Rattle.hmc_kept.proofs.Opening.{nothing_in, within_nothing, lawful_nothing, opening_host_is, no_entries, nothing_forwarded, nothing_piped}
use Rattle.hmc_tally.proofs.Opening.{opening_within}

-- ---- no packet waits

none_at : (n at : ℕ) → ◌≡◌ {A = List PacketFields} (slice_index_or (replicate n []) at []) []
none_at zero at = refl
none_at (suc n) zero = refl
none_at (suc n) (suc at) = none_at n at

none_if : (there : Bool) (n at : ℕ) → ◌≡◌ {A = List PacketFields} (if there then slice_index_or (replicate n []) at [] else []) []
none_if true n at = none_at n at
none_if false n at = refl

queues_new : (setups : List CubeSetupFields) (cube : ℕ) → (n : ℕ) × ((queues_at (new_queues setups) cube).queues ≡ replicate n [])
queues_new [] cube = (0, refl)
queues_new (setup ∷ setups) zero = (seats (2 ^ setup.shape.vault_bits) (2 ^ setup.shape.bank_bits), refl)
queues_new (setup ∷ setups) (suc cube) = queues_new setups cube

no_packets : (setups : List CubeSetupFields) (cube : ℕ) (room : QueueName) → packets_at (new_queues setups) cube room ≡ []
no_packets setups cube room =
    let here = queues_at (new_queues setups) cube in
    let new = queues_new setups cube in
    ap (λ (q : List (List PacketFields)). if is_there here room then slice_index_or q (place_of here room) [] else []) new.1 ∙ none_if (is_there here room) new.0 (place_of here room)

nothing_inside : (setups : List CubeSetupFields) (queue : QueueId) → inside_of (new_queues setups) queue ≡ []
nothing_inside setups (Output direction) = refl
nothing_inside setups (Port cube other) = refl
nothing_inside setups (Host host) = refl
nothing_inside setups (Vault cube vault) = no_packets setups cube (names.Vault vault)
nothing_inside setups (Bank cube vault bank) = no_packets setups cube (names.Bank vault bank)
nothing_inside setups (Registers cube) = no_packets setups cube names.Registers
nothing_inside setups (Answers cube from) = no_packets setups cube (names.Answers from)

opening_inner : (setup : Setup) (p : PastFields) → IsOpening p setup.topology setup.slots setup.script → KeepsInner setup [] (record { inside = inside_of p.queues; state = machine_of p.cubes p.slots })
unfolding state_of state_after opening_state
opening_inner setup p is = record {
  queues = λ queue inner. ap (λ (r : List CubeQueuesFields). inside_of r queue) is.queues ∙ nothing_inside setup.topology.cubes queue ∙ sym (nothing_in setup.topology queue);
  moves = λ queue inner. within_nothing setup.topology queue;
  state = ap₂ {C = State} (λ (l : List CubeState) (s : List (Option UnitFields)). record { cubes = l; slots = s }) is.cubes is.same_slots;
}

-- ---- all parts are as many and as large as the topology says

replicate_count : {X : Type 0} (x : X) (n : ℕ) → length (replicate n x) ≡ n
replicate_count x zero = refl
replicate_count x (suc n) = ap suc (replicate_count x n)

fit_new : (setup : CubeSetupFields) → QueuesFit setup (opening_queues (queues_setup setup))
fit_new setup = record {
  vaults = refl;
  banks = refl;
  size = refl;
  count = replicate_count [] (seats (2 ^ setup.shape.vault_bits) (2 ^ setup.shape.bank_bits));
}

new_queues_at : (setups : List CubeSetupFields) (cube : ℕ) → cube < length setups → queues_at (new_queues setups) cube ≡ opening_queues (queues_setup (slice_index_or setups cube no_setup))
new_queues_at [] cube less = absurd (omega arith)
new_queues_at (setup ∷ setups) zero less = refl
new_queues_at (setup ∷ setups) (suc cube) less = new_queues_at setups cube (omega arith)

new_count : (setups : List CubeSetupFields) → length (new_queues setups) ≡ length setups
new_count setups = length-map (sizes_of setups) opening_queues ∙ length-map setups (λ setup. queues_setup setup)

fits_new : (topology : Topology) (all : List CubeQueuesFields) → all ≡ new_queues topology.cubes → (cube : ℕ) → cube < length all → QueuesFit (cube_setup topology cube) (queues_at all cube)
fits_new topology all is cube less =
    let there : cube < length topology.cubes = omega (arith, ap length is, new_count topology.cubes) in
    subst (QueuesFit (cube_setup topology cube)) (sym (ap (λ (r : List CubeQueuesFields). queues_at r cube) is ∙ new_queues_at topology.cubes cube there)) (fit_new (cube_setup topology cube))

opening_sized : (p : PastFields) (topology : Topology) (slots : List (Option UnitFields)) (script : List ItemFields) → IsOpening p topology slots script → IsSized p
opening_sized p topology slots script is =
    let same = is.same_topology in
    record {
      queues = ap length is.queues ∙ new_count topology.cubes ∙ ap cubes_in (sym same);
      fits = subst (λ (t : Topology). (cube : ℕ) → cube < length p.queues → QueuesFit (cube_setup t cube) (queues_at p.queues cube)) (sym same) (fits_new topology p.queues is.queues);
      cubes = ap length is.cubes ∙ length-openings_from 0 (shapes_of topology.cubes) ∙ length-map topology.cubes (λ setup. setup.shape) ∙ ap cubes_in (sym same);
      hosts = is.hosts.counted ∙ ap hosts_in (sym same);
      ends = is.ends.count ∙ ap directions_in (sym same);
      piped = subst (λ (t : Topology). AreCounted (directions_in t) p.piped) (sym same) is.piped;
    }

-- ---- nothing happened

opening_holds : (setup : Setup) (p : PastFields) → IsNetwork setup → All (IsStepFor setup.topology) setup.schedule → IsOpening p setup.topology setup.slots setup.script → Holds setup [] p
opening_holds setup p network steps is = record {
  network = network;
  steps = steps;
  topology = is.same_topology;
  sized = opening_sized p setup.topology setup.slots setup.script is;
  lawful = lawful_nothing setup;
  inner = opening_inner setup p is;
  hosts = λ host less. is.hosts.each host no_host (omega (arith, is.hosts.counted)) ∙ opening_host_is setup host;
  forwarded = λ direction there. is.unused.forwarded direction ∙ nothing_forwarded setup.topology direction;
  pipes = λ direction there. is.unused.pipes direction ∙ nothing_piped setup.topology direction;
  ends = λ on. same_hold setup.topology.links p.ends (λ link. []) (λ link. link_entries setup.topology link []) (no_entries setup.topology) is.ends;
}

pub opening_keeps : (setup : Setup) (p : PastFields) → IsNetwork setup → All (IsStepFor setup.topology) setup.schedule → length setup.schedule < 2 ^ 32 → IsOpening p setup.topology setup.slots setup.script → Keeps setup [] p
opening_keeps setup p network steps few is = record {
  holds = opening_holds setup p network steps is;
  counts = record {
    few = few;
    within = subst (IsWithin 0) (sym is.tally) (opening_within setup.topology);
    counted = λ on. is.tally ∙ tally_none setup.topology;
  };
}
