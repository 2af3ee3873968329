-- Nothing is on its way where the test of all queues that there are says so: in the others there is
-- nothing.
use Rattle.std.proofs.Common.{◌≡◌, ◌≤◌, ◌<◌, ◌+◌, ◌/◌, ◌^◌, ◌∙◌, ◌==◌, ℕ, Bool, true, false, if◌then◌else◌, Option, Some, None, List, [], ◌∷◌, ◌++◌, All, length, map, refl, sym, ap, subst, arith, eqb-true, nat_le, leb-true, leb-false, eq-eqb}
use Rattle.std.specs.Prelude.{option_map}
use Rattle.std.specs.List.{list_all, flat_map}
use Rattle.std.proofs.lemmas.List.Elements.{All-head, All-nil, All-cons, All-append, All-drop, All-get_or}
use Rattle.std.proofs.lemmas.List.Sums.{AllPass-from_list_all}
use Rattle.std.proofs.lemmas.List.Folds.{list_all-append, list_all-map}
use Rattle.std.proofs.lemmas.List.FromFn.{length-range_with_len, get_or-range_with_len}
use Rattle.std.proofs.lemmas.Nat.{pow_pos}
use Rattle.std.proofs.lemmas.Bool.{and_parts}
use Rattle.std.proofs.Math.Nat.{mod-lt}
use Rattle.hmc_codes.specs.Commands.{is_posted}
use Rattle.hmc_codes.specs.Shape.{vault_of, bank_of}
use Rattle.hmc_codes.specs.declared.lift.Lift.TheVariants as lifts
use Rattle.hmc_codes.specs.declared.place.Place.{Place}
use Rattle.hmc_codes.specs.declared.place.Place.TheVariants as places
use Rattle.hmc_codes.specs.declared.unit.Unit.{Unit as RequestUnit}
use Rattle.hmc_codes.specs.declared.unit.Unit.TheVariants as units
use Rattle.hmc_packet.specs.Packet.{PacketFields}
use Rattle.hmc_entries.specs.declared.entry.Entry.{Entry}
use Rattle.hmc_entries.specs.declared.entry.Entry.TheVariants.{Gave, Landed, Shifted, Spread, Executed, Lifted}
use Rattle.hmc_entries.specs.declared.outcome.Goal.{Goal}
use Rattle.hmc_entries.specs.declared.outcome.Goal.TheVariants as goals
use Rattle.hmc_serial.specs.Unit.{is_for_registers}
use Rattle.hmc_journal.specs.Setup.{Topology, Setup, shape_of, cubes_in, directions_in, end_of, direction_from}
use Rattle.hmc_codes.specs.Link.{LinkFields}
use Rattle.hmc_journal.specs.Counts.{token_counts}
use Rattle.hmc_journal.specs.Queues.{QueueId, landing_buffer, buffer_at, contents, entered, left, enters, goal_queue, queue_of, answers_of, unless_posted, packet_if, Arrival, arrival_in, arrival_of, arrived, same_queue}
use Rattle.hmc_journal.specs.Queues.QueueId.{Output, Port, Host, Vault, Bank, Registers, Answers}
use Rattle.hmc_codes.specs.Numbers.{upto}
use Rattle.hmc_journal.specs.Drained.{IsDrained, is_drained, direction_queues, cube_queues, vault_queues}
use Rattle.hmc_journal.specs.Lawful.{Lawful}
use Rattle.hmc_journal.proofs.EntryRule.{EntryRule, entry_rule, lawful_past}
use Rattle.hmc_journal.proofs.Moves.{same_queue_is, arrives}
use Rattle.hmc_laws.proofs.Standing.{Stands, IsBound, IsLeaving}
use Rattle.hmc_laws.proofs.Entering.{Kept, contents_stand, front_stands}
use Rattle.hmc_journal.specs.Network.{IsNetwork}
use Rattle.hmc_laws.proofs.Buffers.{coming}
use Rattle.hmc_laws.proofs.Sound.{kept}
use Rattle.hmc_laws.proofs.SoundPipes.{far_sizes}
use Rattle.hmc_laws.proofs.LinkLaws.{tokens_hold}

-- tests of lists
upto_at : (p : ℕ → Bool) (n k : ℕ) → list_all p (upto n) ≡ true → k < n → p k ≡ true
upto_at p n k all h =
    let within : k < length (upto n) = omega (arith, length-range_with_len 0 n) in
    let there = All-get_or (λ (i : ℕ). p i ≡ true) (upto n) k 0 within (AllPass-from_list_all p (upto n) all) in
    let same : 0 + k ≡ k = omega arith in
    subst (λ (i : ℕ). p i ≡ true) (get_or-range_with_len 0 n k 0 h ∙ same) there

flat_list : {X : Type 0} (p : X → Bool) (f : ℕ → List X) (ns : List ℕ) → list_all p (flat_map f ns) ≡ true → list_all (λ n. list_all p (f n)) ns ≡ true
flat_list p f [] all = refl
flat_list p f (n ∷ ns) all =
    let both = and_parts (list_all p (f n)) (list_all p (flat_map f ns)) (sym (list_all-append p (f n) (flat_map f ns)) ∙ all) in
    rw both.0 (flat_list p f ns both.1)

flat_at : {X : Type 0} (p : X → Bool) (f : ℕ → List X) (n k : ℕ) → list_all p (flat_map f (upto n)) ≡ true → k < n → list_all p (f k) ≡ true
flat_at p f n k all h = upto_at (λ i. list_all p (f i)) n k (flat_list p f (upto n) all) h

none_by : {X : Type 0} (xs : List X) → (length xs == 0) ≡ true → xs ≡ []
none_by [] is = refl
none_by (x ∷ xs) is = let none : length (x ∷ xs) ≡ 0 = eqb-true (length (x ∷ xs)) 0 is in absurd (omega arith)

-- a list is empty where its front says so
by_front : {X : Type 0} (P : X → Type 0) (xs : List X) → All P xs → ((x : X) → P x → xs ≡ []) → xs ≡ []
by_front P [] all none = refl
by_front P (x ∷ xs) all none = none x (All-head P x xs all)

-- a vault, and a bank, that an address names is there
named_vault : (registers : Bool) (v vault : ℕ) → (if registers then goals.Registers else goals.Vault v) ≡ goals.Vault vault → v ≡ vault
named_vault true v vault is = cc
named_vault false v vault is = cc

vault_there : (topology : Topology) (cube vault : ℕ) (packet : PacketFields) → IsBound topology cube (goals.Vault vault) packet → vault < 2 ^ (shape_of topology cube).vault_bits
vault_there topology cube vault packet is =
    let named : vault_of (shape_of topology cube) packet.address ≡ vault = named_vault (is_for_registers packet.command) (vault_of (shape_of topology cube) packet.address) vault is.is_goal in
    subst (λ (n : ℕ). n < 2 ^ (shape_of topology cube).vault_bits) named (mod-lt (packet.address / (shape_of topology cube).block) (pow_pos (shape_of topology cube).vault_bits))

bank_there : (topology : Topology) (cube bank : ℕ) (packet : PacketFields) → bank_of (shape_of topology cube) packet.address ≡ bank → bank < 2 ^ (shape_of topology cube).bank_bits
bank_there topology cube bank packet is =
    subst (λ (n : ℕ). n < 2 ^ (shape_of topology cube).bank_bits) is (mod-lt (packet.address / (shape_of topology cube).block / 2 ^ (shape_of topology cube).vault_bits) (pow_pos (shape_of topology cube).bank_bits))

-- its cube is there
bound_cube : (topology : Topology) (cube : ℕ) (goal : Goal) (packet : PacketFields) → IsBound topology cube goal packet → cube < cubes_in topology
bound_cube topology cube goal packet is = subst (λ (n : ℕ). n < cubes_in topology) is.own is.asking.cube

leaving_cube : (topology : Topology) (cube : ℕ) (packet : PacketFields) → IsLeaving topology cube packet → cube < cubes_in topology
leaving_cube topology cube packet is = subst (λ (n : ℕ). n < cubes_in topology) is.own is.replying.cube

-- answers of a vault enter from one of its banks alone
from_bank : (posted : Bool) (unit : RequestUnit) (cube vault : ℕ) → unless_posted posted (answers_of unit) ≡ Some (Answers cube (lifts.Vault vault)) → (bank : ℕ) × (queue_of unit ≡ Bank cube vault bank)
from_bank true unit cube vault is = cc
from_bank false (units.Bank c v bank) cube vault is = (bank, cc)
from_bank false (units.Registers c) cube vault is = cc

abbrev entering_queue : Option Arrival → Option QueueId
entering_queue None = None
entering_queue (Some arrival) = Some arrival.queue

not_buffer : (place : Place) (cube vault : ℕ) → buffer_at place ≡ Answers cube (lifts.Vault vault) → ⊥
not_buffer (places.Host host) cube vault is = cc
not_buffer (places.Port c port) cube vault is = cc

not_landed : (place : Place) (packets : List PacketFields) (cube vault : ℕ) → entering_queue (arrival_of (buffer_at place) packets) ≡ Some (Answers cube (lifts.Vault vault)) → ⊥
not_landed place [] cube vault is = cc
not_landed place (packet ∷ rest) cube vault is = not_buffer place cube vault (queue_of_some is)
  where
    queue_of_some : Some (buffer_at place) ≡ Some (Answers cube (lifts.Vault vault)) → buffer_at place ≡ Answers cube (lifts.Vault vault)
    queue_of_some same = cc

not_output : (direction : Option ℕ) (queue : QueueId) (cube vault : ℕ) → queue ≡ Answers cube (lifts.Vault vault) → option_map Output direction ≡ Some queue → ⊥
not_output None queue cube vault same is = cc
not_output (Some direction) queue cube vault same is = cc

not_goal : (topology : Topology) (here : ℕ) (goal : Goal) (cube vault : ℕ) → goal_queue topology here goal ≡ Some (Answers cube (lifts.Vault vault)) → ⊥
not_goal topology here (goals.Vault v) cube vault is = cc
not_goal topology here goals.Registers cube vault is = cc
not_goal topology here (goals.Port port) cube vault is = not_output (direction_from topology (places.Port here port)) (Answers cube (lifts.Vault vault)) cube vault refl is

queue_is : (there : Option QueueId) (packet : Unit {0} → PacketFields) → entering_queue (arrival_in there packet) ≡ there
queue_is None packet = refl
queue_is (Some queue) packet = refl

abbrev VaultThere : Topology → (cube vault : ℕ) → Type 0
VaultThere topology cube vault = vault < 2 ^ (shape_of topology cube).vault_bits

entering_there : (setup : Setup) (entry : Entry) (past : List Entry) (cube vault : ℕ) → EntryRule setup past entry → Kept setup past → entering_queue (arrives setup.topology past entry) ≡ Some (Answers cube (lifts.Vault vault))
    → VaultThere setup.topology cube vault
unfolding enters
entering_there setup (Gave host tag poisoned request) past cube vault right kept is = absurd (not_output (direction_from setup.topology (places.Host host)) (Answers cube (lifts.Vault vault)) cube vault refl (sym (queue_is _ _) ∙ is))
entering_there setup (Landed direction flit outcome) past cube vault right kept is = absurd (not_landed (end_of setup.topology direction) (coming setup.topology direction flit outcome past) cube vault is)
entering_there setup (Shifted here port goal) past cube vault right kept is = absurd (not_goal setup.topology here goal cube vault (sym (queue_is _ _) ∙ is))
entering_there setup (Spread here v bank) past cube vault right kept is = cc
entering_there setup (Executed unit host tag request answer) past cube vault right kept is =
    let from = from_bank (is_posted request.command) unit cube vault (sym (queue_is _ _) ∙ is) in
    let bound = subst (λ (room : QueueId). Stands setup.topology room right.at.front) from.1 (front_stands setup past (queue_of unit) kept right.at) in
    vault_there setup.topology cube vault right.at.front bound.bound
entering_there setup (Lifted here from port) past cube vault right kept is = absurd (not_output (direction_from setup.topology (places.Port here port)) (Answers cube (lifts.Vault vault)) cube vault refl (sym (queue_is _ _) ∙ is))
entering_there setup _ past cube vault right kept is = cc

entered_if : (P : PacketFields → Type 0) (here : Bool) (packet : Unit {0} → PacketFields) → (here ≡ true → P (packet tt)) → All P (packet_if here packet)
entered_if P true packet holds = All-cons P (packet tt) [] (holds refl) (All-nil P)
entered_if P false packet holds = All-nil P

entered_then : (Q : Type 0) (room : QueueId) (to : Option Arrival) → (entering_queue to ≡ Some room → Q) → All (λ (packet : PacketFields). Q) (arrived room to)
entered_then Q room None holds = All-nil (λ (packet : PacketFields). Q)
entered_then Q room (Some arrival) holds = entered_if (λ (packet : PacketFields). Q) (same_queue arrival.queue room) arrival.packet (λ here. holds (ap Some (same_queue_is arrival.queue room here)))

answers_there : (setup : Setup) (past : List Entry) (cube vault : ℕ) → IsNetwork setup → Lawful setup past → All (λ (packet : PacketFields). VaultThere setup.topology cube vault) (entered setup.topology past (Answers cube (lifts.Vault vault)))
unfolding entered contents
answers_there setup [] cube vault network lawful = All-nil (λ (packet : PacketFields). VaultThere setup.topology cube vault)
answers_there setup (entry ∷ past) cube vault network lawful =
    let before = lawful_past setup entry past lawful in
    All-append (λ (packet : PacketFields). VaultThere setup.topology cube vault) (entered setup.topology past (Answers cube (lifts.Vault vault))) _ (answers_there setup past cube vault network before)
    (entered_then (VaultThere setup.topology cube vault) (Answers cube (lifts.Vault vault)) (arrives setup.topology past entry)
    (entering_there setup entry past cube vault (entry_rule setup entry past lawful) (kept setup past network before)))

-- what the test says of each queue that there is
record IsEmptied (topology : Topology) (past : List Entry) : Type 0 where
  output : (direction : ℕ) → direction < directions_in topology → contents topology past (Output direction) ≡ []
  arrivals : (direction : ℕ) → direction < directions_in topology → contents topology past (landing_buffer topology direction) ≡ []
  registers : (cube : ℕ) → cube < cubes_in topology → contents topology past (Registers cube) ≡ []
  register_answers : (cube : ℕ) → cube < cubes_in topology → contents topology past (Answers cube lifts.Registers) ≡ []
  vaults : (cube vault : ℕ) → cube < cubes_in topology → VaultThere topology cube vault → contents topology past (Vault cube vault) ≡ []
  banks : (cube vault bank : ℕ) → cube < cubes_in topology → VaultThere topology cube vault → bank < 2 ^ (shape_of topology cube).bank_bits → contents topology past (Bank cube vault bank) ≡ []
  answers : (cube vault : ℕ) → cube < cubes_in topology → VaultThere topology cube vault → contents topology past (Answers cube (lifts.Vault vault)) ≡ []
  transit : (direction : ℕ) → direction < directions_in topology → (token_counts topology past direction).transit ≡ 0

-- whether a queue is empty
abbrev pub empties : Topology → List Entry → QueueId → Bool
empties topology past room = length (contents topology past room) == 0

vault_part : (p : QueueId → Bool) (topology : Topology) (cube vault : ℕ) → list_all p (vault_queues topology cube vault) ≡ true
    → (p (Vault cube vault) ≡ true) × (list_all p (map (Bank cube vault) (upto (2 ^ (shape_of topology cube).bank_bits))) ≡ true) × (p (Answers cube (lifts.Vault vault)) ≡ true)
vault_part p topology cube vault all =
    let banks = map (Bank cube vault) (upto (2 ^ (shape_of topology cube).bank_bits)) in
    let first = and_parts (p (Vault cube vault)) (list_all p (banks ++ Answers cube (lifts.Vault vault) ∷ [])) all in
    let second = and_parts (list_all p banks) (list_all p (Answers cube (lifts.Vault vault) ∷ [])) (sym (list_all-append p banks (Answers cube (lifts.Vault vault) ∷ [])) ∙ first.1) in
    (first.0, second.0, (and_parts (p (Answers cube (lifts.Vault vault))) true second.1).0)

bank_part : (p : QueueId → Bool) (cube vault n bank : ℕ) → list_all p (map (Bank cube vault) (upto n)) ≡ true → bank < n → p (Bank cube vault bank) ≡ true
bank_part p cube vault n bank all h = upto_at (λ b. p (Bank cube vault b)) n bank (sym (list_all-map p (Bank cube vault) (upto n)) ∙ all) h

-- of a cube
record CubeEmptied (p : QueueId → Bool) (topology : Topology) (cube : ℕ) : Type 0 where
  registers : p (Registers cube) ≡ true
  register_answers : p (Answers cube lifts.Registers) ≡ true
  vaults : (vault : ℕ) → VaultThere topology cube vault
      → (p (Vault cube vault) ≡ true) × (list_all p (map (Bank cube vault) (upto (2 ^ (shape_of topology cube).bank_bits))) ≡ true) × (p (Answers cube (lifts.Vault vault)) ≡ true)

cube_part : (p : QueueId → Bool) (topology : Topology) (cube : ℕ) → list_all p (cube_queues topology cube) ≡ true → CubeEmptied p topology cube
cube_part p topology cube all =
    let registers = and_parts (p (Registers cube)) _ all in
    let register_answers = and_parts (p (Answers cube lifts.Registers)) _ registers.1 in record {
      registers = registers.0;
      register_answers = register_answers.0;
      vaults = λ v h. vault_part p topology cube v (flat_at p (vault_queues topology cube) (2 ^ (shape_of topology cube).vault_bits) v register_answers.1 h);
    }

emptied : (topology : Topology) (past : List Entry) → is_drained topology past ≡ true → IsEmptied topology past
unfolding is_drained
emptied topology past all =
    let p = empties topology past in
    let n = directions_in topology in
    let directions = flat_map (direction_queues topology) (upto n) in
    let cubes = flat_map (cube_queues topology) (upto (cubes_in topology)) in
    let two = and_parts (list_all p (directions ++ cubes)) _ all in
    let queues = and_parts (list_all p directions) (list_all p cubes) (sym (list_all-append p directions cubes) ∙ two.0) in
    let cube = λ (c : ℕ) (h : c < cubes_in topology). cube_part p topology c (flat_at p (cube_queues topology) (cubes_in topology) c queues.1 h) in
    let direction_at = λ (d : ℕ) (h : d < n). flat_at p (direction_queues topology) n d queues.0 h in record {
      output = λ d h. none_by _ (and_parts (p (Output d)) _ (direction_at d h)).0;
      arrivals = λ d h. none_by _ (and_parts (p (landing_buffer topology d)) true (and_parts (p (Output d)) _ (direction_at d h)).1).0;
      registers = λ c h. none_by _ (cube c h).registers;
      register_answers = λ c h. none_by _ (cube c h).register_answers;
      vaults = λ c v h k. none_by _ ((cube c h).vaults v k).0;
      banks = λ c v b h k l. none_by _ (bank_part p c v (2 ^ (shape_of topology c).bank_bits) b ((cube c h).vaults v k).1 l);
      answers = λ c v h k. none_by _ ((cube c h).vaults v k).2;
      transit = λ d h. eqb-true _ 0 (upto_at (λ direction. (token_counts topology past direction).transit == 0) n d two.1 h);
    }

contents_there : (setup : Setup) (past : List Entry) (cube vault : ℕ) → IsNetwork setup → Lawful setup past → All (λ (packet : PacketFields). VaultThere setup.topology cube vault) (contents setup.topology past (Answers cube (lifts.Vault vault)))
unfolding contents
contents_there setup past cube vault network lawful =
    All-drop (λ (packet : PacketFields). VaultThere setup.topology cube vault) (left past (Answers cube (lifts.Vault vault))) (entered setup.topology past (Answers cube (lifts.Vault vault))) (answers_there setup past cube vault network lawful)

room_empty : (setup : Setup) (past : List Entry) → IsNetwork setup → Lawful setup past → IsEmptied setup.topology past → (room : QueueId) → contents setup.topology past room ≡ []
room_empty setup past network lawful is room =
    by_front (Stands setup.topology room) (contents setup.topology past room) (contents_stand setup past room (kept setup past network lawful)) (by_room room)
  where
    by_end : (place : Place) (direction : ℕ) → direction < directions_in setup.topology → end_of setup.topology direction ≡ place → contents setup.topology past (buffer_at place) ≡ []
    by_end place direction inside ends = ap (λ (p : Place). contents setup.topology past (buffer_at p)) (sym ends) ∙ is.arrivals direction inside

    by_room : (room : QueueId) (packet : PacketFields) → Stands setup.topology room packet → contents setup.topology past room ≡ []
    by_room (Output d) packet stands = is.output d stands.inside
    by_room (Port cube port) packet stands = by_end (places.Port cube port) stands.direction stands.inside stands.ends
    by_room (Host host) packet stands = by_end (places.Host host) stands.direction stands.inside stands.ends
    by_room (Vault cube vault) packet stands = is.vaults cube vault (bound_cube setup.topology cube (goals.Vault vault) packet stands) (vault_there setup.topology cube vault packet stands)
    by_room (Bank cube vault bank) packet stands =
        is.banks cube vault bank (bound_cube setup.topology cube (goals.Vault vault) packet stands.bound) (vault_there setup.topology cube vault packet stands.bound) (bank_there setup.topology cube bank packet stands.is_bank)
    by_room (Registers cube) packet stands = is.registers cube (bound_cube setup.topology cube goals.Registers packet stands)
    by_room (Answers cube lifts.Registers) packet stands = is.register_answers cube (leaving_cube setup.topology cube packet stands)
    by_room (Answers cube (lifts.Vault vault)) packet stands =
        by_front (λ (p : PacketFields). VaultThere setup.topology cube vault) _ (contents_there setup past cube vault network lawful) (λ p there. is.answers cube vault (leaving_cube setup.topology cube packet stands) there)

-- a link that isn't there has no tokens
far_direction : (setup : Setup) (past : List Entry) (direction : ℕ) → IsNetwork setup → Lawful setup past → directions_in setup.topology ≤ direction → (token_counts setup.topology past direction).transit ≡ 0
unfolding token_counts
far_direction setup past direction network lawful far =
    let laws = tokens_hold setup network direction past lawful in
    omega (arith, laws.sum, ap (λ (l : LinkFields). l.tokens) (far_sizes setup.topology direction far))

pub drained_by_test : (setup : Setup) (past : List Entry) → IsNetwork setup → Lawful setup past → is_drained setup.topology past ≡ true → IsDrained setup.topology past
drained_by_test setup past network lawful all = record { queues = room_empty setup past network lawful is; transit = by_direction }
  where
    is : IsEmptied setup.topology past
    is = emptied setup.topology past all

    by_far : (direction : ℕ) (far : Bool) → nat_le (directions_in setup.topology) direction ≡ far → (token_counts setup.topology past direction).transit ≡ 0
    by_far direction true at = far_direction setup past direction network lawful (leb-true (directions_in setup.topology) direction at)
    by_far direction false at = is.transit direction (leb-false (directions_in setup.topology) direction at)

    by_direction : (direction : ℕ) → (token_counts setup.topology past direction).transit ≡ 0
    by_direction direction = by_far direction (nat_le (directions_in setup.topology) direction) refl

-- each of them says so where nothing is on its way
all_pass : {X : Type 0} (p : X → Bool) (xs : List X) → ((x : X) → p x ≡ true) → list_all p xs ≡ true
all_pass p [] all = refl
all_pass p (x ∷ xs) all = rw (all x) (all_pass p xs all)

pub test_by_drained : (topology : Topology) (past : List Entry) → IsDrained topology past → is_drained topology past ≡ true
unfolding is_drained
test_by_drained topology past drained =
    rw (all_pass (λ room. length (contents topology past room) == 0) _ (λ room. eq-eqb (length (contents topology past room)) 0 (ap length (drained.queues room))))
    (all_pass (λ direction. (token_counts topology past direction).transit == 0) _ (λ direction. eq-eqb _ 0 (drained.transit direction)))
