-- What an entry leaves of the cubes is what their queues hold after it.
use Rattle.std.proofs.Common.{◌≡◌, ◌<◌, ◌==◌, ◌∙◌, ℕ, zero, suc, Bool, true, false, if◌then◌else◌, Option, Some, None, List, [], ◌∷◌, ◌++◌, length, take, drop, refl, sym, ap, subst, arith, append-nil}
use Rattle.std.specs.Prelude.{option_map, slice_set}
use Rattle.std.proofs.lemmas.List.{get_or-set_same, length-set, set-set}
use Rattle.hmc_codes.specs.Commands.{is_posted}
use Rattle.hmc_codes.specs.Request.{RequestFields}
use Rattle.hmc_codes.specs.declared.answer.Answer.{Answer}
use Rattle.hmc_codes.specs.declared.lift.Lift.TheVariants as lifts
use Rattle.hmc_codes.specs.declared.place.Place.{Place}
use Rattle.hmc_codes.specs.declared.place.Place.TheVariants as places
use Rattle.hmc_codes.specs.declared.unit.Unit.TheVariants as units
use Rattle.hmc_packet.specs.Packet.{PacketFields}
use Rattle.hmc_packet.specs.Transactions.{reply_packet}
use Rattle.hmc_packet.specs.declared.what.What.TheVariants.{New}
use Rattle.hmc_serial.specs.Cube.{CubeState}
use Rattle.hmc_vault.specs.Vault.{VaultFields, bank_at}
use Rattle.hmc_vault.specs.Execute.{replies_to}
use Rattle.hmc_cube.specs.Cube.{CubeFields, vault_at, with_vault, no_vault}
use Rattle.hmc_journal.specs.Choice.{choose}
use Rattle.hmc_entries.specs.declared.outcome.Goal.TheVariants as goals
use Rattle.hmc_entries.specs.declared.entry.Entry.{Entry}
use Rattle.hmc_entries.specs.declared.entry.Entry.TheVariants.{Gave, Sent, Landed, Shifted, Dropped, Spread, Executed, Lifted, Took, Discarded, Through, Unlocked, Retired, Passed, Idle}
use Rattle.hmc_journal.specs.Directions.{unsent, awaits_first}
use Rattle.hmc_journal.specs.Queues.{QueueId, leaves, enters, begins, buffer_at, unless_posted, front_of, tag_number, contents, arrival_in, arrival_of}
use Rattle.hmc_journal.specs.Queues.QueueId.{Output, Port, Host, Vault, Bank, Registers, Answers}
use Rattle.hmc_journal.specs.Setup.{Setup, direction_from, end_of}
use Rattle.hmc_journal.specs.StepView.{view_of}
use Rattle.hmc_journal.proofs.EntryRule.{EntryRule}
use Rattle.hmc_journal.proofs.Moves.{arrives}
use Rattle.hmc_net.specs.NetState.{cube_in, no_cube, packets_in, queue_cube, inside, IsQueueOf}
use Rattle.hmc_kept.specs.InCubes.{IsCubeQueue}
use Rattle.hmc_net.specs.Apply.{cubes_after, IsEntryIn}
use Rattle.hmc_kept.proofs.Elements.{changed_at}
use Rattle.hmc_net.proofs.Moves.{without, with_arrival, IsThere, IsGoing}
use Rattle.hmc_net.proofs.QueueChanges.{changed_in}

-- an entry moves a packet out of a queue, into a queue, or both
pub record IsMoved (setup : Setup) (past : List Entry) (entry : Entry) (cubes : List CubeFields) : Type 0 where
  pub there : IsThere cubes (leaves past entry)
  pub going : IsGoing (without cubes (leaves past entry)) (arrives setup.topology past entry)
  pub same : (q : QueueId) → inside (cubes_after (view_of setup past) entry cubes) q ≡ inside (with_arrival (without cubes (leaves past entry)) (arrives setup.topology past entry)) q

-- ---- queues of links

no_arrival : (cubes : List CubeFields) (d : Option ℕ) (packet : Unit {0} → PacketFields) → IsGoing cubes (arrival_in (option_map Output d) packet) × (cubes ≡ with_arrival cubes (arrival_in (option_map Output d) packet))
no_arrival cubes None packet = (tt, refl)
no_arrival cubes (Some d) packet = (tt, refl)

no_begin : (cubes : List CubeFields) (waiting : Bool) (count direction : ℕ) → IsThere cubes (begins waiting count direction) × (cubes ≡ without cubes (begins waiting count direction))
no_begin cubes true count direction = (tt, refl)
no_begin cubes false zero direction = (tt, refl)
no_begin cubes false (suc count) direction = (tt, refl)

no_landing : (cubes : List CubeFields) (place : Place) (packets : List PacketFields) → IsGoing cubes (arrival_of (buffer_at place) packets) × (cubes ≡ with_arrival cubes (arrival_of (buffer_at place) packets))
no_landing cubes place [] = (tt, refl)
no_landing cubes (places.Host host) (packet ∷ rest) = (tt, refl)
no_landing cubes (places.Port cube port) (packet ∷ rest) = (tt, refl)

-- ---- an element that is changed twice

cube_twice : (cubes : List CubeFields) (c : ℕ) (y : CubeFields) (f : CubeFields → CubeFields) → c < length cubes → slice_set cubes c (f y) ≡ slice_set (slice_set cubes c y) c (f (cube_in (slice_set cubes c y) c))
cube_twice cubes c y f there =
    ap (λ (z : CubeFields). slice_set cubes c (f z)) (sym (get_or-set_same cubes c y no_cube there)) ∙ sym (set-set cubes c y (f (cube_in (slice_set cubes c y) c)))

cube_there : (cubes : List CubeFields) (c : ℕ) (y : CubeFields) → c < length cubes → c < length (slice_set cubes c y)
cube_there cubes c y there = omega (arith, length-set cubes c y)

-- what is in the queue of a cube that was changed
cube_is : (cubes : List CubeFields) (c : ℕ) (y : CubeFields) → c < length cubes → cube_in (slice_set cubes c y) c ≡ y
cube_is cubes c y there = get_or-set_same cubes c y no_cube there

vault_twice : (x : CubeFields) (v : ℕ) (y : VaultFields) (f : VaultFields → VaultFields) → v < length x.vaults → with_vault x v (f y) ≡ with_vault (with_vault x v y) v (f (vault_at (with_vault x v y) v))
vault_twice x v y f there =
    ap (λ (z : VaultFields). with_vault x v (f z)) (sym (get_or-set_same x.vaults v y no_vault there))
    ∙ ap (λ (l : List VaultFields). record x { vaults = l }) (sym (set-set x.vaults v y (f (vault_at (with_vault x v y) v))))

vault_is : (x : CubeFields) (v : ℕ) (y : VaultFields) → v < length x.vaults → vault_at (with_vault x v y) v ≡ y
vault_is x v y there = get_or-set_same x.vaults v y no_vault there

-- ---- the state of a cube is in no queue

same_packets : (z : CubeFields) (s : CubeState) (q : QueueId) → packets_in (record z { state = s }) q ≡ packets_in z q
same_packets z s (Vault c v) = refl
same_packets z s (Bank c v b) = refl
same_packets z s (Registers c) = refl
same_packets z s (Answers c (lifts.Vault v)) = refl
same_packets z s (Answers c lifts.Registers) = refl
same_packets z s (Output d) = refl
same_packets z s (Port c p) = refl
same_packets z s (Host h) = refl

chosen_packets : (test : Bool) (z other : CubeFields) (s : CubeState) (q : QueueId) → packets_in (choose test (record z { state = s }) other) q ≡ packets_in (choose test z other) q
chosen_packets true z other s q = same_packets z s q
chosen_packets false z other s q = refl

state_apart : (cubes : List CubeFields) (c : ℕ) (z : CubeFields) (s : CubeState) (q : QueueId) → c < length cubes → inside (slice_set cubes c (record z { state = s })) q ≡ inside (slice_set cubes c z) q
state_apart cubes c z s q there =
    ap (λ (x : CubeFields). packets_in x q) (changed_at cubes c (queue_cube q) (record z { state = s }) no_cube (c == queue_cube q) refl there)
    ∙ chosen_packets (c == queue_cube q) z (cube_in cubes (queue_cube q)) s q
    ∙ sym (ap (λ (x : CubeFields). packets_in x q) (changed_at cubes c (queue_cube q) z no_cube (c == queue_cube q) refl there))

-- ---- spread

spread_vault : (x : CubeFields) (v b : ℕ) (front : PacketFields) (rest : List PacketFields) (p : PacketFields) → v < length x.vaults → (vault_at x v).vault_queue ≡ front ∷ rest → p ≡ front
    → with_vault x v (record (vault_at x v) { vault_queue = drop 1 (vault_at x v).vault_queue; banks = slice_set (vault_at x v).banks b (bank_at (vault_at x v) b ++ take 1 (vault_at x v).vault_queue) })
    ≡ changed_in (changed_in x (Vault 0 v) (drop 1)) (Bank 0 v b) (λ (l : List PacketFields). l ++ p ∷ [])
spread_vault x v b front rest p there front_is same =
    let one : take 1 (vault_at x v).vault_queue ≡ p ∷ [] = ap (take 1) front_is ∙ ap (λ (y : PacketFields). y ∷ []) (sym same) in
    ap (λ (l : List PacketFields). with_vault x v (record (vault_at x v) { vault_queue = drop 1 (vault_at x v).vault_queue; banks = slice_set (vault_at x v).banks b (bank_at (vault_at x v) b ++ l) })) one
    ∙ vault_twice x v (record (vault_at x v) { vault_queue = drop 1 (vault_at x v).vault_queue }) (λ (y : VaultFields). record y { banks = slice_set y.banks b (bank_at y b ++ p ∷ []) }) there

spread_moves : (setup : Setup) (past : List Entry) (cubes : List CubeFields) (cube vault bank : ℕ) (front : PacketFields) (rest : List PacketFields) → ((q : QueueId) → IsCubeQueue q → inside cubes q ≡ contents setup.topology past q)
    → contents setup.topology past (Vault cube vault) ≡ front ∷ rest → IsQueueOf cubes (Bank cube vault bank) → IsMoved setup past (Spread cube vault bank) cubes
unfolding leaves enters
spread_moves setup past cubes cube vault bank front rest told at is =
    let x = cube_in cubes cube in
    let y = changed_in x (Vault 0 vault) (drop 1) in
    let p = front_of (contents setup.topology past (Vault cube vault)) in
    record {
      there = (is.0, is.1.0);
      going = (
        cube_there cubes cube y is.0,
        subst (λ (z : CubeFields). (vault < length z.vaults) × (bank < length (vault_at z vault).banks)) (sym (cube_is cubes cube y is.0))
            (omega (arith, length-set x.vaults vault (record (vault_at x vault) { vault_queue = drop 1 (vault_at x vault).vault_queue }), is.1.0), subst (λ (z : VaultFields). bank < length z.banks) (sym (vault_is x vault _ is.1.0)) is.1.1),
      );
      same = λ q. ap (λ (l : List CubeFields). inside l q)
          (ap (slice_set cubes cube) (spread_vault x vault bank front rest p is.1.0 (told (Vault cube vault) tt ∙ at) (ap front_of at))
          ∙ cube_twice cubes cube y (λ (z : CubeFields). changed_in z (Bank 0 vault bank) (λ (l : List PacketFields). l ++ p ∷ [])) is.0);
    }

-- ---- executions

posted_replies : (request : RequestFields) (answer : Answer) (host tag : ℕ) (packets : List PacketFields) → is_posted request.command ≡ true → packets ++ replies_to request answer host tag ≡ packets
posted_replies request answer host tag packets posted = ap (λ (t : Bool). packets ++ (if t then [] else reply_packet answer tag host request.cube ∷ [])) posted ∙ append-nil packets

answered_replies : (request : RequestFields) (answer : Answer) (host tag : ℕ) (packets : List PacketFields) → is_posted request.command ≡ false → packets ++ replies_to request answer host tag ≡ packets ++ reply_packet answer tag host request.cube ∷ []
answered_replies request answer host tag packets posted = ap (λ (t : Bool). packets ++ (if t then [] else reply_packet answer tag host request.cube ∷ [])) posted

abbrev ran_vault : CubeFields → (v b : ℕ) → (answers : List PacketFields) → CubeFields
ran_vault x v b answers = with_vault x v (record (vault_at x v) { banks = slice_set (vault_at x v).banks b (drop 1 (bank_at (vault_at x v) b)); answers = answers })

bank_moves : (setup : Setup) (past : List Entry) (cubes : List CubeFields) (cube vault bank host : ℕ) (tag : Option ℕ) (request : RequestFields) (answer : Answer) (posted : Bool) → is_posted request.command ≡ posted → IsQueueOf cubes (Bank cube vault bank)
    → IsMoved setup past (Executed (units.Bank cube vault bank) host tag request answer) cubes
unfolding leaves enters
bank_moves setup past cubes cube vault bank host tag request answer true posted is =
    let x = cube_in cubes cube in
    record {
      there = (is.0, is.1);
      going = subst (λ (t : Bool). IsGoing (without cubes (Some (Bank cube vault bank))) (arrival_in (unless_posted t (Answers cube (lifts.Vault vault))) (λ _. reply_packet answer (tag_number tag) host request.cube))) (sym posted) tt;
      same = λ q. state_apart cubes cube (ran_vault x vault bank ((vault_at x vault).answers ++ replies_to request answer host (tag_number tag))) _ q is.0
          ∙ ap (λ (l : List PacketFields). inside (slice_set cubes cube (ran_vault x vault bank l)) q) (posted_replies request answer host (tag_number tag) (vault_at x vault).answers posted)
          ∙ ap (λ (t : Bool). inside (with_arrival (without cubes (Some (Bank cube vault bank))) (arrival_in (unless_posted t (Answers cube (lifts.Vault vault))) (λ _. reply_packet answer (tag_number tag) host request.cube))) q) (sym posted);
    }
bank_moves setup past cubes cube vault bank host tag request answer false posted is =
    let x = cube_in cubes cube in
    let y = changed_in x (Bank 0 vault bank) (drop 1) in
    let p = reply_packet answer (tag_number tag) host request.cube in
    record {
      there = (is.0, is.1);
      going = subst (λ (t : Bool). IsGoing (without cubes (Some (Bank cube vault bank))) (arrival_in (unless_posted t (Answers cube (lifts.Vault vault))) (λ _. reply_packet answer (tag_number tag) host request.cube))) (sym posted)
          (cube_there cubes cube y is.0, subst (λ (z : CubeFields). vault < length z.vaults) (sym (cube_is cubes cube y is.0)) (omega (arith, is.1.0, length-set x.vaults vault (record (vault_at x vault) { banks = slice_set (vault_at x vault).banks bank (drop 1 (bank_at (vault_at x vault) bank)) }))));
      same = λ q. state_apart cubes cube (ran_vault x vault bank ((vault_at x vault).answers ++ replies_to request answer host (tag_number tag))) _ q is.0
          ∙ ap (λ (l : List PacketFields). inside (slice_set cubes cube (ran_vault x vault bank l)) q) (answered_replies request answer host (tag_number tag) (vault_at x vault).answers posted)
          ∙ ap (λ (z : CubeFields). inside (slice_set cubes cube z) q) (vault_twice x vault (record (vault_at x vault) { banks = slice_set (vault_at x vault).banks bank (drop 1 (bank_at (vault_at x vault) bank)) }) (λ (w : VaultFields). record w { answers = w.answers ++ p ∷ [] }) is.1.0)
          ∙ ap (λ (l : List CubeFields). inside l q) (cube_twice cubes cube y (λ (z : CubeFields). changed_in z (Answers 0 (lifts.Vault vault)) (λ (l : List PacketFields). l ++ p ∷ [])) is.0)
          ∙ ap (λ (t : Bool). inside (with_arrival (without cubes (Some (Bank cube vault bank))) (arrival_in (unless_posted t (Answers cube (lifts.Vault vault))) (λ _. reply_packet answer (tag_number tag) host request.cube))) q) (sym posted);
    }

abbrev ran_registers : CubeFields → (answers : List PacketFields) → CubeFields
ran_registers x answers = record x { register_queue = drop 1 x.register_queue; answers = answers }

registers_moves : (setup : Setup) (past : List Entry) (cubes : List CubeFields) (cube host : ℕ) (tag : Option ℕ) (request : RequestFields) (answer : Answer) (posted : Bool) → is_posted request.command ≡ posted → IsQueueOf cubes (Registers cube)
    → IsMoved setup past (Executed (units.Registers cube) host tag request answer) cubes
unfolding leaves enters
registers_moves setup past cubes cube host tag request answer true posted is =
    let x = cube_in cubes cube in
    record {
      there = (is.0, tt);
      going = subst (λ (t : Bool). IsGoing (without cubes (Some (Registers cube))) (arrival_in (unless_posted t (Answers cube lifts.Registers)) (λ _. reply_packet answer (tag_number tag) host request.cube))) (sym posted) tt;
      same = λ q. state_apart cubes cube (ran_registers x (x.answers ++ replies_to request answer host (tag_number tag))) _ q is.0
          ∙ ap (λ (l : List PacketFields). inside (slice_set cubes cube (ran_registers x l)) q) (posted_replies request answer host (tag_number tag) x.answers posted)
          ∙ ap (λ (t : Bool). inside (with_arrival (without cubes (Some (Registers cube))) (arrival_in (unless_posted t (Answers cube lifts.Registers)) (λ _. reply_packet answer (tag_number tag) host request.cube))) q) (sym posted);
    }
registers_moves setup past cubes cube host tag request answer false posted is =
    let x = cube_in cubes cube in
    let y = changed_in x (Registers 0) (drop 1) in
    let p = reply_packet answer (tag_number tag) host request.cube in
    record {
      there = (is.0, tt);
      going = subst (λ (t : Bool). IsGoing (without cubes (Some (Registers cube))) (arrival_in (unless_posted t (Answers cube lifts.Registers)) (λ _. reply_packet answer (tag_number tag) host request.cube))) (sym posted) (cube_there cubes cube y is.0, tt);
      same = λ q. state_apart cubes cube (ran_registers x (x.answers ++ replies_to request answer host (tag_number tag))) _ q is.0
          ∙ ap (λ (l : List PacketFields). inside (slice_set cubes cube (ran_registers x l)) q) (answered_replies request answer host (tag_number tag) x.answers posted)
          ∙ ap (λ (l : List CubeFields). inside l q) (cube_twice cubes cube y (λ (z : CubeFields). changed_in z (Answers 0 lifts.Registers) (λ (l : List PacketFields). l ++ p ∷ [])) is.0)
          ∙ ap (λ (t : Bool). inside (with_arrival (without cubes (Some (Registers cube))) (arrival_in (unless_posted t (Answers cube lifts.Registers)) (λ _. reply_packet answer (tag_number tag) host request.cube))) q) (sym posted);
    }

-- ---- all entries

pub moves_of : (setup : Setup) (past : List Entry) (entry : Entry) (cubes : List CubeFields) → EntryRule setup past entry → ((q : QueueId) → IsCubeQueue q → inside cubes q ≡ contents setup.topology past q) → IsEntryIn cubes entry → IsMoved setup past entry cubes
unfolding leaves enters view_of
moves_of setup past (Gave host tag poisoned request) cubes rule told is =
    let none = no_arrival cubes (direction_from setup.topology (places.Host host)) _ in record { there = tt; going = none.0; same = λ q. ap (λ (l : List CubeFields). inside l q) none.1 }
moves_of setup past (Sent direction New flit) cubes rule told is =
    let none = no_begin cubes (awaits_first direction past) (unsent direction past) direction in record { there = none.0; going = tt; same = λ q. ap (λ (l : List CubeFields). inside l q) none.1 }
moves_of setup past (Sent direction what flit) cubes rule told is = record { there = tt; going = tt; same = λ q. refl }
moves_of setup past (Landed direction flit outcome) cubes rule told is =
    let none = no_landing cubes (end_of setup.topology direction) _ in record { there = tt; going = none.0; same = λ q. ap (λ (l : List CubeFields). inside l q) none.1 }
moves_of setup past (Shifted cube port (goals.Vault vault)) cubes rule told is = record { there = tt; going = is; same = λ q. refl }
moves_of setup past (Shifted cube port goals.Registers) cubes rule told is = record { there = tt; going = is; same = λ q. refl }
moves_of setup past (Shifted cube port (goals.Port out)) cubes rule told is =
    let none = no_arrival cubes (direction_from setup.topology (places.Port cube out)) _ in record { there = tt; going = none.0; same = λ q. ap (λ (l : List CubeFields). inside l q) none.1 }
moves_of setup past (Dropped cube port) cubes rule told is = record { there = tt; going = tt; same = λ q. refl }
moves_of setup past (Spread cube vault bank) cubes rule told is = spread_moves setup past cubes cube vault bank rule.at.front rule.at.rest told rule.at.is is
moves_of setup past (Executed (units.Bank cube vault bank) host tag request answer) cubes rule told is = bank_moves setup past cubes cube vault bank host tag request answer (is_posted request.command) refl is
moves_of setup past (Executed (units.Registers cube) host tag request answer) cubes rule told is = registers_moves setup past cubes cube host tag request answer (is_posted request.command) refl is
moves_of setup past (Lifted cube (lifts.Vault vault) port) cubes rule told is =
    let none = no_arrival (without cubes (Some (Answers cube (lifts.Vault vault)))) (direction_from setup.topology (places.Port cube port)) _ in record { there = is; going = none.0; same = λ q. ap (λ (l : List CubeFields). inside l q) none.1 }
moves_of setup past (Lifted cube lifts.Registers port) cubes rule told is =
    let none = no_arrival (without cubes (Some (Answers cube lifts.Registers))) (direction_from setup.topology (places.Port cube port)) _ in record { there = is; going = none.0; same = λ q. ap (λ (l : List CubeFields). inside l q) none.1 }
moves_of setup past (Took host tag answer) cubes rule told is = record { there = tt; going = tt; same = λ q. refl }
moves_of setup past (Discarded host) cubes rule told is = record { there = tt; going = tt; same = λ q. refl }
moves_of setup past (Through cube port direction) cubes rule told is = record { there = tt; going = tt; same = λ q. refl }
moves_of setup past (Unlocked direction) cubes rule told is = record { there = tt; going = tt; same = λ q. refl }
moves_of setup past (Retired slot) cubes rule told is = record { there = tt; going = tt; same = λ q. refl }
moves_of setup past (Passed direction flit) cubes rule told is = record { there = tt; going = tt; same = λ q. refl }
moves_of setup past (Idle step cause) cubes rule told is = record { there = tt; going = tt; same = λ q. refl }
