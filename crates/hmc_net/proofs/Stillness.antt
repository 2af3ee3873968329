-- A network holds no packet exactly where its journal is drained.
use Rattle.std.proofs.Common.{◌≡◌, ◌<◌, ◌+◌, ◌*◌, ◌/◌, ◌↔◌, ◌∙◌, ℕ, Bool, true, false, List, [], ◌∷◌, length, sum_by, refl, sym, ap, subst, arith}
use Rattle.std.specs.Prelude.{slice_index_or, IsTrue}
use Rattle.std.specs.List.{All}
use Rattle.hmc_codes.specs.Link.{LinkFields}
use Rattle.hmc_codes.specs.declared.lift.Lift.TheVariants as lifts
use Rattle.hmc_vault.specs.Vault.{VaultFields, bank_at, held_by}
use Rattle.hmc_cube.specs.Cube.{CubeFields, vault_at, no_vault, held_in_cube}
use Rattle.hmc_link.specs.Held.{LinkHeld}
use Rattle.hmc_link.specs.StandsFor.{LinkStandsFor}
use Rattle.hmc_send.specs.LinkEntries.{LinkEntry}
use Rattle.hmc_send.specs.LinkSenders.{tokens}
use Rattle.hmc_send.specs.declared.toward.Toward.{Toward}
use Rattle.hmc_send.specs.declared.toward.Toward.TheVariants.{Forth, Back}
use Rattle.hmc_entries.specs.declared.entry.Entry.{Entry}
use Rattle.hmc_journal.specs.Drained.{IsDrained, is_drained}
use Rattle.hmc_journal.specs.Lawful.{has_passed}
use Rattle.hmc_journal.specs.Links.{toward, link_entries, entries_on, sizes_on}
use Rattle.hmc_journal.specs.Queues.{QueueId}
use Rattle.hmc_journal.specs.Queues.QueueId.{Vault, Bank, Registers, Answers}
use Rattle.hmc_journal.specs.Setup.{Topology, Setup, no_link, cubes_in, directions_in}
use Rattle.hmc_kept.specs.Called.{sizes_by}
use Rattle.hmc_links.specs.LinkList.{LinksStandFor}
use Rattle.hmc_net.specs.NetState.{NetState, cube_in, no_cube}
use Rattle.hmc_links.specs.Quiet.{IsQuietLink}
use Rattle.hmc_net.specs.Quiescent.{IsEmptyCube, IsQuiescent}
use Rattle.hmc_kept.specs.InCubes.{IsCubeQueue}
use Rattle.hmc_net.specs.Stands.{StandsFor}
use Rattle.hmc_kept.proofs.Elements.{default_same}
use Rattle.hmc_kept.proofs.Laws.{law_bound}
use Rattle.hmc_kept.proofs.LawsShown.{IsLawBound, direction_shown}
use Rattle.hmc_laws.proofs.DrainedTest.{drained_by_test}
use Rattle.hmc_kept.proofs.StillCubes.{IsStillCube, still_test}
use Rattle.hmc_kept.proofs.Stillness.{sum_zero, zero_sum, length_none, IsClear, element, drained_direction, even_half, odd_half, even_way, odd_way, same_test}

-- ---- a cube

vault_still : (vault : VaultFields) → held_by vault ≡ 0 → (vault.vault_queue ≡ []) × ((bank : ℕ) → bank_at vault bank ≡ []) × (vault.answers ≡ [])
vault_still vault none =
    let banks : sum_by length vault.banks ≡ 0 = omega arith in
    (length_none vault.vault_queue (omega arith), (λ bank. length_none (bank_at vault bank) (zero_sum length [] vault.banks bank refl banks)), length_none vault.answers (omega arith))

still_vault : (vault : VaultFields) → vault.vault_queue ≡ [] → ((bank : ℕ) → bank_at vault bank ≡ []) → vault.answers ≡ [] → held_by vault ≡ 0
still_vault vault entering banks answers =
    omega (arith, ap length entering, ap length answers, sum_zero length [] vault.banks (λ i. ap length (banks i)))

-- a cube without packets has none in any queue
cube_still : (x : CubeFields) (vault : ℕ) → held_in_cube x ≡ 0 → held_by (vault_at x vault) ≡ 0
cube_still x vault none = zero_sum held_by no_vault x.vaults vault refl (omega arith)

-- ---- a direction

clear_of : (link : LinkFields) (held : LinkHeld) (past : List LinkEntry) (way : Toward) → LinkStandsFor link held past → IsQuietLink held → IsClear link way past
unfolding tokens
clear_of link held past Forth stands quiet = record {
  queue = sym stands.a.queue ∙ quiet.a.queue;
  buffer = sym stands.b.buffer ∙ quiet.b.buffer;
  transit = sym stands.a.transit ∙ quiet.a.transit;
}
clear_of link held past Back stands quiet = record {
  queue = sym stands.b.queue ∙ quiet.b.queue;
  buffer = sym stands.a.buffer ∙ quiet.a.buffer;
  transit = sym stands.b.transit ∙ quiet.b.transit;
}

quiet_of : (link : LinkFields) (held : LinkHeld) (past : List LinkEntry) → LinkStandsFor link held past → IsClear link Forth past → IsClear link Back past → IsQuietLink held
unfolding tokens
quiet_of link held past stands forth back = record {
  a = record { queue = stands.a.queue ∙ forth.queue; transit = stands.a.transit ∙ forth.transit; buffer = stands.a.buffer ∙ back.buffer };
  b = record { queue = stands.b.queue ∙ back.queue; transit = stands.b.transit ∙ back.transit; buffer = stands.b.buffer ∙ forth.buffer };
}

-- ---- a network that is still

-- no packet waits in a cube that holds none
still_cube : (net : NetState) (setup : Setup) (past : List Entry) (cube : ℕ) → StandsFor net setup past → held_in_cube (cube_in net.cubes cube) ≡ 0 → IsStillCube setup.topology past cube
still_cube net setup past cube stands none =
    let x = cube_in net.cubes cube in
    let of_vault = λ (vault : ℕ). vault_still (vault_at x vault) (cube_still x vault none) in
    let same = λ (queue : QueueId) (is : IsCubeQueue queue). sym (stands.queues queue is) in
    record {
      vaults = λ vault. same (Vault cube vault) tt ∙ (of_vault vault).0;
      banks = λ vault bank. same (Bank cube vault bank) tt ∙ (of_vault vault).1 bank;
      vault_answers = λ vault. same (Answers cube (lifts.Vault vault)) tt ∙ (of_vault vault).2;
      registers = same (Registers cube) tt ∙ length_none x.register_queue (omega arith);
      register_answers = same (Answers cube lifts.Registers) tt ∙ length_none x.answers (omega arith);
    }

-- the link of a direction
clear_direction : (net : NetState) (setup : Setup) (past : List Entry) (direction : ℕ) → StandsFor net setup past → has_passed past ≡ false → All IsQuietLink net.links → direction < directions_in setup.topology → IsClear (sizes_on setup.topology direction) (toward direction) (entries_on setup.topology direction past)
clear_direction net setup past direction stands on quiet there =
    let links = stands.links on in
    let less : direction / 2 < length net.links = omega (arith, links.count) in
    clear_at net.links less links quiet
  where
    clear_at : (all : List LinkHeld) → direction / 2 < length all → LinksStandFor setup.topology.links all (λ link. link_entries setup.topology link past) → All IsQuietLink all → IsClear (sizes_on setup.topology direction) (toward direction) (entries_on setup.topology direction past)
    clear_at [] less links quiet = absurd (omega arith)
    clear_at (held ∷ rest) less links quiet =
        clear_of (sizes_on setup.topology direction) (slice_index_or (held ∷ rest) (direction / 2) held) (entries_on setup.topology direction past) (toward direction) (links.stand (direction / 2) held less) (quiet (direction / 2) held less)

network_still : (net : NetState) (setup : Setup) (past : List Entry) → StandsFor net setup past → has_passed past ≡ false → IsLawBound setup past → IsQuiescent net → is_drained setup.topology past ≡ true
network_still net setup past stands on law still =
    let count : length net.cubes ≡ cubes_in setup.topology = stands.sized.cubes ∙ ap (λ (topology : Topology). cubes_in topology) stands.topology in
    still_test setup past law (λ direction there. clear_direction net setup past direction stands on still.links there)
    (λ cube there. still_cube net setup past cube stands (element IsEmptyCube net.cubes cube no_cube still.cubes (omega (arith, count, there))))

-- ---- a network whose journal is drained

drained_link : (net : NetState) (setup : Setup) (past : List Entry) (link : ℕ) (d : LinkHeld) → StandsFor net setup past → has_passed past ≡ false → IsLawBound setup past → IsDrained setup.topology past → link < length net.links → IsQuietLink (slice_index_or net.links link d)
drained_link net setup past link d stands on law drained there =
    let links = stands.links on in
    let t = setup.topology in
    let forth = drained_direction setup past (2 * link) (direction_shown setup past (2 * link) (law.queues.links (2 * link) (omega (arith, links.count))) (law.fed (2 * link) (omega (arith, links.count)))) drained in
    let back = drained_direction setup past (2 * link + 1) (direction_shown setup past (2 * link + 1) (law.queues.links (2 * link + 1) (omega (arith, links.count))) (law.fed (2 * link + 1) (omega (arith, links.count)))) drained in
    quiet_of (sizes_by t.links (2 * link)) (slice_index_or net.links link d) (link_entries t link past)
    (subst (λ (n : ℕ). LinkStandsFor (slice_index_or t.links n no_link).setup (slice_index_or net.links link d) (link_entries t link past)) (sym (even_half link)) (links.stand link d there))
    (subst (λ (n : ℕ). IsClear (sizes_by t.links (2 * link)) Forth (link_entries t n past)) (even_half link) (subst (λ (w : Toward). IsClear (sizes_by t.links (2 * link)) w (entries_on t (2 * link) past)) (even_way link) forth))
    (subst (λ (n : ℕ). IsClear (sizes_by t.links (2 * link)) Back (link_entries t n past)) (odd_half link)
    (subst (λ (n : ℕ). IsClear (slice_index_or t.links n no_link).setup Back (entries_on t (2 * link + 1) past)) (odd_half link ∙ sym (even_half link)) (subst (λ (w : Toward). IsClear (sizes_by t.links (2 * link + 1)) w (entries_on t (2 * link + 1) past)) (odd_way link) back)))

drained_cube : (net : NetState) (setup : Setup) (past : List Entry) (cube : ℕ) → StandsFor net setup past → IsDrained setup.topology past → held_in_cube (cube_in net.cubes cube) ≡ 0
drained_cube net setup past cube stands drained =
    let x = cube_in net.cubes cube in
    let none = λ (queue : QueueId) (is : IsCubeQueue queue). stands.queues queue is ∙ drained.queues queue in
    omega (
      arith,
      ap length (none (Registers cube) tt),
      ap length (none (Answers cube lifts.Registers) tt),
      sum_zero held_by no_vault x.vaults (λ i. still_vault (vault_at x i) (none (Vault cube i) tt) (λ bank. none (Bank cube i bank) tt) (none (Answers cube (lifts.Vault i)) tt)),
    )

-- so it is what the test of all queues and directions says
pub drained_test : (net : NetState) (past : List Entry) (setup : Setup) (result : Bool) → StandsFor net setup past → has_passed past ≡ false → IsTrue result ↔ IsQuiescent net → result ≡ is_drained setup.topology past
drained_test net past setup result stands on is =
    let law = law_bound setup past stands.network stands.lawful in
    same_test result (is_drained setup.topology past)
    (λ yes. network_still net setup past stands on law (is.0 yes))
    (λ yes. is.1 (let drained = drained_by_test setup past stands.network stands.lawful yes in record {
      links = λ link d there. drained_link net setup past link d stands on law drained there;
      cubes = λ cube d there. subst (λ (x : CubeFields). held_in_cube x ≡ 0) (default_same net.cubes cube no_cube d there) (drained_cube net setup past cube stands drained);
    }))
