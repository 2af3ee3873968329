-- Where no packet waits in any cube, and the ends of all directions are clear, the journal is drained.
use Rattle.std.proofs.Common.{◌≡◌, ◌<◌, ◌^◌, ◌&&◌, ◌==◌, ◌∙◌, ℕ, true, List, [], ◌∷◌, ◌++◌, map, refl}
use Rattle.std.specs.List.{list_all, flat_map}
use Rattle.std.proofs.lemmas.Bool.{and_from}
use Rattle.std.proofs.lemmas.List.Folds.{list_all-append, list_all-map}
use Rattle.hmc_codes.specs.Numbers.{upto}
use Rattle.hmc_codes.specs.declared.lift.Lift.TheVariants as lifts
use Rattle.hmc_entries.specs.declared.entry.Entry.{Entry}
use Rattle.hmc_journal.specs.Counts.{token_counts}
use Rattle.hmc_journal.specs.Drained.{vault_queues, cube_queues, direction_queues, is_drained}
use Rattle.hmc_journal.specs.Links.{toward, entries_on, sizes_on}
use Rattle.hmc_journal.specs.Queues.{contents}
use Rattle.hmc_journal.specs.Queues.QueueId.{Vault, Bank, Registers, Answers}
use Rattle.hmc_journal.specs.Setup.{Topology, Setup, cubes_in, directions_in, shape_of}
use Rattle.hmc_laws.proofs.DrainedTest.{empties}
use Rattle.hmc_kept.proofs.LawsShown.{IsLawBound, direction_shown}
use Rattle.hmc_kept.proofs.Stillness.{IsClear, empty_test, all_upto, flat_upto, queues_test, transit_test}

-- no packet waits inside a cube
pub record IsStillCube (topology : Topology) (past : List Entry) (cube : ℕ) : Type 0 where
  pub vaults : (vault : ℕ) → contents topology past (Vault cube vault) ≡ []
  pub banks : (vault bank : ℕ) → contents topology past (Bank cube vault bank) ≡ []
  pub vault_answers : (vault : ℕ) → contents topology past (Answers cube (lifts.Vault vault)) ≡ []
  pub registers : contents topology past (Registers cube) ≡ []
  pub register_answers : contents topology past (Answers cube lifts.Registers) ≡ []

vault_test : (topology : Topology) (past : List Entry) (cube vault : ℕ) → IsStillCube topology past cube → list_all (empties topology past) (vault_queues topology cube vault) ≡ true
vault_test topology past cube vault still =
    let p = empties topology past in
    let count = 2 ^ (shape_of topology cube).bank_bits in
    let banks = map (Bank cube vault) (upto count) in
    and_from (p (Vault cube vault)) (list_all p (banks ++ Answers cube (lifts.Vault vault) ∷ [])) (empty_test topology past (Vault cube vault) (still.vaults vault))
    (list_all-append p banks (Answers cube (lifts.Vault vault) ∷ [])
    ∙ and_from (list_all p banks) (list_all p (Answers cube (lifts.Vault vault) ∷ []))
    (list_all-map p (Bank cube vault) (upto count) ∙ all_upto (λ bank. p (Bank cube vault bank)) count (λ bank less. empty_test topology past (Bank cube vault bank) (still.banks vault bank)))
    (and_from (p (Answers cube (lifts.Vault vault))) true (empty_test topology past (Answers cube (lifts.Vault vault)) (still.vault_answers vault)) refl))

cube_test : (topology : Topology) (past : List Entry) (cube : ℕ) → IsStillCube topology past cube → list_all (empties topology past) (cube_queues topology cube) ≡ true
cube_test topology past cube still =
    let p = empties topology past in
    let count = 2 ^ (shape_of topology cube).vault_bits in
    let vaults = flat_map (vault_queues topology cube) (upto count) in
    and_from (p (Registers cube)) (p (Answers cube lifts.Registers) && list_all p vaults) (empty_test topology past (Registers cube) still.registers)
    (and_from (p (Answers cube lifts.Registers)) (list_all p vaults) (empty_test topology past (Answers cube lifts.Registers) still.register_answers)
    (flat_upto p (vault_queues topology cube) count (λ vault less. vault_test topology past cube vault still)))

pub still_test : (setup : Setup) (past : List Entry) → IsLawBound setup past
    → ((direction : ℕ) → direction < directions_in setup.topology → IsClear (sizes_on setup.topology direction) (toward direction) (entries_on setup.topology direction past))
    → ((cube : ℕ) → cube < cubes_in setup.topology → IsStillCube setup.topology past cube)
    → is_drained setup.topology past ≡ true
unfolding is_drained
still_test setup past law clear still =
    let t = setup.topology in
    let p = empties t past in
    and_from _ _
    (list_all-append p (flat_map (direction_queues t) (upto (directions_in t))) (flat_map (cube_queues t) (upto (cubes_in t)))
    ∙ and_from _ _
    (flat_upto p (direction_queues t) (directions_in t) (λ direction there. queues_test setup past direction (direction_shown setup past direction (law.queues.links direction there) (law.fed direction there)) (clear direction there)))
    (flat_upto p (cube_queues t) (cubes_in t) (λ cube there. cube_test t past cube (still cube there))))
    (all_upto (λ direction. (token_counts t past direction).transit == 0) (directions_in t) (λ direction there. transit_test setup past direction (clear direction there)))
