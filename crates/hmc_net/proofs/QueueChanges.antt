-- A queue of a cube is changed, and the others stay.
use Rattle.std.proofs.Common.{◌≡◌, ◌<◌, ◌&&◌, ◌==◌, ◌∙◌, ℕ, Bool, true, false, List, [], length, refl, sym, ap, eqb-true}
use Rattle.std.specs.Prelude.{slice_set, slice_index_or}
use Rattle.std.proofs.lemmas.List.{get_or-set_same, get_or-set_other}
use mathlib.Core.Bool.{and-false, and-true}
use Rattle.hmc_codes.specs.declared.lift.Lift.TheVariants as lifts
use Rattle.hmc_packet.specs.Packet.{PacketFields}
use Rattle.hmc_vault.specs.Vault.{VaultFields, bank_at}
use Rattle.hmc_cube.specs.Cube.{CubeFields, vault_at, with_vault, no_vault}
use Rattle.hmc_journal.specs.Queues.{QueueId, same_queue, same_lift}
use Rattle.hmc_journal.specs.Queues.QueueId.{Output, Port, Host, Vault, Bank, Registers, Answers}
use Rattle.hmc_net.specs.NetState.{packets_in, queue_cube, cube_in, no_cube, inside, IsIn, IsQueueOf}
use Rattle.hmc_kept.specs.InCubes.{IsCubeQueue, change_if}
use Rattle.hmc_kept.proofs.InCubes.{outside}
use Rattle.hmc_kept.proofs.Elements.{other_than}

-- the packets that are there after a change
abbrev pub Change : Type 0
Change = List PacketFields → List PacketFields

-- one queue of a cube is changed
abbrev pub changed_in : CubeFields → QueueId → Change → CubeFields
changed_in x (Vault c v) f = with_vault x v (record (vault_at x v) { vault_queue = f (vault_at x v).vault_queue })
changed_in x (Bank c v b) f = with_vault x v (record (vault_at x v) { banks = slice_set (vault_at x v).banks b (f (bank_at (vault_at x v) b)) })
changed_in x (Registers c) f = record x { register_queue = f x.register_queue }
changed_in x (Answers c (lifts.Vault v)) f = with_vault x v (record (vault_at x v) { answers = f (vault_at x v).answers })
changed_in x (Answers c lifts.Registers) f = record x { answers = f x.answers }
changed_in x _ f = x

-- the same queue of the same cube or of another one
abbrev pub same_inner : QueueId → QueueId → Bool
same_inner (Vault c v) (Vault d w) = v == w
same_inner (Bank c v b) (Bank d w a) = (v == w) && (b == a)
same_inner (Registers c) (Registers d) = true
same_inner (Answers c from) (Answers d to) = same_lift from to
same_inner _ _ = false

if_vault : Bool → VaultFields → VaultFields → VaultFields
if_vault true changed same = changed
if_vault false changed same = same

-- the vault with a number, where one of the vaults was changed
vault_changed : (x : CubeFields) (v w : ℕ) (vault : VaultFields) (test : Bool) → (v == w) ≡ test → v < length x.vaults → vault_at (with_vault x v vault) w ≡ if_vault test vault (vault_at x w)
unfolding if_vault
vault_changed x v w vault true is there =
    ap (λ (n : ℕ). vault_at (with_vault x v vault) n) (sym (eqb-true v w is)) ∙ get_or-set_same x.vaults v vault no_vault there
vault_changed x v w vault false is there = get_or-set_other x.vaults v w vault no_vault (other_than v w is)

-- a part that stays
part_stays : (P : VaultFields → List PacketFields) (x : CubeFields) (v w : ℕ) (vault : VaultFields) (test : Bool) → (v == w) ≡ test → v < length x.vaults → P vault ≡ P (vault_at x v) → P (vault_at (with_vault x v vault) w) ≡ P (vault_at x w)
unfolding if_vault
part_stays P x v w vault true is there same =
    ap P (vault_changed x v w vault true is there) ∙ same ∙ ap (λ (n : ℕ). P (vault_at x n)) (eqb-true v w is)
part_stays P x v w vault false is there same = ap P (vault_changed x v w vault false is there)

-- a part that changes
part_changes : (P : VaultFields → List PacketFields) (f : Change) (x : CubeFields) (v w : ℕ) (vault : VaultFields) (test : Bool) → (v == w) ≡ test → v < length x.vaults → P vault ≡ f (P (vault_at x v)) → P (vault_at (with_vault x v vault) w) ≡ change_if test f (P (vault_at x w))
unfolding if_vault
part_changes P f x v w vault true is there same =
    ap P (vault_changed x v w vault true is there) ∙ same ∙ ap (λ (n : ℕ). f (P (vault_at x n))) (eqb-true v w is)
part_changes P f x v w vault false is there same = ap P (vault_changed x v w vault false is there)

-- a bank of the vault that changes
bank_changes : (f : Change) (banks : List (List PacketFields)) (b a : ℕ) (test : Bool) → (b == a) ≡ test → b < length banks → slice_index_or (slice_set banks b (f (slice_index_or banks b []))) a [] ≡ change_if test f (slice_index_or banks a [])
bank_changes f banks b a true is there =
    ap (λ (n : ℕ). slice_index_or (slice_set banks b (f (slice_index_or banks b []))) n []) (sym (eqb-true b a is)) ∙ get_or-set_same banks b _ [] there ∙ ap (λ (n : ℕ). f (slice_index_or banks n [])) (eqb-true b a is)
bank_changes f banks b a false is there = get_or-set_other banks b a _ [] (other_than b a is)

banks_change : (f : Change) (x : CubeFields) (v w b a : ℕ) (test inner : Bool) → (v == w) ≡ test → (b == a) ≡ inner → v < length x.vaults → b < length (vault_at x v).banks
    → bank_at (vault_at (with_vault x v (record (vault_at x v) { banks = slice_set (vault_at x v).banks b (f (bank_at (vault_at x v) b)) })) w) a ≡ change_if (test && inner) f (bank_at (vault_at x w) a)
unfolding if_vault
banks_change f x v w b a true inner is at there bank =
    ap (λ (y : VaultFields). bank_at y a) (vault_changed x v w _ true is there) ∙ bank_changes f (vault_at x v).banks b a inner at bank ∙ ap (λ (n : ℕ). change_if inner f (bank_at (vault_at x n) a)) (eqb-true v w is)
banks_change f x v w b a false inner is at there bank = ap (λ (y : VaultFields). bank_at y a) (vault_changed x v w _ false is there)

-- in one cube
pub packets_changed : (x : CubeFields) (r q : QueueId) (f : Change) → IsCubeQueue r → IsCubeQueue q → IsIn x r → packets_in (changed_in x r f) q ≡ change_if (same_inner r q) f (packets_in x q)
packets_changed x (Vault c v) (Vault d w) f here there is = part_changes (λ (y : VaultFields). y.vault_queue) f x v w _ (v == w) refl is refl
packets_changed x (Vault c v) (Bank d w a) f here there is = part_stays (λ (y : VaultFields). bank_at y a) x v w _ (v == w) refl is refl
packets_changed x (Vault c v) (Answers d (lifts.Vault w)) f here there is = part_stays (λ (y : VaultFields). y.answers) x v w _ (v == w) refl is refl
packets_changed x (Vault c v) (Answers d lifts.Registers) f here there is = refl
packets_changed x (Vault c v) (Registers d) f here there is = refl
packets_changed x (Bank c v b) (Vault d w) f here there is = part_stays (λ (y : VaultFields). y.vault_queue) x v w _ (v == w) refl is.0 refl
packets_changed x (Bank c v b) (Bank d w a) f here there is = banks_change f x v w b a (v == w) (b == a) refl refl is.0 is.1
packets_changed x (Bank c v b) (Answers d (lifts.Vault w)) f here there is = part_stays (λ (y : VaultFields). y.answers) x v w _ (v == w) refl is.0 refl
packets_changed x (Bank c v b) (Answers d lifts.Registers) f here there is = refl
packets_changed x (Bank c v b) (Registers d) f here there is = refl
packets_changed x (Registers c) (Vault d w) f here there is = refl
packets_changed x (Registers c) (Bank d w a) f here there is = refl
packets_changed x (Registers c) (Registers d) f here there is = refl
packets_changed x (Registers c) (Answers d (lifts.Vault w)) f here there is = refl
packets_changed x (Registers c) (Answers d lifts.Registers) f here there is = refl
packets_changed x (Answers c (lifts.Vault v)) (Vault d w) f here there is = part_stays (λ (y : VaultFields). y.vault_queue) x v w _ (v == w) refl is refl
packets_changed x (Answers c (lifts.Vault v)) (Bank d w a) f here there is = part_stays (λ (y : VaultFields). bank_at y a) x v w _ (v == w) refl is refl
packets_changed x (Answers c (lifts.Vault v)) (Registers d) f here there is = refl
packets_changed x (Answers c (lifts.Vault v)) (Answers d (lifts.Vault w)) f here there is = part_changes (λ (y : VaultFields). y.answers) f x v w _ (v == w) refl is refl
packets_changed x (Answers c (lifts.Vault v)) (Answers d lifts.Registers) f here there is = refl
packets_changed x (Answers c lifts.Registers) (Vault d w) f here there is = refl
packets_changed x (Answers c lifts.Registers) (Bank d w a) f here there is = refl
packets_changed x (Answers c lifts.Registers) (Registers d) f here there is = refl
packets_changed x (Answers c lifts.Registers) (Answers d (lifts.Vault w)) f here there is = refl
packets_changed x (Answers c lifts.Registers) (Answers d lifts.Registers) f here there is = refl
packets_changed x (Output e) q f here there is = absurd here
packets_changed x (Port d p) q f here there is = absurd here
packets_changed x (Host h) q f here there is = absurd here
packets_changed x r (Output e) f here there is = absurd there
packets_changed x r (Port d p) f here there is = absurd there
packets_changed x r (Host h) f here there is = absurd there

-- ---- in the cubes

abbrev pub changed : List CubeFields → QueueId → Change → List CubeFields
changed cubes (Output d) f = cubes
changed cubes (Port c p) f = cubes
changed cubes (Host h) f = cubes
changed cubes r f = slice_set cubes (queue_cube r) (changed_in (cube_in cubes (queue_cube r)) r f)

same_split : (r q : QueueId) → IsCubeQueue r → IsCubeQueue q → same_queue r q ≡ ((queue_cube r == queue_cube q) && same_inner r q)
same_split (Vault c v) (Vault d w) here there = refl
same_split (Vault c v) (Bank d w a) here there = sym (and-false (c == d))
same_split (Vault c v) (Answers d to) here there = sym (and-false (c == d))
same_split (Vault c v) (Registers d) here there = sym (and-false (c == d))
same_split (Bank c v b) (Vault d w) here there = sym (and-false (c == d))
same_split (Bank c v b) (Bank d w a) here there = refl
same_split (Bank c v b) (Answers d to) here there = sym (and-false (c == d))
same_split (Bank c v b) (Registers d) here there = sym (and-false (c == d))
same_split (Registers c) (Vault d w) here there = sym (and-false (c == d))
same_split (Registers c) (Bank d w a) here there = sym (and-false (c == d))
same_split (Registers c) (Answers d to) here there = sym (and-false (c == d))
same_split (Registers c) (Registers d) here there = sym (and-true (c == d))
same_split (Answers c from) (Vault d w) here there = sym (and-false (c == d))
same_split (Answers c from) (Bank d w a) here there = sym (and-false (c == d))
same_split (Answers c from) (Answers d to) here there = refl
same_split (Answers c from) (Registers d) here there = sym (and-false (c == d))
same_split (Output e) q here there = absurd here
same_split (Port d p) q here there = absurd here
same_split (Host h) q here there = absurd here
same_split r (Output e) here there = absurd there
same_split r (Port d p) here there = absurd there
same_split r (Host h) here there = absurd there

-- another cube, or the one that is changed
set_changed : (cubes : List CubeFields) (c : ℕ) (x : CubeFields) (q : QueueId) (inner test : Bool) (f : Change) → (c == queue_cube q) ≡ test → c < length cubes → packets_in x q ≡ change_if inner f (packets_in (cube_in cubes c) q)
    → inside (slice_set cubes c x) q ≡ change_if (test && inner) f (inside cubes q)
set_changed cubes c x q inner true f is there same =
    ap (λ (n : ℕ). packets_in (cube_in (slice_set cubes c x) n) q) (sym (eqb-true c (queue_cube q) is)) ∙ ap (λ (y : CubeFields). packets_in y q) (get_or-set_same cubes c x no_cube there)
    ∙ same ∙ ap (λ (n : ℕ). change_if inner f (packets_in (cube_in cubes n) q)) (eqb-true c (queue_cube q) is)
set_changed cubes c x q inner false f is there same = ap (λ (y : CubeFields). packets_in y q) (get_or-set_other cubes c (queue_cube q) x no_cube (other_than c (queue_cube q) is))

inner_changed : (cubes : List CubeFields) (r q : QueueId) (f : Change) → IsCubeQueue r → IsCubeQueue q → queue_cube r < length cubes → IsIn (cube_in cubes (queue_cube r)) r
    → inside (slice_set cubes (queue_cube r) (changed_in (cube_in cubes (queue_cube r)) r f)) q ≡ change_if (same_queue r q) f (inside cubes q)
inner_changed cubes r q f here there less is =
    set_changed cubes (queue_cube r) (changed_in (cube_in cubes (queue_cube r)) r f) q (same_inner r q) (queue_cube r == queue_cube q) f refl less (packets_changed (cube_in cubes (queue_cube r)) r q f here there is)
    ∙ ap (λ (t : Bool). change_if t f (inside cubes q)) (sym (same_split r q here there))

no_change : (cubes : List CubeFields) (r q : QueueId) (f : Change) → (IsCubeQueue r → ⊥) → IsCubeQueue q → inside cubes q ≡ change_if (same_queue r q) f (inside cubes q)
no_change cubes r q f off there = sym (ap (λ (t : Bool). change_if t f (inside cubes q)) (outside r q off there))

pub inside_changed : (cubes : List CubeFields) (r q : QueueId) (f : Change) → IsCubeQueue q → IsQueueOf cubes r → inside (changed cubes r f) q ≡ change_if (same_queue r q) f (inside cubes q)
inside_changed cubes (Output d) q f there is = no_change cubes (Output d) q f (λ no. no) there
inside_changed cubes (Port c p) q f there is = no_change cubes (Port c p) q f (λ no. no) there
inside_changed cubes (Host h) q f there is = no_change cubes (Host h) q f (λ no. no) there
inside_changed cubes (Vault c v) q f there is = inner_changed cubes (Vault c v) q f tt there is.0 is.1
inside_changed cubes (Bank c v b) q f there is = inner_changed cubes (Bank c v b) q f tt there is.0 is.1
inside_changed cubes (Registers c) q f there is = inner_changed cubes (Registers c) q f tt there is.0 is.1
inside_changed cubes (Answers c (lifts.Vault v)) q f there is = inner_changed cubes (Answers c (lifts.Vault v)) q f tt there is.0 is.1
inside_changed cubes (Answers c lifts.Registers) q f there is = inner_changed cubes (Answers c lifts.Registers) q f tt there is.0 is.1
