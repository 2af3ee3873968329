-- How many packets are in some queues, as sums, and how often a queue is among them.
use Rattle.std.proofs.Common.{◌≡◌, ◌≤◌, ◌<◌, ◌+◌, ◌∙◌, ◌==◌, ℕ, zero, suc, Bool, true, false, Option, Some, None, List, [], ◌∷◌, ◌++◌, length, map, refl, sym, ap, ap₂, arith, zero-add, eq-eqb, ne_eqb, eqb-true, length-append}
use Rattle.std.specs.List.{flat_map, range_with_len}
use Rattle.hmc_codes.specs.declared.lift.Lift.TheVariants as lifts
use Rattle.hmc_journal.specs.Setup.{Topology}
use Rattle.hmc_journal.specs.Queues.{QueueId, same_queue, is_at, one_if}
use Rattle.hmc_journal.specs.Queues.QueueId.{Vault, Bank, Registers, Answers}
use Rattle.hmc_rounds.specs.CubeQueues.{vaults_in, banks_in, queues_of_vaults, queues_of_units, queues_of_answers}

abbrev pub sum : {X : Type 0} → (X → ℕ) → List X → ℕ
sum f [] = 0
sum f (x ∷ xs) = f x + sum f xs

pub flat_sum : {X Y : Type 0} (f : X → List Y) (xs : List X) →
    length (flat_map f xs) ≡ sum (λ x. length (f x)) xs
flat_sum f [] = refl
flat_sum f (x ∷ xs) =
    length-append (f x) (flat_map f xs) ∙ ap (λ n. length (f x) + n) (flat_sum f xs)

pub sum_plus : {X : Type 0} (f g a b : X → ℕ) → ((x : X) → f x + a x ≡ g x + b x) → (xs : List X) →
    sum f xs + sum a xs ≡ sum g xs + sum b xs
sum_plus f g a b same [] = refl
sum_plus f g a b same (x ∷ xs) =
    by_sums (f x) (g x) (a x) (b x) (sum f xs) (sum g xs) (sum a xs) (sum b xs) (same x)
    (sum_plus f g a b same xs)
  where
    by_sums : (f g a b f' g' a' b' : ℕ) → f + a ≡ g + b → f' + a' ≡ g' + b' →
        (f + f') + (a + a') ≡ (g + g') + (b + b')
    by_sums f g a b f' g' a' b' p q = omega arith

pub sum_zero : {X : Type 0} (f : X → ℕ) → ((x : X) → f x ≡ 0) → (xs : List X) → sum f xs ≡ 0
sum_zero f none [] = refl
sum_zero f none (x ∷ xs) = ap₂ (λ (m n : ℕ). m + n) (none x) (sum_zero f none xs)

pub sum_same : {X : Type 0} (f g : X → ℕ) → ((x : X) → f x ≡ g x) → (xs : List X) →
    sum f xs ≡ sum g xs
sum_same f g same [] = refl
sum_same f g same (x ∷ xs) = ap₂ (λ (m n : ℕ). m + n) (same x) (sum_same f g same xs)

pub sum_append : {X : Type 0} (f : X → ℕ) (xs ys : List X) → sum f (xs ++ ys) ≡ sum f xs + sum f ys
sum_append f [] ys = omega arith
sum_append f (x ∷ xs) ys =
    ap (λ (n : ℕ). f x + n) (sum_append f xs ys) ∙ assoc (f x) (sum f xs) (sum f ys)
  where
    assoc : (a b c : ℕ) → a + (b + c) ≡ (a + b) + c
    assoc a b c = omega arith

pub sum_map : {X Y : Type 0} (f : Y → ℕ) (g : X → Y) (xs : List X) →
    sum f (map g xs) ≡ sum (λ x. f (g x)) xs
sum_map f g [] = refl
sum_map f g (x ∷ xs) = ap (λ (n : ℕ). f (g x) + n) (sum_map f g xs)

pub sum_flat : {X Y : Type 0} (f : Y → ℕ) (g : X → List Y) (xs : List X) →
    sum f (flat_map g xs) ≡ sum (λ x. sum f (g x)) xs
sum_flat f g [] = refl
sum_flat f g (x ∷ xs) =
    sum_append f (g x) (flat_map g xs) ∙ ap (λ (n : ℕ). sum f (g x) + n) (sum_flat f g xs)

-- a number is in a range once or not
pub count_below : (v s n : ℕ) → v < s → sum (λ (i : ℕ). one_if (v == i)) (range_with_len s n) ≡ 0
count_below v s zero less = refl
count_below v s (suc n) less =
    let no : (v == s) ≡ false = ne_eqb v s (λ e. omega (arith, e, less)) in
    let rest : sum (λ (i : ℕ). one_if (v == i)) (range_with_len (s + 1) n) ≡ 0 =
    count_below v (s + 1) n (omega (arith, less)) in
    ap₂ (λ (b : Bool) (m : ℕ). one_if b + m) no rest

above : (v s : ℕ) → s ≤ v → (v ≡ s → ⊥) → s + 1 ≤ v
above zero zero h f = absurd (f refl)
above (suc v) zero h f = omega arith
above zero (suc s) h f = absurd (omega (arith, h))
above (suc v) (suc s) h f =
    let z : s + 1 ≤ v = above v s (omega (arith, h)) (λ e. f (ap suc e)) in omega (arith, z)

pub count_range : (v s n : ℕ) → s ≤ v → v < s + n →
    sum (λ (i : ℕ). one_if (v == i)) (range_with_len s n) ≡ 1
count_range v s zero least most = absurd (omega (arith, least, most))
count_range v s (suc n) least most =
    by_test (v == s) refl (λ more. count_range v (s + 1) n more (omega (arith, most)))
  where
    by_test : (b : Bool) → (v == s) ≡ b →
        (s + 1 ≤ v → sum (λ (i : ℕ). one_if (v == i)) (range_with_len (s + 1) n) ≡ 1) →
        sum (λ (i : ℕ). one_if (v == i)) (range_with_len s (suc n)) ≡ 1
    by_test true is later =
        let same : v ≡ s = eqb-true v s is in
        ap₂ (λ (b : Bool) (m : ℕ). one_if b + m) is (count_below v (s + 1) n (omega (arith, same)))
    by_test false is later =
        let far : v ≡ s → ⊥ = (λ e. let clash : true ≡ false = sym (eq-eqb v s e) ∙ is in cc) in
        ap₂ (λ (b : Bool) (m : ℕ). one_if b + m) is (later (above v s least far))

pub count_upto : (v n : ℕ) → v < n → sum (λ (i : ℕ). one_if (v == i)) (range_with_len 0 n) ≡ 1
count_upto v n less = count_range v 0 n (omega arith) (omega (arith, less))

-- how often a queue, if there is one, is among some
abbrev pub count : Option QueueId → List QueueId → ℕ
count there rooms = sum (λ q. one_if (is_at there q)) rooms

pub count_none : (rooms : List QueueId) → count None rooms ≡ 0
count_none rooms = sum_zero (λ q. one_if (is_at None q)) (λ q. refl) rooms

pub vault_once : (topology : Topology) (v : ℕ) → v < vaults_in topology →
    count (Some (Vault 0 v)) (queues_of_vaults topology) ≡ 1
vault_once topology v less =
    sum_map (λ q. one_if (is_at (Some (Vault 0 v)) q)) (Vault 0)
    (range_with_len 0 (vaults_in topology)) ∙ count_upto v (vaults_in topology) less

pub vault_off : (topology : Topology) (room : QueueId) →
    ((v : ℕ) → same_queue room (Vault 0 v) ≡ false) →
    count (Some room) (queues_of_vaults topology) ≡ 0
vault_off topology room off =
    sum_map (λ q. one_if (is_at (Some room) q)) (Vault 0) (range_with_len 0 (vaults_in topology))
    ∙ sum_zero (λ (v : ℕ). one_if (same_queue room (Vault 0 v))) (λ v. ap one_if (off v))
    (range_with_len 0 (vaults_in topology))

bank_row : (w a v n : ℕ) → a < n →
    sum (λ q. one_if (is_at (Some (Bank 0 w a)) q)) (map (Bank 0 v) (range_with_len 0 n)) ≡ one_if
    (w == v)
bank_row w a v n less =
    sum_map (λ q. one_if (is_at (Some (Bank 0 w a)) q)) (Bank 0 v) (range_with_len 0 n)
    ∙ by_test (w == v) refl
  where
    by_test : (b : Bool) → (w == v) ≡ b →
        sum (λ (i : ℕ). one_if (is_at (Some (Bank 0 w a)) (Bank 0 v i)))
        (range_with_len 0 n) ≡ one_if (w == v)
    by_test true is =
        sum_same (λ (i : ℕ). one_if (is_at (Some (Bank 0 w a)) (Bank 0 v i)))
        (λ (i : ℕ). one_if (a == i)) (λ i. rw is refl) (range_with_len 0 n)
        ∙ count_upto a n less ∙ sym (ap one_if is)
    by_test false is =
        sum_zero (λ (i : ℕ). one_if (is_at (Some (Bank 0 w a)) (Bank 0 v i))) (λ i. rw is refl)
        (range_with_len 0 n) ∙ sym (ap one_if is)

pub bank_once : (topology : Topology) (v b : ℕ) → v < vaults_in topology → b < banks_in topology →
    count (Some (Bank 0 v b)) (queues_of_units topology) ≡ 1
bank_once topology v b v_less b_less =
    zero-add
    (sum (λ q. one_if (is_at (Some (Bank 0 v b)) q))
    (flat_map (λ vault. map (Bank 0 vault) (range_with_len 0 (banks_in topology)))
    (range_with_len 0 (vaults_in topology))))
    ∙ sum_flat (λ q. one_if (is_at (Some (Bank 0 v b)) q))
    (λ vault. map (Bank 0 vault) (range_with_len 0 (banks_in topology)))
    (range_with_len 0 (vaults_in topology))
    ∙ sum_same
    (λ vault. sum (λ q. one_if (is_at (Some (Bank 0 v b)) q))
    (map (Bank 0 vault) (range_with_len 0 (banks_in topology)))) (λ vault. one_if (v == vault))
    (λ vault. bank_row v b vault (banks_in topology) b_less) (range_with_len 0 (vaults_in topology))
    ∙ count_upto v (vaults_in topology) v_less

banks_off : (topology : Topology) (room : QueueId) →
    ((v b : ℕ) → same_queue room (Bank 0 v b) ≡ false)
    → sum (λ q. one_if (is_at (Some room) q))
    (flat_map (λ vault. map (Bank 0 vault) (range_with_len 0 (banks_in topology)))
    (range_with_len 0 (vaults_in topology))) ≡ 0
banks_off topology room off =
    sum_flat (λ q. one_if (is_at (Some room) q))
    (λ vault. map (Bank 0 vault) (range_with_len 0 (banks_in topology)))
    (range_with_len 0 (vaults_in topology))
    ∙ sum_zero
    (λ vault. sum (λ q. one_if (is_at (Some room) q))
    (map (Bank 0 vault) (range_with_len 0 (banks_in topology))))
    (λ vault. sum_map (λ q. one_if (is_at (Some room) q)) (Bank 0 vault)
    (range_with_len 0 (banks_in topology))
    ∙ sum_zero (λ (b : ℕ). one_if (same_queue room (Bank 0 vault b))) (λ b. ap one_if (off vault b))
    (range_with_len 0 (banks_in topology)))
    (range_with_len 0 (vaults_in topology))

pub unit_off : (topology : Topology) (room : QueueId) → same_queue room (Registers 0) ≡ false →
    ((v b : ℕ) → same_queue room (Bank 0 v b) ≡ false) →
    count (Some room) (queues_of_units topology) ≡ 0
unit_off topology room registers off =
    ap₂ (λ (b : Bool) (n : ℕ). one_if b + n) registers (banks_off topology room off)

pub registers_once : (topology : Topology) →
    count (Some (Registers 0)) (queues_of_units topology) ≡ 1
registers_once topology = ap (λ (n : ℕ). 1 + n) (banks_off topology (Registers 0) (λ v b. refl))

pub answer_off : (topology : Topology) (room : QueueId) →
    same_queue room (Answers 0 lifts.Registers) ≡ false →
    ((v : ℕ) → same_queue room (Answers 0 (lifts.Vault v)) ≡ false) →
    count (Some room) (queues_of_answers topology) ≡ 0
answer_off topology room registers off =
    ap₂ (λ (b : Bool) (n : ℕ). one_if b + n) registers
    (sum_map (λ q. one_if (is_at (Some room) q)) (λ v. Answers 0 (lifts.Vault v))
    (range_with_len 0 (vaults_in topology))
    ∙ sum_zero (λ (v : ℕ). one_if (same_queue room (Answers 0 (lifts.Vault v))))
    (λ v. ap one_if (off v)) (range_with_len 0 (vaults_in topology)))

pub answer_vault_once : (topology : Topology) (v : ℕ) → v < vaults_in topology →
    count (Some (Answers 0 (lifts.Vault v))) (queues_of_answers topology) ≡ 1
answer_vault_once topology v less =
    zero-add
    (sum (λ q. one_if (is_at (Some (Answers 0 (lifts.Vault v))) q))
    (map (λ v. Answers 0 (lifts.Vault v)) (range_with_len 0 (vaults_in topology))))
    ∙ sum_map (λ q. one_if (is_at (Some (Answers 0 (lifts.Vault v))) q))
    (λ v. Answers 0 (lifts.Vault v)) (range_with_len 0 (vaults_in topology))
    ∙ count_upto v (vaults_in topology) less

pub answer_registers_once : (topology : Topology) →
    count (Some (Answers 0 lifts.Registers)) (queues_of_answers topology) ≡ 1
answer_registers_once topology =
    ap (λ (n : ℕ). 1 + n)
    (sum_map (λ q. one_if (is_at (Some (Answers 0 lifts.Registers)) q))
    (λ v. Answers 0 (lifts.Vault v)) (range_with_len 0 (vaults_in topology))
    ∙ sum_zero (λ (v : ℕ). 0) (λ v. refl) (range_with_len 0 (vaults_in topology)))
