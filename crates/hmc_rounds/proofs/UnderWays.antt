-- The number under way of a journal is that of its numbers; where it is 0 the journal is drained.
use Rattle.std.proofs.Common.{◌≡◌, ◌+◌, ◌∙◌, ◌⊎◌, inl, inr, ℕ, Bool, List, [], ◌∷◌, ◌++◌, length, map, refl, sym, ap, ap₂, arith}
use Rattle.std.specs.List.{flat_map}
use Rattle.hmc_codes.specs.Numbers.{upto}
use Rattle.hmc_codes.specs.declared.lift.Lift.TheVariants as lifts
use Rattle.hmc_codes.specs.declared.place.Place.{Place}
use Rattle.hmc_case.specs.Setup.{CubeSetupFields}
use Rattle.hmc_send.specs.LinkEntries.{LinkEntry}
use Rattle.hmc_link_state.specs.State as drain
use Rattle.hmc_link_state.specs.State.{Side}
use Rattle.hmc_link_state.specs.Steps.{Doing}
use Rattle.hmc_entries.specs.declared.entry.Entry.{Entry}
use Rattle.hmc_journal.specs.Drained.{queues_of, directions_of, direction_queues, cube_queues, vault_queues}
use Rattle.hmc_journal.specs.Lawful.{Lawful}
use Rattle.hmc_journal.specs.Queues.{QueueId, landing_buffer, buffer_at, contents}
use Rattle.hmc_journal.specs.Queues.QueueId.{Output, Port, Host, Vault, Bank, Registers, Answers}
use Rattle.hmc_journal.specs.Setup.{Setup, Topology, cubes_in, directions_in}
use Rattle.hmc_rounds.specs.Counted.{counted}
use Rattle.hmc_rounds.specs.CubeQueues.{vaults_in, banks_in, queues_of_vaults, queues_of_units, queues_of_answers}
use Rattle.hmc_journal.specs.UnderWay.{count_in, crossing_places, under_way}
use Rattle.hmc_rounds.proofs.EntryMoves.{Scene, port_buffer, host_buffer, back_queue, forth_queue, as_long, crossing_forth, crossing_back}
use Rattle.hmc_rounds.proofs.Single.{Joined}
use Rattle.hmc_rounds.proofs.Totals.{sum, flat_sum, sum_append, sum_map, sum_flat}

-- a direction's two queues, and all four
two_sum : (t : Topology) (j : Joined t) (f : QueueId → ℕ) →
    sum f (flat_map (direction_queues t) (upto 2)) ≡ f (Output j.forth) + f (Port 0 j.port)
    + (f (Output j.back) + f (Host 0))
two_sum t j f =
    by_order j.order
    ∙ ap₂ (λ (m n : ℕ). f (Output j.forth) + m + (f (Output j.back) + n))
    (ap (λ (p : Place). f (buffer_at p)) j.end_forth)
    (ap (λ (p : Place). f (buffer_at p)) j.end_back)
  where
    by_sums : (a b c d : ℕ) → a + (b + (c + (d + 0))) ≡ a + b + (c + d)
    by_sums a b c d = omega arith

    by_swap : (a b c d : ℕ) → a + (b + (c + (d + 0))) ≡ c + d + (a + b)
    by_swap a b c d = omega arith

    by_order : ((j.forth ≡ 0) × (j.back ≡ 1)) ⊎ ((j.forth ≡ 1) × (j.back ≡ 0)) →
        sum f (flat_map (direction_queues t) (upto 2)) ≡ f (Output j.forth)
        + f (landing_buffer t j.forth) + (f (Output j.back) + f (landing_buffer t j.back))
    by_order (inl o) =
        by_sums (f (Output 0)) (f (landing_buffer t 0)) (f (Output 1)) (f (landing_buffer t 1))
        ∙ ap₂ (λ x y. f (Output x) + f (landing_buffer t x)
        + (f (Output y) + f (landing_buffer t y))) (sym o.0) (sym o.1)
    by_order (inr o) =
        by_swap (f (Output 0)) (f (landing_buffer t 0)) (f (Output 1)) (f (landing_buffer t 1))
        ∙ ap₂ (λ x y. f (Output x) + f (landing_buffer t x)
        + (f (Output y) + f (landing_buffer t y))) (sym o.0) (sym o.1)

three_sums : (a b c : ℕ → ℕ) (ns : List ℕ) → sum (λ n. (a n + b n) + (c n + 0)) ns ≡ sum a ns
    + sum b ns + sum c ns
three_sums a b c [] = refl
three_sums a b c (n ∷ ns) =
    ap (λ (m : ℕ). (a n + b n) + (c n + 0) + m) (three_sums a b c ns)
    ∙ by_sums (a n) (b n) (c n) (sum a ns) (sum b ns) (sum c ns)
  where
    by_sums : (a b c x y z : ℕ) → (a + b) + (c + 0) + (x + y + z) ≡ (a + x) + (b + y) + (c + z)
    by_sums a b c x y z = omega arith

vault_sum : (t : Topology) (f : QueueId → ℕ) (v : ℕ) →
    sum f (vault_queues t 0 v) ≡ (f (Vault 0 v) + sum f (map (Bank 0 v) (upto (banks_in t))))
    + (f (Answers 0 (lifts.Vault v)) + 0)
vault_sum t f v =
    sum_append f (Vault 0 v ∷ map (Bank 0 v) (upto (banks_in t))) (Answers 0 (lifts.Vault v) ∷ [])

same_sums : (f g : ℕ → ℕ) → ((n : ℕ) → f n ≡ g n) → (ns : List ℕ) → sum f ns ≡ sum g ns
same_sums f g same [] = refl
same_sums f g same (n ∷ ns) = ap₂ (λ (x y : ℕ). x + y) (same n) (same_sums f g same ns)

cube_sum : (t : Topology) (f : QueueId → ℕ) → sum f (cube_queues t 0) ≡ sum f (queues_of_vaults t)
    + sum f (queues_of_units t) + sum f (queues_of_answers t)
cube_sum t f =
    let vs = upto (vaults_in t) in
    let bank = λ (v : ℕ). map (Bank 0 v) (upto (banks_in t)) in
    let parts : sum f (flat_map (vault_queues t 0) vs) ≡ sum (λ v. f (Vault 0 v)) vs
    + sum (λ v. sum f (bank v)) vs + sum (λ v. f (Answers 0 (lifts.Vault v))) vs =
    sum_flat f (vault_queues t 0) vs
    ∙ same_sums (λ v. sum f (vault_queues t 0 v)) (λ v. (f (Vault 0 v) + sum f (bank v))
    + (f (Answers 0 (lifts.Vault v)) + 0)) (vault_sum t f) vs
    ∙ three_sums (λ v. f (Vault 0 v)) (λ v. sum f (bank v)) (λ v. f (Answers 0 (lifts.Vault v)))
    vs in
    by_sums (f (Registers 0)) (f (Answers 0 lifts.Registers)) _ _ _ _ _ _ _ parts
    (sum_map f (Vault 0) vs) (sum_flat f bank vs) (sum_map f (λ v. Answers 0 (lifts.Vault v)) vs)
  where
    by_sums : (r s all a b c v u w : ℕ) → all ≡ a + b + c → v ≡ a → u ≡ b → w ≡ c →
        r + (s + all) ≡ v + (r + u) + (s + w)
    by_sums r s all a b c v u w x y z q = omega arith

pub all_held : (t : Topology) (j : Joined t) (past : List Entry)
    → count_in t past (queues_of t) ≡ length (contents t past (Output j.forth))
    + length (contents t past (Port 0 j.port))
    + (length (contents t past (Output j.back)) + length (contents t past (Host 0)))
    + (count_in t past (queues_of_vaults t) + count_in t past (queues_of_units t)
    + count_in t past (queues_of_answers t))
all_held t j past =
    let f = λ (q : QueueId). length (contents t past q) in
    let directions : upto (directions_in t) ≡ upto 2 = ap upto j.two in
    let cubes : upto (cubes_in t) ≡ upto 1 =
    ap (λ (cs : List CubeSetupFields). upto (length cs)) j.cubes in
    flat_sum (contents t past) (queues_of t)
    ∙ ap₂ (λ (ds cs : List ℕ). sum f (flat_map (direction_queues t) ds
    ++ flat_map (cube_queues t) cs)) directions cubes
    ∙ sum_append f (flat_map (direction_queues t) (upto 2)) (flat_map (cube_queues t) (upto 1))
    ∙ by_sums _ _ _ _ _ _ _ _ _ _ (two_sum t j f) (sum_flat f (cube_queues t) (upto 1))
    (cube_sum t f) (flat_sum (contents t past) (queues_of_vaults t))
    (flat_sum (contents t past) (queues_of_units t))
    (flat_sum (contents t past) (queues_of_answers t))
  where
    by_sums : (d d' c c' v u a hv hu ha : ℕ) → d ≡ d' → c ≡ c' + 0 → c' ≡ v + u + a → hv ≡ v →
        hu ≡ u → ha ≡ a → d + c ≡ d' + (hv + hu + ha)
    by_sums d d' c c' v u a hv hu ha p q r s t w = omega arith

pub cross_sum : (t : Topology) (j : Joined t) (past : List Entry) →
    length (flat_map (crossing_places t past) (directions_of t)) ≡ length
    (crossing_places t past j.forth) + length (crossing_places t past j.back)
cross_sum t j past =
    let f = λ (d : ℕ). length (crossing_places t past d) in
    flat_sum (crossing_places t past) (directions_of t) ∙ ap (λ (n : ℕ). sum f (upto n)) j.two
    ∙ by_order j.order
  where
    by_order : ((j.forth ≡ 0) × (j.back ≡ 1)) ⊎ ((j.forth ≡ 1) × (j.back ≡ 0)) →
        sum (λ (d : ℕ). length (crossing_places t past d)) (upto 2) ≡ length
        (crossing_places t past j.forth) + length (crossing_places t past j.back)
    by_order (inl o) =
        plain (length (crossing_places t past 0)) (length (crossing_places t past 1))
        ∙ ap₂ (λ x y. length (crossing_places t past x) + length (crossing_places t past y))
        (sym o.0) (sym o.1)
      where
        plain : (a b : ℕ) → a + (b + 0) ≡ a + b
        plain a b = omega arith
    by_order (inr o) =
        turned (length (crossing_places t past 0)) (length (crossing_places t past 1))
        ∙ ap₂ (λ x y. length (crossing_places t past x) + length (crossing_places t past y))
        (sym o.0) (sym o.1)
      where
        turned : (a b : ℕ) → a + (b + 0) ≡ b + a
        turned a b = omega arith

pub under_ways : (setup : Setup) (doings : List LinkEntry → List Doing) (sc : Scene setup doings)
    (past : List Entry) → Lawful setup past → (b : Bool) →
    drain.under_way (counted setup.topology doings past b) ≡ under_way setup.topology past
unfolding under_way
under_ways setup doings sc past lawful b =
    let t = setup.topology in
    let j = sc.joined in
    by_sums _ _ _ _ _ _ _ _ _ _ _ _ _ _ _ _ _
    (as_long _ _ (forth_queue setup doings sc past lawful))
    (as_long _ _ (port_buffer setup doings sc past lawful))
    (as_long _ _ (back_queue setup doings sc past lawful))
    (as_long _ _ (host_buffer setup doings sc past lawful))
    (crossing_forth setup doings sc past lawful) (crossing_back setup doings sc past lawful)
    (all_held t j past) (cross_sum t j past)
  where
    by_sums : (fq fb bq bb fc bc fq' fb' bq' bb' fc' bc' v u a all cross : ℕ) → fq ≡ fq' →
        fb ≡ fb' → bq ≡ bq' → bb ≡ bb' → fc ≡ fc' → bc ≡ bc' → all ≡ fq' + fb' + (bq' + bb')
        + (v + u + a) → cross ≡ fc' + bc'
        → fq + fc + (fb + v + u + a) + bq + bc + bb ≡ all + cross
    by_sums fq fb bq bb fc bc fq' fb' bq' bb' fc' bc' v u a all cross p q r s x y w z = omega arith
