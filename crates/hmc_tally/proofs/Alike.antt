-- Two lists of final values that agree have the same lines.
use Rattle.std.proofs.Common.{◌≡◌, ◌<◌, ◌+◌, ◌∙◌, ℕ, zero, suc, List, [], ◌∷◌, ◌++◌, length, map, refl, ap, ap₂, arith}
use Rattle.std.specs.List.{flat_map, range_with_len}
use Rattle.std.proofs.lemmas.List.{length-map}
use Rattle.hmc_codes.specs.Numbers.{upto}
use Rattle.hmc_report.specs.Final.{FinalValues, ending_lines, final_lines}
use Rattle.hmc_report.specs.Lines.{memory_lines, register_lines, token_line, counter_line, host_line, cube_line, state_line}
use Rattle.hmc_journal.specs.Counts.{host_counts, cube_counts}

-- two lists of values agree at the numbers that are there
pub record AreAlike (v w : FinalValues) : Type 0 where
  pub cubes : v.cubes ≡ w.cubes
  pub directions : v.directions ≡ w.directions
  pub hosts : v.hosts ≡ w.hosts
  pub memory : (cube : ℕ) → cube < w.cubes → v.memory cube ≡ w.memory cube
  pub registers : (cube : ℕ) → cube < w.cubes → v.registers cube ≡ w.registers cube
  pub tokens : (direction : ℕ) → direction < w.directions → v.tokens direction ≡ w.tokens direction
  pub counters : (direction : ℕ) → direction < w.directions → v.counters direction ≡ w.counters direction
  pub host_counts : (host : ℕ) → host < w.hosts → v.host_counts host ≡ w.host_counts host
  pub cube_counts : (cube : ℕ) → cube < w.cubes → v.cube_counts cube ≡ w.cube_counts cube
  pub drained : v.drained ≡ w.drained

pub map_below : {X : Type 0} (f g : ℕ → X) (a n : ℕ) → ((k : ℕ) → k < a + n → f k ≡ g k) → map f (range_with_len a n) ≡ map g (range_with_len a n)
map_below f g a zero same = refl
map_below f g a (suc n) same =
    ap₂ (λ x l. x ∷ l) (same a (omega arith)) (map_below f g (a + 1) n (λ k less. same k (omega (arith, less))))

pub flat_below : {X : Type 0} (f g : ℕ → List X) (a n : ℕ) → ((k : ℕ) → k < a + n → f k ≡ g k) → flat_map f (range_with_len a n) ≡ flat_map g (range_with_len a n)
flat_below f g a zero same = refl
flat_below f g a (suc n) same =
    ap₂ (λ x l. x ++ l) (same a (omega arith)) (flat_below f g (a + 1) n (λ k less. same k (omega (arith, less))))

pub map_upto : {X : Type 0} (f g : ℕ → X) (m n : ℕ) → m ≡ n → ((k : ℕ) → k < n → f k ≡ g k) → map f (upto m) ≡ map g (upto n)
map_upto f g m n counts same = ap (λ k. map f (upto k)) counts ∙ map_below f g 0 n (λ k less. same k (omega (arith, less)))

pub flat_upto : {X : Type 0} (f g : ℕ → List X) (m n : ℕ) → m ≡ n → ((k : ℕ) → k < n → f k ≡ g k) → flat_map f (upto m) ≡ flat_map g (upto n)
flat_upto f g m n counts same = ap (λ k. flat_map f (upto k)) counts ∙ flat_below f g 0 n (λ k less. same k (omega (arith, less)))

pub ending_alike : (v w : FinalValues) → AreAlike v w → ending_lines v ≡ ending_lines w
unfolding ending_lines
ending_alike v w same =
    let tokens = map_upto (λ d. token_line d (v.tokens d)) (λ d. token_line d (w.tokens d)) v.directions w.directions same.directions (λ d less. ap (token_line d) (same.tokens d less)) in
    let counters = map_upto (λ d. counter_line d (v.counters d)) (λ d. counter_line d (w.counters d)) v.directions w.directions same.directions (λ d less. ap (counter_line d) (same.counters d less)) in
    let hosts = map_upto (λ h. host_line h (v.host_counts h)) (λ h. host_line h (w.host_counts h)) v.hosts w.hosts same.hosts (λ h less. ap (host_line h) (same.host_counts h less)) in
    let cubes = map_upto (λ c. cube_line c (v.cube_counts c)) (λ c. cube_line c (w.cube_counts c)) v.cubes w.cubes same.cubes (λ c less. ap (cube_line c) (same.cube_counts c less)) in
    λ i. tokens i ++ counters i ++ hosts i ++ cubes i ++ state_line (same.drained i) ∷ []

pub lines_alike : (v w : FinalValues) → AreAlike v w → final_lines v ≡ final_lines w
unfolding final_lines
lines_alike v w same =
    let memory = flat_upto (λ c. memory_lines c (v.memory c)) (λ c. memory_lines c (w.memory c)) v.cubes w.cubes same.cubes (λ c less. ap (memory_lines c) (same.memory c less)) in
    let registers = flat_upto (λ c. register_lines c (v.registers c)) (λ c. register_lines c (w.registers c)) v.cubes w.cubes same.cubes (λ c less. ap (register_lines c) (same.registers c less)) in
    let ending = ending_alike v w same in
    λ i. memory i ++ registers i ++ ending i

pub rows_count : {X : Type 0} (f : ℕ → X) (n : ℕ) → length (map f (upto n)) ≡ n
rows_count f n = length-map (upto n) f ∙ counted 0 n
  where
    counted : (a m : ℕ) → length (range_with_len a m) ≡ m
    counted a zero = refl
    counted a (suc m) = ap suc (counted (a + 1) m)
