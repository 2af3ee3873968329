-- The number under way by the parts of a network, for every topology.
use Rattle.std.proofs.Common.{◌≡◌, ◌∙◌, ◌<◌, ◌≤◌, ◌+◌, ◌*◌, ◌/◌, ◌%◌, ◌^◌, ℕ, zero, suc, Bool, List, [], ◌∷◌, length, drop, map, refl, ap, ap₂, arith}
use Rattle.std.specs.Prelude.{filter, if◌then◌else◌}
use Rattle.std.specs.List.{flat_map, range_with_len}
use Rattle.std.proofs.lemmas.Bool.{eq-eqb, ne_eqb}
use Rattle.hmc_codes.specs.Numbers.{upto}
use Rattle.hmc_codes.specs.declared.lift.Lift.TheVariants as lifts
use Rattle.hmc_packet.specs.Packet.{PacketFields}
use Rattle.hmc_send.specs.declared.toward.Toward.{Toward}
use Rattle.hmc_send.specs.declared.toward.Toward.TheVariants.{Forth, Back}
use Rattle.hmc_send.specs.LinkEntries.{takes, accepted_packets}
use Rattle.hmc_send.specs.LinkSenders.{queue_in, places_in}
use Rattle.hmc_send.specs.Places.{is_token, takes_tokens}
use Rattle.hmc_entries.specs.declared.entry.Entry.{Entry}
use Rattle.hmc_journal.specs.Drained.{queues_of, directions_of, direction_queues, cube_queues, vault_queues}
use Rattle.hmc_journal.specs.Lawful.{Lawful}
use Rattle.hmc_journal.specs.Links.{toward, link_sizes, link_entries, sizes_on, entries_on}
use Rattle.hmc_journal.specs.Network.{IsNetwork}
use Rattle.hmc_journal.specs.Queues.{QueueId, landing_buffer, contents}
use Rattle.hmc_journal.specs.Queues.QueueId.{Output, Vault, Bank, Answers}
use Rattle.hmc_journal.specs.Setup.{Setup, Topology, shape_of, cubes_in, directions_in}
use Rattle.hmc_laws.proofs.Entering.{accepted_are}
use Rattle.hmc_laws.proofs.LinkInvariant.{link_invariant}
use Rattle.hmc_journal.specs.UnderWay.{count_in, crossing_places, under_way}
use Rattle.hmc_rounds.proofs.Totals.{sum, flat_sum, sum_append, sum_map, sum_flat}
use Rattle.hmc_bound.specs.Counts.{total, buffered, of_way, of_link, long, of_vault, of_cube, IsCounted}

total_is : {X : Type 0} (f : X → ℕ) (xs : List X) → sum f xs ≡ total f xs
total_is f [] = refl
total_is f (x ∷ xs) = ap (λ (n : ℕ). f x + n) (total_is f xs)

total_same : {X : Type 0} (f g : X → ℕ) → ((x : X) → f x ≡ g x) → (xs : List X) →
    total f xs ≡ total g xs
total_same f g same [] = refl
total_same f g same (x ∷ xs) = ap₂ (λ (m n : ℕ). m + n) (same x) (total_same f g same xs)

-- ---- directions

-- of a direction
abbrev of_direction : Topology → List Entry → ℕ → ℕ
of_direction t past d = of_way (sizes_on t d) (toward d) (entries_on t d past)

two_queues : (f : QueueId → ℕ) (t : Topology) (d : ℕ) → sum f (direction_queues t d) ≡ f (Output d)
    + f (landing_buffer t d)
two_queues f t d = by_sums (f (Output d)) (f (landing_buffer t d))
  where
    by_sums : (a b : ℕ) → a + (b + 0) ≡ a + b
    by_sums a b = omega arith

-- a direction's queues hold what its link says
queues_are : (setup : Setup) → IsNetwork setup → (past : List Entry) → Lawful setup past → (d : ℕ) →
    d < directions_in setup.topology →
    long setup.topology past (Output d) + long setup.topology past (landing_buffer setup.topology d)
    + length (crossing_places setup.topology past d) ≡ of_direction setup.topology past d
queues_are setup network past lawful d inside =
    let t = setup.topology in
    let link = sizes_on t d in
    let es = entries_on t d past in
    let inv = link_invariant setup past d network inside lawful in
    let output : long t past (Output d) ≡ length (queue_in link (toward d) es) =
    ap (λ (ps : List PacketFields). length ps) inv.output in
    let buffer : long t past (landing_buffer t d) ≡ buffered link (toward d) es =
    ap (λ (ps : List PacketFields). length ps) inv.buffer
    ∙ ap (λ (ps : List PacketFields). length (drop (takes (toward d) es) (filter is_token ps)))
    (accepted_are t d past) in
    let cross : length (crossing_places t past d) ≡ length
    (filter takes_tokens
    (drop (length (accepted_packets link.profile (toward d) es))
    (places_in link (toward d) es))) =
    ap (λ (ps : List PacketFields).
    length (filter takes_tokens (drop (length ps) (places_in link (toward d) es))))
    (accepted_are t d past) in
    by_sums _ _ _ _ _ _ output buffer cross
  where
    by_sums : (o b c o' b' c' : ℕ) → o ≡ o' → b ≡ b' → c ≡ c' → o + b + c ≡ c' + o' + b'
    by_sums o b c o' b' c' p q r = omega (arith, p, q, r)

-- over a range of them
ranges_are : (setup : Setup) → IsNetwork setup → (past : List Entry) → Lawful setup past →
    (s n : ℕ) → s + n ≤ directions_in setup.topology →
    sum (λ d. sum (long setup.topology past) (direction_queues setup.topology d))
    (range_with_len s n) + sum (λ d. length (crossing_places setup.topology past d))
    (range_with_len s n) ≡ total (of_direction setup.topology past) (range_with_len s n)
ranges_are setup network past lawful s zero le = refl
ranges_are setup network past lawful s (suc n) le =
    let t = setup.topology in
    by_sums _ _ _ _ _ _ _ _ (two_queues (long t past) t s)
    (queues_are setup network past lawful s (omega (arith, le)))
    (ranges_are setup network past lawful (s + 1) n (omega (arith, le)))
  where
    by_sums : (q a b c w qs cs ws : ℕ) → q ≡ a + b → a + b + c ≡ w → qs + cs ≡ ws →
        (q + qs) + (c + cs) ≡ w + ws
    by_sums q a b c w qs cs ws e f g = omega (arith, e, f, g)

-- ---- links

even_way : (i d : ℕ) → d ≡ 2 * i → (toward d ≡ Forth) × (d / 2 ≡ i)
even_way i d e = (
  ap (λ (b : Bool). if b then Forth else Back) (eq-eqb (d % 2) 0 (omega (arith, e))),
  omega (arith, e),
)

odd_way : (i d : ℕ) → d ≡ 2 * i + 1 → (toward d ≡ Back) × (d / 2 ≡ i)
odd_way i d e = (
  ap (λ (b : Bool). if b then Forth else Back) (ne_eqb (d % 2) 0 (λ z. omega (arith, e, z))),
  omega (arith, e),
)

way_at : (t : Topology) (past : List Entry) (d i : ℕ) (way : Toward) → (toward d ≡ way)
    × (d / 2 ≡ i) → of_direction t past d ≡ of_way (link_sizes t i) way (link_entries t i past)
way_at t past d i way e = ap₂ (λ n w. of_way (link_sizes t n) w (link_entries t n past)) e.1 e.0

-- two directions for each link
pairs : (t : Topology) (past : List Entry) (s i n m : ℕ) → s ≡ 2 * i → m ≡ 2 * n →
    total (of_direction t past) (range_with_len s m) ≡ total (of_link t past) (range_with_len i n)
pairs t past s i zero zero e h = refl
pairs t past s i zero (suc m) e h = absurd (omega (arith, h))
pairs t past s i (suc n) zero e h = absurd (omega (arith, h))
pairs t past s i (suc n) (suc zero) e h = absurd (omega (arith, h))
pairs t past s i (suc n) (suc (suc m)) e h =
    by_sums _ _ _ _ _ _ (way_at t past s i Forth (even_way i s e))
    (way_at t past (s + 1) i Back (odd_way i (s + 1) (omega (arith, e))))
    (pairs t past (s + 1 + 1) (i + 1) n m (omega (arith, e)) (omega (arith, h)))
  where
    by_sums : (a b c a' b' c' : ℕ) → a ≡ a' → b ≡ b' → c ≡ c' → a + (b + c) ≡ (a' + b') + c'
    by_sums a b c a' b' c' p q r = omega (arith, p, q, r)

-- ---- cubes

vault_is : (t : Topology) (past : List Entry) (c v : ℕ) →
    sum (long t past) (vault_queues t c v) ≡ of_vault t past c v
vault_is t past c v =
    let f = long t past in
    let banks = upto (2 ^ (shape_of t c).bank_bits) in
    by_sums _ _ _ _ _
    (sum_append f (Vault c v ∷ map (Bank c v) banks) (Answers c (lifts.Vault v) ∷ []))
    (sum_map f (Bank c v) banks ∙ total_is (λ b. f (Bank c v b)) banks)
  where
    by_sums : (all v m b a : ℕ) → all ≡ (v + m) + (a + 0) → m ≡ b → all ≡ v + b + a
    by_sums all v m b a e h = omega (arith, e, h)

cube_is : (t : Topology) (past : List Entry) (c : ℕ) →
    sum (long t past) (cube_queues t c) ≡ of_cube t past c
cube_is t past c =
    let f = long t past in
    let vaults = upto (2 ^ (shape_of t c).vault_bits) in
    by_sums _ _ _ _ (sum_flat f (vault_queues t c) vaults
    ∙ total_is (λ v. sum f (vault_queues t c v)) vaults
    ∙ total_same (λ v. sum f (vault_queues t c v)) (of_vault t past c) (vault_is t past c) vaults)
  where
    by_sums : (r a vs ws : ℕ) → vs ≡ ws → r + (a + vs) ≡ r + a + ws
    by_sums r a vs ws e = omega (arith, e)

-- ---- all

pub is_counted : (setup : Setup) → IsCounted setup
unfolding under_way
is_counted setup network past lawful =
    let t = setup.topology in
    let f = long t past in
    let ds = directions_of t in
    let cs = upto (cubes_in t) in
    let queues : count_in t past (queues_of t) ≡ sum (λ d. sum f (direction_queues t d)) ds
    + sum (λ c. sum f (cube_queues t c)) cs =
    flat_sum (contents t past) (queues_of t)
    ∙ sum_append f (flat_map (direction_queues t) ds) (flat_map (cube_queues t) cs)
    ∙ ap₂ (λ (m n : ℕ). m + n) (sum_flat f (direction_queues t) ds)
    (sum_flat f (cube_queues t) cs) in
    let links =
    ranges_are setup network past lawful 0 (directions_in t) (omega arith)
    ∙ pairs t past 0 0 (length t.links) (directions_in t) refl refl in
    let cubes : sum (λ c. sum f (cube_queues t c)) cs ≡ total (of_cube t past) cs =
    total_is (λ c. sum f (cube_queues t c)) cs
    ∙ total_same (λ c. sum f (cube_queues t c)) (of_cube t past) (cube_is t past) cs in
    by_sums _ _ _ _ _ _ _ queues (flat_sum (crossing_places t past) ds) links cubes
  where
    by_sums : (h q c x x' l w : ℕ) → h ≡ q + c → x ≡ x' → q + x' ≡ l → c ≡ w → h + x ≡ l + w
    by_sums h q c x x' l w e f g i = omega (arith, e, f, g, i)
