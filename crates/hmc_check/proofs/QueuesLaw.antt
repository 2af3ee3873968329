-- The queues inside cubes after a change of one of them.
use Rattle.std.proofs.Common.{◌≡◌, ◌<◌, ◌+◌, ◌*◌, ◌/◌, ◌==◌, ◌∙◌, ◌&&◌, ℕ, Bool, true, false, if◌then◌else◌, List, [], ◌∷◌, ◌++◌, length, drop, refl, sym, ap, ap₂, subst, arith, append-nil, eqb-true, eq-eqb}
use Rattle.std.specs.Prelude.{nat_lt, slice_set, slice_index_or}
use Rattle.std.proofs.lemmas.Nat.{div-mul-add}
use Rattle.std.proofs.lemmas.List.{length-set, get_or-set_same, get_or-set_other}
use Rattle.std.proofs.lemmas.Bool.Decides.{nat_tests}
use Rattle.hmc_codes.specs.declared.lift.Lift.TheVariants as lifts
use Rattle.hmc_case.specs.Setup.{CubeSetupFields}
use Rattle.hmc_packet.specs.Packet.{PacketFields}
use Rattle.hmc_journal.specs.Basics.{packet_if}
use Rattle.hmc_journal.specs.Choice.{choose}
use Rattle.hmc_journal.specs.Queues.{QueueId, same_queue, same_lift, QueueId as ids}
use Rattle.hmc_journal.proofs.Moves.{same_queue_is}
use Rattle.hmc_queues.specs.declared.queue_name.QueueName.{QueueName}
use Rattle.hmc_queues.specs.declared.queue_name.QueueName.TheVariants.{Vault, Bank, Registers, Answers}
use Rattle.hmc_queues.specs.Queues.{CubeQueuesFields, seats, group_of, seat_of, place_of, is_there, no_queues, queues_at, packets_in, packets_at, with_packets}
use Rattle.hmc_queues.proofs.Places.{below_seats}
use Rattle.hmc_codes.proofs.Places.{lift_same}
use Rattle.hmc_check.proofs.Tests.{below}
use Rattle.std.proofs.lemmas.Bool.{and_from}
use Rattle.hmc_check.specs.Inside.{queue_at, inside_of, QueuesFit, IsOpen}
use Rattle.hmc_kept.specs.InCubes.{without_front}

-- ---- places

both_below : (a b c d : ℕ) → (nat_lt a b && nat_lt c d) ≡ true → (a < b) × (c < d)
both_below a b c d is = (grind (arith, nat_tests), grind (arith, nat_tests))

seat_small : (r : CubeQueuesFields) (room : QueueName) → is_there r room ≡ true → seat_of room < r.banks + 2
seat_small r (Vault v) is = omega arith
seat_small r (Bank v b) is = let both = both_below v r.vaults b r.banks is in omega (arith, both.1)
seat_small r Registers is = omega arith
seat_small r (Answers from) is = omega arith

-- the registers come after all vaults
apart_from_last : (v n : ℕ) → nat_lt v n ≡ true → v ≡ n → ⊥
apart_from_last v n is same = let less = below v n is in omega arith

same_name : (r : CubeQueuesFields) (a b : QueueName) → is_there r a ≡ true → is_there r b ≡ true → group_of r.vaults a ≡ group_of r.vaults b → seat_of a ≡ seat_of b → a ≡ b
same_name r (Vault v) (Vault w) x y g s = ap Vault g
same_name r (Vault v) (Bank w c) x y g s = absurd (omega arith)
same_name r (Vault v) Registers x y g s = absurd (apart_from_last v r.vaults x g)
same_name r (Vault v) (Answers from) x y g s = absurd (omega arith)
same_name r (Bank v b) (Vault w) x y g s = absurd (omega arith)
same_name r (Bank v b) (Bank w c) x y g s = ap₂ Bank g (omega arith)
same_name r (Bank v b) Registers x y g s = absurd (omega arith)
same_name r (Bank v b) (Answers from) x y g s = absurd (omega arith)
same_name r Registers (Vault w) x y g s = absurd (apart_from_last w r.vaults y (sym g))
same_name r Registers (Bank w c) x y g s = absurd (omega arith)
same_name r Registers Registers x y g s = refl
same_name r Registers (Answers from) x y g s = absurd (omega arith)
same_name r (Answers from) (Vault w) x y g s = absurd (omega arith)
same_name r (Answers from) (Bank w c) x y g s = absurd (omega arith)
same_name r (Answers from) Registers x y g s = absurd (omega arith)
same_name r (Answers (lifts.Vault v)) (Answers (lifts.Vault w)) x y g s = ap (λ (n : ℕ). Answers (lifts.Vault n)) g
same_name r (Answers (lifts.Vault v)) (Answers lifts.Registers) x y g s = absurd (apart_from_last v r.vaults x g)
same_name r (Answers lifts.Registers) (Answers (lifts.Vault w)) x y g s = absurd (apart_from_last w r.vaults y (sym g))
same_name r (Answers lifts.Registers) (Answers lifts.Registers) x y g s = refl

same_place : (r : CubeQueuesFields) (a b : QueueName) → is_there r a ≡ true → is_there r b ≡ true → place_of r a ≡ place_of r b → a ≡ b
same_place r a b x y same =
    let sa = seat_small r a x in
    let sb = seat_small r b y in
    let g : group_of r.vaults a ≡ group_of r.vaults b =
    sym (div-mul-add (group_of r.vaults a) (r.banks + 2) (seat_of a) sa) ∙ ap (λ (n : ℕ). n / (r.banks + 2)) same ∙ div-mul-add (group_of r.vaults b) (r.banks + 2) (seat_of b) sb in
    let rest : group_of r.vaults a * (r.banks + 2) ≡ group_of r.vaults b * (r.banks + 2) = ap (λ (n : ℕ). n * (r.banks + 2)) g in
    same_name r a b x y g (omega (arith, same, rest))

place_below : (r : CubeQueuesFields) (room : QueueName) → is_there r room ≡ true → place_of r room < seats r.vaults r.banks
place_below r (Vault v) is = below_seats r.vaults r.banks v 0 (below v r.vaults is) (omega arith)
place_below r (Bank v b) is = let both = both_below v r.vaults b r.banks is in below_seats r.vaults r.banks v (2 + b) both.0 (omega (arith, both.1))
place_below r Registers is = omega arith
place_below r (Answers (lifts.Vault v)) is = below_seats r.vaults r.banks v 1 (below v r.vaults is) (omega arith)
place_below r (Answers lifts.Registers) is = omega arith

-- ---- names

named_once : (c d : ℕ) (a b : QueueName) → queue_at c a ≡ queue_at d b → (c ≡ d) × (a ≡ b)
named_once c d (Vault v) (Vault w) is = (cc, cc)
named_once c d (Vault v) (Bank w e) is = absurd cc
named_once c d (Vault v) Registers is = absurd cc
named_once c d (Vault v) (Answers from) is = absurd cc
named_once c d (Bank v b) (Vault w) is = absurd cc
named_once c d (Bank v b) (Bank w e) is = (cc, cc)
named_once c d (Bank v b) Registers is = absurd cc
named_once c d (Bank v b) (Answers from) is = absurd cc
named_once c d Registers (Vault w) is = absurd cc
named_once c d Registers (Bank w e) is = absurd cc
named_once c d Registers Registers is = (cc, refl)
named_once c d Registers (Answers from) is = absurd cc
named_once c d (Answers from) (Vault w) is = absurd cc
named_once c d (Answers from) (Bank w e) is = absurd cc
named_once c d (Answers from) Registers is = absurd cc
named_once c d (Answers from) (Answers to) is = (cc, cc)

queue_self : (c : ℕ) (a : QueueName) → same_queue (queue_at c a) (queue_at c a) ≡ true
queue_self c (Vault v) = and_from (c == c) (v == v) (eq-eqb c c refl) (eq-eqb v v refl)
queue_self c (Bank v b) = and_from (c == c) ((v == v) && (b == b)) (eq-eqb c c refl) (and_from (v == v) (b == b) (eq-eqb v v refl) (eq-eqb b b refl))
queue_self c Registers = eq-eqb c c refl
queue_self c (Answers from) = and_from (c == c) (same_lift from from) (eq-eqb c c refl) (lift_same from)

clash : (b : Bool) → b ≡ true → b ≡ false → ⊥
clash b x y = absurd (let bad : true ≡ false = sym x ∙ y in cc)

-- ---- one cube

-- a queue of a cube, one of whose queues has these packets now
one_cube : (r : CubeQueuesFields) (a b : QueueName) (ps : List PacketFields) (there : Bool) → length r.queues ≡ seats r.vaults r.banks → is_there r a ≡ true → (a ≡ b → ⊥) → is_there r b ≡ there
    → (if there then slice_index_or (slice_set r.queues (place_of r a) ps) (place_of r b) [] else []) ≡ (if there then slice_index_or r.queues (place_of r b) [] else [])
one_cube r a b ps true count here apart is = get_or-set_other r.queues (place_of r a) (place_of r b) ps [] (λ same. apart (same_place r a b here is (sym same)))
one_cube r a b ps false count here apart is = refl

other_queue : (r : CubeQueuesFields) (a b : QueueName) (ps : List PacketFields) → length r.queues ≡ seats r.vaults r.banks → is_there r a ≡ true → (a ≡ b → ⊥) → packets_in (record r { queues = slice_set r.queues (place_of r a) ps }) b ≡ packets_in r b
other_queue r a b ps count here apart = one_cube r a b ps (is_there r b) count here apart refl

this_queue : (r : CubeQueuesFields) (a : QueueName) (ps : List PacketFields) → length r.queues ≡ seats r.vaults r.banks → is_there r a ≡ true → packets_in (record r { queues = slice_set r.queues (place_of r a) ps }) a ≡ ps
this_queue r a ps count here =
    ap (λ (t : Bool). if t then slice_index_or (slice_set r.queues (place_of r a) ps) (place_of r a) [] else []) here
    ∙ get_or-set_same r.queues (place_of r a) ps [] (let less = place_below r a here in omega (arith, count))

-- ---- all cubes

cube_test : (queues : List CubeQueuesFields) (c d : ℕ) (a b : QueueName) (ps : List PacketFields) (cubes same : Bool) → IsOpen queues c a → (c == d) ≡ cubes → same_queue (queue_at c a) (queue_at d b) ≡ same
    → packets_at (with_packets c a ps queues) d b ≡ choose same ps (packets_at queues d b)
cube_test queues c d a b ps cubes true at is same =
    let both = named_once c d a b (same_queue_is (queue_at c a) (queue_at d b) same) in
    let r = queues_at queues c in
    ap₂ (λ (n : ℕ) (x : QueueName). packets_at (with_packets c a ps queues) n x) (sym both.0) (sym both.1)
    ∙ ap (λ (x : CubeQueuesFields). packets_in x a) (get_or-set_same queues c (record r { queues = slice_set r.queues (place_of r a) ps }) no_queues at.is.some_cube)
    ∙ this_queue r a ps at.count at.is.there
cube_test queues c d a b ps true false at is same =
    let one : c ≡ d = eqb-true c d is in
    let r = queues_at queues c in
    let apart : a ≡ b → ⊥ = λ eq. clash (same_queue (queue_at c a) (queue_at d b)) (ap (λ (n : ℕ). same_queue (queue_at c a) (queue_at n b)) (sym one) ∙ ap (λ (x : QueueName). same_queue (queue_at c a) (queue_at c x)) (sym eq) ∙ queue_self c a) same in
    ap (λ (n : ℕ). packets_at (with_packets c a ps queues) n b) (sym one)
    ∙ ap (λ (x : CubeQueuesFields). packets_in x b) (get_or-set_same queues c (record r { queues = slice_set r.queues (place_of r a) ps }) no_queues at.is.some_cube)
    ∙ other_queue r a b ps at.count at.is.there apart ∙ ap (λ (n : ℕ). packets_at queues n b) one
cube_test queues c d a b ps false false at is same =
    ap (λ (x : CubeQueuesFields). packets_in x b) (get_or-set_other queues c d _ no_queues (λ eq. clash (c == d) (eq-eqb c d (sym eq)) is))

pub at_with : (queues : List CubeQueuesFields) (c d : ℕ) (a b : QueueName) (ps : List PacketFields) → IsOpen queues c a → packets_at (with_packets c a ps queues) d b ≡ choose (same_queue (queue_at c a) (queue_at d b)) ps (packets_at queues d b)
at_with queues c d a b ps at = cube_test queues c d a b ps (c == d) (same_queue (queue_at c a) (queue_at d b)) at refl refl

-- each queue by its name
pub inside_with : (queues : List CubeQueuesFields) (c : ℕ) (a : QueueName) (ps : List PacketFields) (q : QueueId) → IsOpen queues c a → inside_of (with_packets c a ps queues) q ≡ choose (same_queue (queue_at c a) q) ps (inside_of queues q)
inside_with queues c a ps (ids.Vault d v) at = at_with queues c d a (Vault v) ps at
inside_with queues c a ps (ids.Bank d v b) at = at_with queues c d a (Bank v b) ps at
inside_with queues c a ps (ids.Registers d) at = at_with queues c d a Registers ps at
inside_with queues c a ps (ids.Answers d from) at = at_with queues c d a (Answers from) ps at
inside_with queues c (Vault v) ps (ids.Output e) at = refl
inside_with queues c (Bank v b) ps (ids.Output e) at = refl
inside_with queues c Registers ps (ids.Output e) at = refl
inside_with queues c (Answers from) ps (ids.Output e) at = refl
inside_with queues c (Vault v) ps (ids.Port e p) at = refl
inside_with queues c (Bank v b) ps (ids.Port e p) at = refl
inside_with queues c Registers ps (ids.Port e p) at = refl
inside_with queues c (Answers from) ps (ids.Port e p) at = refl
inside_with queues c (Vault v) ps (ids.Host e) at = refl
inside_with queues c (Bank v b) ps (ids.Host e) at = refl
inside_with queues c Registers ps (ids.Host e) at = refl
inside_with queues c (Answers from) ps (ids.Host e) at = refl

-- the queue of a name
pub inside_at : (queues : List CubeQueuesFields) (c : ℕ) (a : QueueName) → inside_of queues (queue_at c a) ≡ packets_at queues c a
inside_at queues c (Vault v) = refl
inside_at queues c (Bank v b) = refl
inside_at queues c Registers = refl
inside_at queues c (Answers from) = refl

-- a front has left, and a packet has come
popped_by : (queues : List CubeQueuesFields) (c : ℕ) (a : QueueName) (q : QueueId) (same : Bool) → same_queue (queue_at c a) q ≡ same → choose same (drop 1 (packets_at queues c a)) (inside_of queues q) ≡ without_front same (inside_of queues q)
popped_by queues c a q true is = ap (drop 1) (sym (inside_at queues c a) ∙ ap (inside_of queues) (same_queue_is (queue_at c a) q is))
popped_by queues c a q false is = refl

pub popped : (queues : List CubeQueuesFields) (c : ℕ) (a : QueueName) (q : QueueId) → IsOpen queues c a → inside_of (with_packets c a (drop 1 (packets_at queues c a)) queues) q ≡ without_front (same_queue (queue_at c a) q) (inside_of queues q)
popped queues c a q at = inside_with queues c a (drop 1 (packets_at queues c a)) q at ∙ popped_by queues c a q (same_queue (queue_at c a) q) refl

pushed_by : (queues : List CubeQueuesFields) (c : ℕ) (a : QueueName) (packet : PacketFields) (q : QueueId) (same : Bool) → same_queue (queue_at c a) q ≡ same → choose same (packets_at queues c a ++ packet ∷ []) (inside_of queues q) ≡ inside_of queues q ++ packet_if same (λ x. packet)
pushed_by queues c a packet q true is = ap (λ (l : List PacketFields). l ++ packet ∷ []) (sym (inside_at queues c a) ∙ ap (inside_of queues) (same_queue_is (queue_at c a) q is))
pushed_by queues c a packet q false is = sym (append-nil (inside_of queues q))

pub pushed : (queues : List CubeQueuesFields) (c : ℕ) (a : QueueName) (packet : PacketFields) (q : QueueId) → IsOpen queues c a → inside_of (with_packets c a (packets_at queues c a ++ packet ∷ []) queues) q ≡ inside_of queues q ++ packet_if (same_queue (queue_at c a) q) (λ x. packet)
pushed queues c a packet q at = inside_with queues c a (packets_at queues c a ++ packet ∷ []) q at ∙ pushed_by queues c a packet q (same_queue (queue_at c a) q) refl

-- ---- the sizes stay

pub fits_with : (setup : ℕ → CubeSetupFields) (queues : List CubeQueuesFields) (c : ℕ) (a : QueueName) (ps : List PacketFields) → c < length queues → ((cube : ℕ) → cube < length queues → QueuesFit (setup cube) (queues_at queues cube))
    → (cube : ℕ) → cube < length (with_packets c a ps queues) → QueuesFit (setup cube) (queues_at (with_packets c a ps queues) cube)
fits_with setup queues c a ps there fits cube less = by_test (c == cube) refl
  where
    by_test : (t : Bool) → (c == cube) ≡ t → QueuesFit (setup cube) (queues_at (with_packets c a ps queues) cube)
    by_test true is =
        let r = queues_at queues c in
        let now : CubeQueuesFields = record r { queues = slice_set r.queues (place_of r a) ps } in
        let old = fits c there in
        let fit : QueuesFit (setup c) now = record { vaults = old.vaults; banks = old.banks; size = old.size; count = length-set r.queues (place_of r a) ps ∙ old.count } in
        subst (λ (n : ℕ). QueuesFit (setup n) (queues_at (with_packets c a ps queues) n)) (eqb-true c cube is)
        (subst (QueuesFit (setup c)) (sym (get_or-set_same queues c now no_queues there)) fit)
    by_test false is =
        let inside : cube < length queues = omega (arith, length-set queues c (record (queues_at queues c) { queues = slice_set (queues_at queues c).queues (place_of (queues_at queues c) a) ps })) in
        subst (QueuesFit (setup cube)) (sym (get_or-set_other queues c cube _ no_queues (λ eq. clash (c == cube) (eq-eqb c cube (sym eq)) is))) (fits cube inside)

pub length_with : (queues : List CubeQueuesFields) (c : ℕ) (a : QueueName) (ps : List PacketFields) → length (with_packets c a ps queues) ≡ length queues
length_with queues c a ps = length-set queues c (record (queues_at queues c) { queues = slice_set (queues_at queues c).queues (place_of (queues_at queues c) a) ps })
