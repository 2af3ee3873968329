-- The queues inside cubes after one more entry: the front of one leaves, and a packet enters
-- another.
use Rattle.std.proofs.Common.{◌≡◌, ◌≤◌, ◌+◌, ◌∙◌, ℕ, zero, suc, Bool, true, false, Option, Some, None, List, ◌∷◌, ◌++◌, length, drop, refl, sym, ap, subst, arith, length-append, length-drop}
use Rattle.std.proofs.lemmas.List.{drop-append-le}
use Rattle.hmc_codes.proofs.General.{drop-one_more}
use Rattle.hmc_codes.specs.declared.unit.Unit.TheVariants as units
use Rattle.hmc_packet.specs.Packet.{PacketFields}
use Rattle.hmc_packet.specs.declared.what.What.TheVariants.{New}
use Rattle.hmc_entries.specs.declared.entry.Entry.{Entry}
use Rattle.hmc_entries.specs.declared.entry.Entry.TheVariants.{Sent, Shifted, Dropped, Spread, Executed, Lifted, Took, Discarded}
use Rattle.hmc_journal.specs.Directions.{unsent, awaits_first}
use Rattle.hmc_journal.specs.Queues.{QueueId, same_queue, is_at, leaves, begins, arrived, one_if, left, entered, contents}
use Rattle.hmc_journal.specs.Queues.QueueId.{Output, Port, Host, Vault, Bank, Registers, Answers}
use Rattle.hmc_journal.specs.Setup.{Topology, Setup}
use Rattle.hmc_journal.proofs.EntryRule.{EntryRule, HasFront}
use Rattle.hmc_journal.proofs.Moves.{arrives, same_queue_is}
use Rattle.hmc_kept.specs.InCubes.{IsCubeQueue, without_front}

-- lists
drop_one_more : {X : Type 0} (n : ℕ) (xs : List X) → drop (1 + n) xs ≡ drop 1 (drop n xs)
drop_one_more n xs = let e : 1 + n ≡ suc n = omega arith in ap (λ k. drop k xs) e ∙ drop-one_more n xs

drop_step : (a : Bool) (n : ℕ) (xs more : List PacketFields) → one_if a + n ≤ length xs → drop (one_if a + n) (xs ++ more) ≡ without_front a (drop n xs) ++ more
drop_step true n xs more within = drop-append-le (1 + n) xs more within ∙ ap (λ l. l ++ more) (drop_one_more n xs)
drop_step false n xs more within = let few : n ≤ length xs = omega arith in ap (λ k. drop k (xs ++ more)) (omega arith) ∙ drop-append-le n xs more few

-- a front that leaves had entered
front_within : (topology : Topology) (past : List Entry) (r q : QueueId) (front : PacketFields) (rest : List PacketFields) (test : Bool) → same_queue r q ≡ test → contents topology past r ≡ front ∷ rest
    → left past q ≤ length (entered topology past q) → one_if test + left past q ≤ length (entered topology past q)
unfolding contents
front_within topology past r q front rest false is front_is within = omega arith
front_within topology past r q front rest true is front_is within =
    let here : drop (left past q) (entered topology past q) ≡ front ∷ rest = ap (contents topology past) (sym (same_queue_is r q is)) ∙ front_is in
    let some : length (drop (left past q) (entered topology past q)) ≡ suc (length rest) = ap length here in
    omega (arith, length-drop (left past q) (entered topology past q))

-- a queue of a cube that a packet leaves, if one does, has a front
abbrev pub IsLeft : Topology → List Entry → Option QueueId → Type 0
IsLeft topology past None = Unit {0}
IsLeft topology past (Some r) = IsCubeQueue r → (front : PacketFields) × (rest : List PacketFields) × (contents topology past r ≡ front ∷ rest)

-- a queue of a cube is none of the others
left_by : (topology : Topology) (past : List Entry) (r q : QueueId) (test : Bool) → same_queue r q ≡ test → IsCubeQueue q → IsLeft topology past (Some r) → left past q ≤ length (entered topology past q) → one_if test + left past q ≤ length (entered topology past q)
left_by topology past r q false same cube is within = omega arith
left_by topology past r q true same cube is within =
    let at = is (subst IsCubeQueue (sym (same_queue_is r q same)) cube) in front_within topology past r q at.0 at.1 true same at.2 within

left_within : (topology : Topology) (past : List Entry) (leaving : Option QueueId) (q : QueueId) → IsCubeQueue q → IsLeft topology past leaving → left past q ≤ length (entered topology past q) → one_if (is_at leaving q) + left past q ≤ length (entered topology past q)
left_within topology past None q cube is within = omega arith
left_within topology past (Some r) q cube is within = left_by topology past r q (same_queue r q) refl cube is within

pub contents_step : (topology : Topology) (past : List Entry) (entry : Entry) (q : QueueId) → IsCubeQueue q → IsLeft topology past (leaves past entry) → left past q ≤ length (entered topology past q)
    → contents topology (entry ∷ past) q ≡ without_front (is_at (leaves past entry) q) (contents topology past q) ++ arrived q (arrives topology past entry)
unfolding contents left entered
contents_step topology past entry q cube is within =
    drop_step (is_at (leaves past entry) q) (left past q) (entered topology past q) _ (left_within topology past (leaves past entry) q cube is within)

pub within_step : (topology : Topology) (past : List Entry) (entry : Entry) (q : QueueId) → IsCubeQueue q → IsLeft topology past (leaves past entry) → left past q ≤ length (entered topology past q)
    → left (entry ∷ past) q ≤ length (entered topology (entry ∷ past) q)
unfolding left entered
within_step topology past entry q cube is within =
    omega (arith, left_within topology past (leaves past entry) q cube is within, length-append {A = PacketFields})

-- ---- what leaves a queue of a cube is its front

by_front : (setup : Setup) (past : List Entry) (r : QueueId) → HasFront setup past r → IsLeft setup.topology past (Some r)
by_front setup past r at = λ cube. (at.front, at.rest, at.is)

begun_left : (topology : Topology) (past : List Entry) (waiting : Bool) (count direction : ℕ) → IsLeft topology past (begins waiting count direction)
begun_left topology past true count direction = tt
begun_left topology past false zero direction = λ none. absurd none
begun_left topology past false (suc count) direction = tt

pub left_by_rule : (setup : Setup) (past : List Entry) (entry : Entry) → EntryRule setup past entry → IsLeft setup.topology past (leaves past entry)
unfolding leaves
left_by_rule setup past (Sent direction New flit) rule = begun_left setup.topology past (awaits_first direction past) (unsent direction past) direction
left_by_rule setup past (Shifted cube port goal) rule = λ none. absurd none
left_by_rule setup past (Dropped cube port) rule = λ none. absurd none
left_by_rule setup past (Spread cube vault bank) rule = by_front setup past (Vault cube vault) rule.at
left_by_rule setup past (Executed (units.Bank cube vault bank) host tag request answer) rule = by_front setup past (Bank cube vault bank) rule.at
left_by_rule setup past (Executed (units.Registers cube) host tag request answer) rule = by_front setup past (Registers cube) rule.at
left_by_rule setup past (Lifted cube from port) rule = by_front setup past (Answers cube from) rule.at
left_by_rule setup past (Took host tag answer) rule = λ none. absurd none
left_by_rule setup past (Discarded host) rule = λ none. absurd none
left_by_rule setup past _ rule = tt

-- a queue of a link is none of a cube
pub outside : (r q : QueueId) → (IsCubeQueue r → ⊥) → IsCubeQueue q → same_queue r q ≡ false
outside (Vault c v) q off there = absurd (off tt)
outside (Bank c v b) q off there = absurd (off tt)
outside (Registers c) q off there = absurd (off tt)
outside (Answers c from) q off there = absurd (off tt)
outside (Output d) (Vault c v) off there = refl
outside (Output d) (Bank c v b) off there = refl
outside (Output d) (Registers c) off there = refl
outside (Output d) (Answers c from) off there = refl
outside (Port c p) (Vault e v) off there = refl
outside (Port c p) (Bank e v b) off there = refl
outside (Port c p) (Registers e) off there = refl
outside (Port c p) (Answers e from) off there = refl
outside (Host h) (Vault c v) off there = refl
outside (Host h) (Bank c v b) off there = refl
outside (Host h) (Registers c) off there = refl
outside (Host h) (Answers c from) off there = refl
outside r (Output e) off there = absurd there
outside r (Port d p) off there = absurd there
outside r (Host h) off there = absurd there
