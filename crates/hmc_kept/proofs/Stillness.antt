-- Tests that no packet is on its way.
use Rattle.std.proofs.Common.{◌≡◌, ◌&&◌, ◌==◌, Bool, true, false, is_none, List, [], ◌∷◌, slice_get, refl, ap, eqb-true, eq-eqb, ◌<◌, ◌+◌, ◌*◌, ◌/◌, ◌%◌, ◌∙◌, ℕ, zero, suc, if◌then◌else◌, length, drop, sum_by, sym, arith}
use Rattle.std.specs.Prelude.{IsTrue, slice_index_or, filter}
use Rattle.std.specs.List.{All, list_all, flat_map, range_with_len}
use Rattle.std.proofs.lemmas.Bool.{and_parts, and_from}
use Rattle.std.proofs.lemmas.List.Elements.{All-nil, All-cons, All-head, All-tail}
use Rattle.std.proofs.lemmas.List.Folds.{list_all-append}
use Rattle.std.proofs.lemmas.List.Sums.{sum_by-cons}
use Rattle.hmc_packet.specs.Packet.{PacketFields}
use Rattle.hmc_ends.specs.End.{EndFields, IsQuiet}
use Rattle.hmc_kept.specs.Quiet.{is_quiet_end}
use Rattle.hmc_journal.proofs.Packets.{nothing-front}
use Rattle.hmc_codes.specs.Link.{LinkFields}
use Rattle.hmc_codes.specs.Numbers.{upto}
use Rattle.hmc_send.specs.LinkEntries.{LinkEntry, takes, accepted_packets}
use Rattle.hmc_send.specs.LinkSenders.{tokens, queue_in}
use Rattle.hmc_send.specs.Places.{is_token}
use Rattle.hmc_send.specs.declared.toward.Toward.{Toward}
use Rattle.hmc_send.specs.declared.toward.Toward.TheVariants.{Forth, Back}
use Rattle.hmc_journal.specs.Counts.{token_counts}
use Rattle.hmc_entries.specs.declared.entry.Entry.{Entry}
use Rattle.hmc_journal.specs.Drained.{IsDrained, direction_queues}
use Rattle.hmc_journal.specs.Links.{toward, entries_on, sizes_on}
use Rattle.hmc_journal.specs.Queues.{QueueId, landing_buffer, contents}
use Rattle.hmc_journal.specs.Queues.QueueId.{Output}
use Rattle.hmc_journal.specs.Setup.{Topology, Setup}
use Rattle.hmc_journal.specs.StepView.{view_of}
use Rattle.hmc_kept.specs.Shown.{ShowsDirection}
use Rattle.hmc_laws.proofs.DrainedTest.{empties}

pub all_of : {X : Type 0} (P : X → Type 0) (test : X → Bool) → ((x : X) → test x ≡ true → P x) → (list : List X) → list_all test list ≡ true → All P list
all_of P test gives [] is = All-nil P
all_of P test gives (x ∷ list) is =
    let parts = and_parts (test x) (list_all test list) is in
    All-cons P x list (gives x parts.0) (all_of P test gives list parts.1)

pub test_of : {X : Type 0} (P : X → Type 0) (test : X → Bool) → ((x : X) → P x → test x ≡ true) → (list : List X) → All P list → list_all test list ≡ true
test_of P test gives [] all = refl
test_of P test gives (x ∷ list) all = and_from (test x) (list_all test list) (gives x (All-head P x list all)) (test_of P test gives list (All-tail P x list all))

pub no_front_test : (packets : List PacketFields) → packets ≡ [] → is_none (slice_get packets 0) ≡ true
no_front_test packets is = ap (λ (l : List PacketFields). is_none (slice_get l 0)) is

pub end_of : (e : EndFields) → is_quiet_end e ≡ true → IsQuiet e
end_of e is =
    let parts = and_parts (is_none (slice_get e.queue 0) && (e.transit == 0)) (is_none (slice_get e.buffer 0)) is in
    let more = and_parts (is_none (slice_get e.queue 0)) (e.transit == 0) parts.0 in
    record { queue = nothing-front e.queue more.0; transit = eqb-true e.transit 0 more.1; buffer = nothing-front e.buffer parts.1 }

pub end_test : (e : EndFields) → IsQuiet e → is_quiet_end e ≡ true
end_test e is = and_from _ _ (and_from _ _ (no_front_test e.queue is.queue) (eq-eqb e.transit 0 is.transit)) (no_front_test e.buffer is.buffer)

pub sum_zero : {X : Type 0} (f : X → ℕ) (d : X) (xs : List X) → ((i : ℕ) → f (slice_index_or xs i d) ≡ 0) → sum_by f xs ≡ 0
sum_zero f d [] none = refl
sum_zero f d (x ∷ xs) none = omega (arith, sum_by-cons f x xs, none 0, sum_zero f d xs (λ i. none (suc i)))

pub zero_sum : {X : Type 0} (f : X → ℕ) (d : X) (xs : List X) (i : ℕ) → f d ≡ 0 → sum_by f xs ≡ 0 → f (slice_index_or xs i d) ≡ 0
zero_sum f d [] i default none = default
zero_sum f d (x ∷ xs) zero default none = omega (arith, sum_by-cons f x xs)
zero_sum f d (x ∷ xs) (suc i) default none = zero_sum f d xs i default (omega (arith, sum_by-cons f x xs))

pub length_none : {X : Type 0} (xs : List X) → length xs ≡ 0 → xs ≡ []
length_none [] none = refl
length_none (x ∷ xs) none = absurd (omega arith)

-- the queue, the buffer and the transit of a direction by its link's entries
pub record IsClear (link : LinkFields) (way : Toward) (past : List LinkEntry) : Type 0 where
  pub queue : queue_in link way past ≡ []
  pub buffer : drop (takes way past) (filter is_token (accepted_packets link.profile way past)) ≡ []
  pub transit : (tokens link way past).transit ≡ 0

pub empty_test : (topology : Topology) (past : List Entry) (queue : QueueId) → contents topology past queue ≡ [] → empties topology past queue ≡ true
empty_test topology past queue none = eq-eqb (length (contents topology past queue)) 0 (ap length none)

pub all_range : (p : ℕ → Bool) (a n : ℕ) → ((k : ℕ) → k < a + n → p k ≡ true) → list_all p (range_with_len a n) ≡ true
all_range p a zero all = refl
all_range p a (suc n) all = rw (all a (omega arith)) (all_range p (a + 1) n (λ k less. all k (omega arith)))

pub all_upto : (p : ℕ → Bool) (n : ℕ) → ((k : ℕ) → k < n → p k ≡ true) → list_all p (upto n) ≡ true
all_upto p n all = all_range p 0 n (λ k less. all k (omega arith))

pub flat_range : {X : Type 0} (p : X → Bool) (f : ℕ → List X) (a n : ℕ) → ((k : ℕ) → k < a + n → list_all p (f k) ≡ true) → list_all p (flat_map f (range_with_len a n)) ≡ true
flat_range p f a zero all = refl
flat_range p f a (suc n) all =
    list_all-append p (f a) (flat_map f (range_with_len (a + 1) n)) ∙ and_from (list_all p (f a)) (list_all p (flat_map f (range_with_len (a + 1) n))) (all a (omega arith)) (flat_range p f (a + 1) n (λ k less. all k (omega arith)))

pub flat_upto : {X : Type 0} (p : X → Bool) (f : ℕ → List X) (n : ℕ) → ((k : ℕ) → k < n → list_all p (f k) ≡ true) → list_all p (flat_map f (upto n)) ≡ true
flat_upto p f n all = flat_range p f 0 n (λ k less. all k (omega arith))

-- what holds of each element holds of the one at a place
pub element : {X : Type 0} (P : X → Type 0) (xs : List X) (k : ℕ) (d : X) → All P xs → k < length xs → P (slice_index_or xs k d)
element P xs k d all there = all k d there

pub queues_test : (setup : Setup) (past : List Entry) (direction : ℕ) → ShowsDirection setup.topology (view_of setup past) direction → IsClear (sizes_on setup.topology direction) (toward direction) (entries_on setup.topology direction past)
    → list_all (empties setup.topology past) (direction_queues setup.topology direction) ≡ true
unfolding view_of
queues_test setup past direction shows clear =
    let p = empties setup.topology past in
    and_from (p (Output direction)) _ (empty_test setup.topology past (Output direction) (shows.output ∙ clear.queue))
    (and_from (p (landing_buffer setup.topology direction)) true (empty_test setup.topology past (landing_buffer setup.topology direction) (shows.buffer ∙ clear.buffer)) refl)

pub transit_test : (setup : Setup) (past : List Entry) (direction : ℕ) → IsClear (sizes_on setup.topology direction) (toward direction) (entries_on setup.topology direction past) → ((token_counts setup.topology past direction).transit == 0) ≡ true
unfolding token_counts
transit_test setup past direction clear = eq-eqb _ 0 clear.transit

pub drained_direction : (setup : Setup) (past : List Entry) (direction : ℕ) → ShowsDirection setup.topology (view_of setup past) direction → IsDrained setup.topology past → IsClear (sizes_on setup.topology direction) (toward direction) (entries_on setup.topology direction past)
unfolding view_of token_counts
drained_direction setup past direction shows drained = record {
  queue = sym shows.output ∙ drained.queues (Output direction);
  buffer = sym shows.buffer ∙ drained.queues (landing_buffer setup.topology direction);
  transit = drained.transit direction;
}

pub even_half : (link : ℕ) → (2 * link) / 2 ≡ link
even_half link = omega arith

pub odd_half : (link : ℕ) → (2 * link + 1) / 2 ≡ link
odd_half link = omega arith

pub even_way : (link : ℕ) → toward (2 * link) ≡ Forth
even_way link = let even : (2 * link) % 2 ≡ 0 = omega arith in ap (λ (n : ℕ). if n == 0 then Forth else Back) even

pub odd_way : (link : ℕ) → toward (2 * link + 1) ≡ Back
odd_way link = let odd : (2 * link + 1) % 2 ≡ 1 = omega arith in ap (λ (n : ℕ). if n == 0 then Forth else Back) odd

pub same_test : (result test : Bool) → (IsTrue result → test ≡ true) → (test ≡ true → IsTrue result) → result ≡ test
same_test true test forth back = sym (forth refl)
same_test false false forth back = refl
same_test false true forth back = back refl
