-- Each bound of the laws is exact: lists of events that may all come, after which a law fails for
-- a bound that is larger. They are of profile One: pointers are modulo 512, and the window is 256.
-- Nothing cites this file.
use Rattle.std.proofs.Common.{◌≡◌, ℕ, zero, suc, ◌+◌, ◌-◌, ◌%◌, ◌≤◌, List, [], ◌∷◌, ◌++◌, Bool, true, false, nat_eq, nat_lt, refl, sym, subst, ⊎_elim, arith, lit≤}
use Rattle.std.proofs.lemmas.Bool.{eqb-true, eqb-false, ltb-false}
use Rattle.std.specs.Prelude.{replicate}
use Rattle.hmc_codes.specs.declared.profile.Profile.TheVariants.{One}
use Rattle.hmc_numbers.specs.Weights.{flits_to, size}
use Rattle.hmc_numbers.specs.Pointers.{pointer}
use Rattle.hmc_numbers.specs.Direction.{Item, Direction, front_or}
use Rattle.hmc_numbers.specs.Direction.Item.{clear, part}
use Rattle.hmc_numbers.specs.Events.{Event, after}
use Rattle.hmc_numbers.specs.Events.Reading.{plain, as_clear}
use Rattle.hmc_numbers.specs.Events.Event.{drops, gathers, accepts, unlocks}
use Rattle.hmc_numbers.specs.May.{CanReadAs, MayAll}
use Rattle.hmc_numbers.specs.DirectionLaws.{DirectionLaws, IsIdentified}
use Rattle.hmc_numbers.specs.PairLaws.{Points}
use Rattle.hmc_numbers.proofs.Checked.{Walk, walked, onto, reached_is, all_might}
use Rattle.hmc_numbers.proofs.Worked.{sends_new, sends_again, lands, opened, clears_sent, clears_pass}

-- Parts of lists

-- m packets of n flits are sent, and are accepted
abbrev sent_times : (m n : ℕ) → List Event
sent_times zero n = []
sent_times (suc m) n = sends_new n ++ sent_times m n

abbrev accepted_times : (m n : ℕ) → List Event
accepted_times zero n = []
accepted_times (suc m) n = lands n accepts ++ accepted_times m n

-- the sender goes back to its first packet, while the receiver is in Good
abbrev goes_back : List Event
goes_back = clears_sent ++ clears_pass

-- a list of events that might all come, after which the laws fail
record Breaks (retry : ℕ) (es : List Event) : Type 0 where
  pub might : MayAll retry (onto es [])
  pub fails : DirectionLaws One retry (after (onto es [])) → ⊥

breaks_by : (retry : ℕ) (es : List Event) → (walked retry es).might ≡ true → (DirectionLaws One retry (walked retry es).reached → ⊥) → Breaks retry es
breaks_by retry es q f = record { might = all_might retry es q; fails = λ laws. f (subst (λ w. DirectionLaws One retry w) (sym (reached_is retry es)) laws) }

-- how far the FRP of packet n is behind what is accepted
abbrev distance : Direction → ℕ → ℕ
distance w n = (flits_to w.first w.accepted % 512 + (512 - pointer One w.first n)) % 512

-- A retry buffer of 512 flits: two numbers of packets have one return pointer.
-- 32 packets of 16 flits are sent, and none is acknowledged: the pointer 0 is that of none of them, and of all.

abbrev sent_512 : List Event
sent_512 = opened ++ sent_times 32 16

sent_512-breaks : Breaks 512 sent_512
sent_512-breaks = breaks_by 512 sent_512 refl (λ laws. none_is_all (laws.apart 0 32 (lit≤ tt) (lit≤ tt) (lit≤ tt) (lit≤ tt) refl))
  where
    none_is_all : ◌≡◌ {A = ℕ} 0 32 → ⊥
    none_is_all q = omega arith

-- A retry buffer of 512 flits: a repeat passes the test for the next packet.
-- The same packets are accepted, and the sender goes back, since no acknowledgement came. Packet 1 has the FRP 16 and the
-- SEQ 1, and packet 33 would have these too.

abbrev repeated_512 : List Event
repeated_512 = sent_512 ++ accepted_times 32 16 ++ goes_back ++ sends_again 16 ++ replicate 15 gathers

passes_next : (w : Direction) (n : ℕ) → nat_eq n (w.accepted + 1) ≡ false →
    nat_eq (pointer One w.first n) ((flits_to w.first w.accepted + size w.first n) % 512) ≡ true → nat_eq (n % 8) ((w.accepted + 1) % 8) ≡ true → IsIdentified One w n → ⊥
passes_next w n a b d =
    ⊎_elim (λ x. eqb-false n (w.accepted + 1) a x.0)
    (λ x. x.1 (eqb-true (pointer One w.first n) ((flits_to w.first w.accepted + size w.first n) % 512) b, eqb-true (n % 8) ((w.accepted + 1) % 8) d))

repeated_512-breaks : Breaks 512 repeated_512
repeated_512-breaks = breaks_by 512 repeated_512 refl (λ laws. passes_next (walked 512 repeated_512).reached 1 refl refl refl (laws.identified 1 15 [] tt refl))

-- A retry buffer of 257 flits: a repeat passes neither test.
-- 17 packets of 257 flits are accepted, and the sender goes back. The FRP of packet 1 is 256 behind.

abbrev repeated_257 : List Event
repeated_257 =
    opened ++ sends_new 1 ++ sent_times 15 17 ++ sends_new 1 ++ lands 1 accepts ++
    accepted_times 15 17 ++ lands 1 accepts ++ goes_back ++ sends_again 1

passes_neither : (w : Direction) (n : ℕ) → nat_eq n (w.accepted + 1) ≡ false → nat_lt (distance w n) 256 ≡ false → IsIdentified One w n → ⊥
passes_neither w n a b =
    ⊎_elim (λ x. eqb-false n (w.accepted + 1) a x.0) (λ x. let l = ltb-false (distance w n) 256 b in omega (arith, l, x.2))

repeated_257-breaks : Breaks 257 repeated_257
repeated_257-breaks = breaks_by 257 repeated_257 refl (λ laws. passes_neither (walked 257 repeated_257).reached 1 refl refl (laws.identified 1 0 [] tt refl))

-- A retry buffer of 256 flits, as large as the laws allow: the FRP of a repeat can be 255 behind, so that a window of 255
-- would be too narrow.

abbrev repeated_256 : List Event
repeated_256 =
    opened ++ sends_new 1 ++ sent_times 15 17 ++ lands 1 accepts ++ accepted_times 15 17 ++ goes_back ++
    sends_again 1

-- the list might come, packet 1 lands next, and it is so far behind
abbrev repeat_of : Walk → Bool × List Item × ℕ
repeat_of x = (x.might, x.reached.line, distance x.reached 1)

repeated_256-repeat_of : repeat_of (walked 256 repeated_256) ≡ (true, part 1 0 0 ∷ [], 255)
repeated_256-repeat_of = refl

-- A run of 16: the data of a packet can fill it.
-- A packet of 17 flits lands in Abort, and each of its flits after the first reads as a Clear. After 15 of them the 16th
-- flit of the run is no Clear either.

abbrev data_as_clears : List Event
data_as_clears = opened ++ sends_new 17 ++ unlocks ∷ drops plain ∷ replicate 15 (drops as_clear)

data_as_clears-might : (walked 34 (data_as_clears ++ drops as_clear ∷ [])).might ≡ true
data_as_clears-might = refl

no_part_clear : (n k more : ℕ) → part n k more ≡ clear → ⊥
no_part_clear n k more q = cc

data_as_clears-breaks :
    ((x : Item) (xs : List Item) → (walked 34 data_as_clears).reached.line ≡ x ∷ xs → CanReadAs x as_clear → 15 ≤ (walked 34 data_as_clears).reached.clear_run → x ≡ clear) → ⊥
data_as_clears-breaks h = no_part_clear 1 16 0 (h (part 1 16 0) [] refl (lit≤ tt) (lit≤ tt))

-- A single flit that reads as an IRTRY: it can be data, which has no return pointer.
-- After the header of the same packet its second flit lands, and 15 more are to come.

abbrev data_as_clear : List Event
data_as_clear = opened ++ sends_new 17 ++ unlocks ∷ drops plain ∷ []

data_as_clear-might : (walked 34 (data_as_clear ++ drops as_clear ∷ [])).might ≡ true
data_as_clear-might = refl

data_as_clear-front : front_or clear (walked 34 data_as_clear).reached.line ≡ part 1 1 15
data_as_clear-front = refl

data_as_clear-Points : Points (front_or clear (walked 34 data_as_clear).reached.line) → ⊥
data_as_clear-Points p = p
