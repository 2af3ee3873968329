-- Definitions computed: the shipped units and their bench, also where nothing works.
use Rattle.std.proofs.Common.{◌≡◌, ℕ, List, [], ◌∷◌, ◌++◌, true, false, refl, Option, Some, None}
use Rattle.std.specs.Prelude.{map, replicate}
use Rattle.hmc_codes.specs.declared.answer.Acted.{Acted}
use Rattle.hmc_units.specs.Unit.{UnitFields, acted_by, worked_unit}
use Rattle.hmc_units.specs.Bench.{bench_acted, worked_slots, is_live, retired_slots}
use Rattle.hmc_units.specs.Shipped.{reverse_unit, stamp_unit}

-- the bytes 0 to 15, and from 15 down
abbrev up : List ℕ
up = 0 ∷ 1 ∷ 2 ∷ 3 ∷ 4 ∷ 5 ∷ 6 ∷ 7 ∷ 8 ∷ 9 ∷ 10 ∷ 11 ∷ 12 ∷ 13 ∷ 14 ∷ 15 ∷ []

abbrev down : List ℕ
down = 15 ∷ 14 ∷ 13 ∷ 12 ∷ 11 ∷ 10 ∷ 9 ∷ 8 ∷ 7 ∷ 6 ∷ 5 ∷ 4 ∷ 3 ∷ 2 ∷ 1 ∷ 0 ∷ []

-- a block whose first half is a small number, and whose last is this byte
abbrev numbered : ℕ → ℕ → List ℕ
numbered n byte = n ∷ replicate 7 0 ++ replicate 8 byte

abbrev answering : (block answer : List ℕ) → Acted
answering block answer = record { block = block; answer = answer; flag = false }

-- the new block is the old one reversed, and the old one is the answer
acted_by-reverse : acted_by (reverse_unit 3 5) up (replicate 16 9) ≡ answering down up
unfolding reverse_unit
acted_by-reverse = refl

worked_unit-reverse : worked_unit (reverse_unit 3 5) up (replicate 16 9) ≡ reverse_unit 3 5
unfolding reverse_unit
worked_unit-reverse = refl

-- the first stamp is 1, the next one 2
acted_by-stamp : acted_by (stamp_unit 0 1 0) (replicate 16 0) (replicate 16 0x11) ≡ answering (numbered 1 0x11) (replicate 16 0)
unfolding stamp_unit
acted_by-stamp = refl

acted_by-stamp_again : acted_by (worked_unit (stamp_unit 0 1 0) up up) up (replicate 16 0x11) ≡ answering (numbered 2 0x11) up
unfolding stamp_unit
acted_by-stamp_again = refl

-- the operand's first half is stamped, and its last isn't
acted_by-stamp_half : (acted_by (stamp_unit 0 1 258) up up).block ≡ 3 ∷ 1 ∷ replicate 6 0 ++ 0 ∷ 1 ∷ 2 ∷ 3 ∷ 4 ∷ 5 ∷ 6 ∷ 7 ∷ []
unfolding stamp_unit
acted_by-stamp_half = refl

-- the number wraps
acted_by-stamp_wraps : (acted_by (stamp_unit 0 1 0xffffffffffffffff) up up).block ≡ replicate 8 0 ++ 0 ∷ 1 ∷ 2 ∷ 3 ∷ 4 ∷ 5 ∷ 6 ∷ 7 ∷ []
unfolding stamp_unit
acted_by-stamp_wraps = refl

-- a bench of both, the second with its number
abbrev both : ℕ → List (Option UnitFields)
both count = Some (reverse_unit 0 0) ∷ Some (stamp_unit 0 1 count) ∷ []

bench_acted-both : bench_acted (both 6) 0 1 up (replicate 16 0x11) ≡ Some (answering (numbered 7 0x11) up)
unfolding reverse_unit stamp_unit
bench_acted-both = refl

-- only the unit of the cube and the code works
worked_slots-both : worked_slots (both 6) 0 1 up up ≡ both 7
unfolding reverse_unit stamp_unit
worked_slots-both = refl

worked_slots-other : worked_slots (both 6) 0 0 up up ≡ both 6
unfolding reverse_unit stamp_unit
worked_slots-other = refl

-- none of another cube, and none of another code
bench_acted-none : bench_acted (both 6) 1 1 up up ∷ bench_acted (both 6) 0 2 up up ∷ [] ≡ None ∷ None ∷ []
unfolding reverse_unit stamp_unit
bench_acted-none = refl

worked_slots-none : worked_slots (both 6) 1 1 up up ≡ both 6
unfolding reverse_unit stamp_unit
worked_slots-none = refl

-- a retired slot is empty, the others stay, and its unit works no more
retired_slots-both : retired_slots (both 6) 1 ≡ Some (reverse_unit 0 0) ∷ None ∷ []
retired_slots-both = refl

bench_acted-retired : bench_acted (retired_slots (both 6) 1) 0 1 up up ≡ None
unfolding reverse_unit stamp_unit
bench_acted-retired = refl

is_live-both : map (is_live (both 6)) (0 ∷ 1 ∷ 2 ∷ 7 ∷ []) ≡ true ∷ true ∷ false ∷ false ∷ []
is_live-both = refl

is_live-retired : map (is_live (retired_slots (both 6) 1)) (0 ∷ 1 ∷ []) ≡ true ∷ false ∷ []
is_live-retired = refl

-- a slot that has no unit: nothing changes
retired_slots-none : retired_slots (both 6) 2 ≡ both 6
retired_slots-none = refl
