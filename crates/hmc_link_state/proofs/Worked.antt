-- The definitions computed on two links: the numbers are those of the model in Python.
use Rattle.std.specs.Prelude.{◌≡◌, min, ℕ, zero, suc, List, [], ◌∷◌, length, true, false}
use Rattle.std.proofs.Common.{refl}
use Rattle.hmc_numbers.specs.Direction.{Filler, Item, begun}
use Rattle.hmc_numbers.specs.Direction.Item.{filler, clear}
use Rattle.hmc_numbers.specs.Events.{Reading}
use Rattle.hmc_numbers.specs.Events.Reading.{plain, as_start, as_clear}
use Rattle.hmc_numbers.specs.Pair.{half_opening}
use Rattle.hmc_link_state.specs.State.{Setup, Side, State, wire}
use Rattle.hmc_link_state.specs.Round.{link_round, sent_both, landed_forth, front}

look_of : Item → Reading
look_of (filler Filler.start) = as_start
look_of clear = as_clear
look_of x = plain

side : List ℕ → Side
side q =
    record {
      half = half_opening;
      starts = 0;
      others = 64;
      go_back = false;
      is_open = false;
      ack_sent = 0;
      steady = 0;
      missing = 0;
      queue = q;
      buffer = [];
    }

one : Setup → State → State
one c s =
    link_round c (look_of (front (sent_both c s).forth))
    (look_of (front (landed_forth (look_of (front (sent_both c s).forth)) (sent_both c s)).back)) s

many : Setup → ℕ → State → State
many c zero s = s
many c (suc n) s = many c n (one c s)

opening : List ℕ → List ℕ → State
opening p q =
    record { forth = side p; back = side q; vaults = 0; banks = 0; answers = 0; can_move = true }

forth_of : State → Side
forth_of s = s.forth

back_of : State → Side
back_of s = s.back

numbers : Side → List ℕ
numbers x =
    begun (wire x) ∷ (wire x).accepted ∷ (wire x).acked ∷ (wire x).last ∷ (wire x).left
    ∷ (wire x).clears ∷ x.starts ∷ min 64 x.others ∷ x.ack_sent ∷ length (wire x).line
    ∷ length x.queue ∷ length x.buffer ∷ []

case1 : numbers
    (forth_of
    (many (record { line = 3; tokens = 20; retry = 17 }) 60
    (opening (3 ∷ 1 ∷ 17 ∷ []) (17 ∷ 2 ∷ [])))) ≡ 0 ∷ 0 ∷ 0 ∷ 0 ∷ 0 ∷ 20 ∷ 32 ∷ 20 ∷ 0 ∷ 0 ∷ 3 ∷ 0
    ∷ []
unfolding many one opening side numbers look_of forth_of back_of
case1 = refl

case2 : numbers
    (back_of
    (many (record { line = 3; tokens = 20; retry = 17 }) 60
    (opening (3 ∷ 1 ∷ 17 ∷ []) (17 ∷ 2 ∷ [])))) ≡ 0 ∷ 0 ∷ 0 ∷ 0 ∷ 0 ∷ 20 ∷ 32 ∷ 20 ∷ 0 ∷ 0 ∷ 2 ∷ 0
    ∷ []
unfolding many one opening side numbers look_of forth_of back_of
case2 = refl

case3 : numbers
    (forth_of
    (many (record { line = 3; tokens = 20; retry = 17 }) 150
    (opening (3 ∷ 1 ∷ 17 ∷ []) (17 ∷ 2 ∷ [])))) ≡ 3 ∷ 3 ∷ 3 ∷ 3 ∷ 0 ∷ 32 ∷ 32 ∷ 64 ∷ 4 ∷ 0 ∷ 1 ∷ 2
    ∷ []
unfolding many one opening side numbers look_of forth_of back_of
case3 = refl

case4 : numbers
    (back_of
    (many (record { line = 3; tokens = 20; retry = 17 }) 150
    (opening (3 ∷ 1 ∷ 17 ∷ []) (17 ∷ 2 ∷ [])))) ≡ 4 ∷ 4 ∷ 4 ∷ 4 ∷ 0 ∷ 32 ∷ 32 ∷ 64 ∷ 3 ∷ 0 ∷ 0 ∷ 2
    ∷ []
unfolding many one opening side numbers look_of forth_of back_of
case4 = refl

case5 : numbers
    (forth_of
    (many (record { line = 5; tokens = 17; retry = 18 }) 260
    (opening (17 ∷ 17 ∷ 1 ∷ []) (17 ∷ [])))) ≡ 3 ∷ 3 ∷ 3 ∷ 3 ∷ 0 ∷ 32 ∷ 32 ∷ 64 ∷ 3 ∷ 0 ∷ 2 ∷ 1 ∷ []
unfolding many one opening side numbers look_of forth_of back_of
case5 = refl

case6 : numbers
    (back_of
    (many (record { line = 5; tokens = 17; retry = 18 }) 260
    (opening (17 ∷ 17 ∷ 1 ∷ []) (17 ∷ [])))) ≡ 3 ∷ 3 ∷ 3 ∷ 3 ∷ 0 ∷ 32 ∷ 32 ∷ 64 ∷ 3 ∷ 0 ∷ 0 ∷ 1 ∷ []
unfolding many one opening side numbers look_of forth_of back_of
case6 = refl
