-- A direction as a first-in first-out list: the requests and responses that are begun and not yet
-- accepted, by their numbers. TRETs are not among them.
use Rattle.std.specs.Prelude.{ℕ, zero, suc, Bool, true, false, List, [], ◌∷◌, ◌++◌}
use Rattle.hmc_numbers.specs.Weights.{Weight}
use Rattle.hmc_numbers.specs.Direction.{Direction, begun}
use Rattle.hmc_numbers.specs.Events.{Event}
use Rattle.hmc_numbers.specs.Events.Event.{begins, begins_through, accepts}

-- a place of the list for packet n, where it is a request or a response
abbrev pub place : Bool → ℕ → List ℕ
place true n = n ∷ []
place false n = []

-- the packets are numbered above n, and the first a of them are accepted
abbrev pub places_above : ℕ → List Weight → (accepted : ℕ) → List ℕ
places_above n [] a = []
places_above n (p ∷ ps) (suc a) = places_above (suc n) ps a
places_above n (p ∷ ps) zero = place p.token (suc n) ++ places_above (suc n) ps zero

-- the list: what is begun and not accepted
abbrev pub places : Direction → List ℕ
places w = places_above 0 w.first w.accepted

-- whether the n-th packet is a request or a response
abbrev pub is_token : List Weight → ℕ → Bool
is_token [] n = false
is_token (p ∷ ps) zero = false
is_token (p ∷ ps) (suc zero) = p.token
is_token (p ∷ ps) (suc (suc n)) = is_token ps (suc n)

-- what an event adds at the end: the packet that it begins for the first time
abbrev pub put_by : Direction → Event → List ℕ
put_by w (begins s) = place s.token (suc (begun w))
put_by w (begins_through s) = place s.token (suc (begun w))
put_by w e = []

-- what an event takes from the front: the packet that is accepted
abbrev pub taken_by : Direction → Event → List ℕ
taken_by w accepts = place (is_token w.first (suc w.accepted)) (suc w.accepted)
taken_by w e = []
