-- Nothing under way: every queue and buffer is empty, and no token is in transit.
use Rattle.std.proofs.Common.{◌≡◌, ℕ, zero, suc, ◌+◌, ◌≤◌, Bool, true, false, List, [], ◌∷◌, length, refl, ap, arith}
use Rattle.hmc_numbers.specs.Weights.{Weight, upto}
use Rattle.hmc_numbers.specs.Direction.{begun}
use Rattle.hmc_numbers.specs.Tokens.{cost, if_token, transit_tokens}
use Rattle.hmc_numbers.proofs.Sums.{upto-none}
use Rattle.hmc_link_state.specs.State.{Setup, Side, State, wire, count_of, count_if, crossing, under_way, IsEmpty}
use Rattle.hmc_link_state.specs.Facts.{SideFacts, Facts}

free : (p : Weight) (b : Bool) → p.token ≡ b → count_of p ≡ 0 → cost p ≡ 0
free p true q h = absurd (let z : count_of p ≡ 1 = ap count_if q in omega (arith, z, h))
free p false q h = ap (λ b. if_token b p.flits) q

-- packets that are no requests or responses cost nothing
same_cost : (ps : List Weight) (a b : ℕ) → a ≤ b → upto count_of ps b ≤ upto count_of ps a →
    upto cost ps b ≡ upto cost ps a
same_cost [] a b l h = refl
same_cost (p ∷ ps) zero zero l h = refl
same_cost (p ∷ ps) (suc a) zero l h = absurd (omega (arith, l))
same_cost (p ∷ ps) zero (suc b) l h =
    let z = upto-none count_of ps in
    let y = upto-none cost ps in
    let c : count_of p ≡ 0 = omega (arith, h) in
    let f : cost p ≡ 0 = free p p.token refl c in
    let r : upto cost ps b ≡ upto cost ps 0 =
    same_cost ps 0 b (omega arith) (omega (arith, h, z)) in
    omega (arith, f, r, y)
same_cost (p ∷ ps) (suc a) (suc b) l h =
    ap (λ n. cost p + n) (same_cost ps a b (omega (arith, l)) (omega (arith, h)))

no_transit : (c : Setup) (x y : Side) → SideFacts c x y → crossing x ≡ 0 → transit_tokens x.half ≡ 0
no_transit c x y f h =
    let z =
    same_cost (wire x).first (wire x).accepted (begun (wire x)) f.joined.order.accepted
    (omega (arith, h)) in
    omega (arith, z)

pub none : (xs : List ℕ) → length xs ≡ 0 → xs ≡ []
none [] h = refl
none (x ∷ xs) h = absurd (omega (arith, h))

pub empty : (c : Setup) (s : State) → Facts c s → under_way s ≡ 0 → IsEmpty s
empty c s f h = record {
  requests = none s.forth.queue (omega (arith, h));
  received = none s.forth.buffer (omega (arith, h));
  vaults = omega (arith, h);
  banks = omega (arith, h);
  answers = omega (arith, h);
  replies = none s.back.queue (omega (arith, h));
  taken = none s.back.buffer (omega (arith, h));
  forth = no_transit c s.forth s.back f.forth (omega (arith, h));
  back = no_transit c s.back s.forth f.back (omega (arith, h));
}
