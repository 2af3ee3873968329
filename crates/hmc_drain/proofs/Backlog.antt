-- A settled sender that is behind gains a flit in each round.
use Rattle.std.proofs.Common.{◌≡◌, ℕ, zero, suc, ◌+◌, ◌-◌, ◌%◌, ◌<◌, ◌≤◌, ◌==◌, max, nat_lt, Bool, true, false, not, ◌&&◌, if◌then◌else◌, length, ◌⊎◌, inl, inr, refl, sym, ◌∙◌, ap, subst, arith}
use Rattle.std.proofs.lemmas.Grind.{common_steps}
use Rattle.hmc_numbers.specs.Weights.{flits_to, HaveValidSizes}
use Rattle.hmc_numbers.specs.Direction.{Direction, begun, position}
use Rattle.hmc_link_state.specs.Choice.{Sight, Choice, choice, begun_choice, free_choice, packet_choice, new_choice, is_training, is_abort}
use Rattle.hmc_link_state.specs.Choice.Choice.{train, next, clear as clears, start, again}
use Rattle.hmc_link_state.specs.State.{Setup, Side, wire, IsSettledSide, backlog}
use Rattle.hmc_link_state.specs.Round.{sight, sent, sent_by}
use Rattle.hmc_link_state.proofs.Calm.{not_zero, whole_mode}
use Rattle.hmc_numbers.proofs.Sums.{upto-up, Size, size-valid}
use Rattle.hmc_numbers.specs.May.{IsGood}

else_is : (b : Bool) (c d e : Choice) → b ≡ false → d ≡ e → (if b then c else d) ≡ e
else_is b c d e q k = subst (λ x. (if x then c else d) ≡ e) (sym q) k

then_is : (b : Bool) (c d : Choice) → b ≡ true → (if b then c else d) ≡ c
then_is b c d q = subst (λ x. (if x then c else d) ≡ c) (sym q) refl

some : (n : ℕ) → 1 ≤ n → not (n == 0) ≡ true
some n h = grind (arith, common_steps)

less : (a b : ℕ) → a < b → nat_lt a b ≡ true
less a b h = grind (arith, common_steps)

-- what a settled sender that is behind sends
pub sends_next : (c : Setup) (own other : Side) → IsSettledSide own → IsGood (wire other).far →
    1 ≤ (wire own).left → choice (sight c own other) ≡ next
sends_next c own other h g l =
    let s : Sight = sight c own other in
    else_is (is_training s.mode) train (begun_choice s) next
    (ap is_training (whole_mode (wire other).far g))
    (then_is (not ((wire own).left == 0)) next (if not ((wire own).clears % 32 == 0) then clears
    else free_choice s) (some (wire own).left l))

pub sends_again : (c : Setup) (own other : Side) → IsSettledSide own → IsGood (wire other).far →
    (wire own).left ≡ 0 → position (wire own) < begun (wire own) →
    choice (sight c own other) ≡ again
sends_again c own other h g l p =
    let s : Sight = sight c own other in
    let m = whole_mode (wire other).far g in
    else_is (is_training s.mode) train (begun_choice s) again (ap is_training m)
    (else_is (not ((wire own).left == 0)) next (if not ((wire own).clears % 32 == 0) then clears
    else free_choice s) again (not_zero (wire own).left l)
    (else_is (not ((wire own).clears % 32 == 0)) clears (free_choice s) again
    (not_zero ((wire own).clears % 32) h.clears)
    (else_is (not (own.starts % 32 == 0)) start (if s.go_back then clears
    else (if is_abort s.mode && s.is_long_ago then start else packet_choice s)) again
    (not_zero (own.starts % 32) h.starts)
    (else_is own.go_back clears (if is_abort s.mode && s.is_long_ago then start
    else packet_choice s) again h.back
    (else_is (is_abort s.mode && s.is_long_ago) start (packet_choice s) again
    (ap (λ x. is_abort x && s.is_long_ago) m)
    (then_is (nat_lt s.position s.begun) again (new_choice s) (less s.position s.begun p)))))))

next_gains : (c : Setup) (own other : Side) → 1 ≤ (wire own).left →
    suc (backlog (sent_by c own other next)) ≤ backlog own
next_gains c own other l = omega (arith, l)

again_gains : (c : Setup) (own other : Side) → HaveValidSizes (wire own).first →
    (wire own).acked ≤ position (wire own) → (wire own).left ≡ 0 →
    position (wire own) < begun (wire own) →
    suc (backlog (sent_by c own other again)) ≤ backlog own
again_gains c own other fair a l p =
    let w : Direction = wire own in
    let n : ℕ = position w + 1 in
    let z : Size w.first n = size-valid w.first n fair (omega arith) (omega (arith, p)) in
    let q : flits_to w.first (n - 1) ≡ flits_to w.first (position w) =
    ap (flits_to w.first) (omega arith) in
    let r : flits_to w.first (max w.acked n) ≡ flits_to w.first n =
    ap (flits_to w.first) (omega arith) in
    let u : flits_to w.first n ≤ flits_to w.first (begun w) =
    upto-up (λ x. x.flits) w.first n (begun w) (omega (arith, p)) in
    omega (arith, z.least, z.sum, q, r, u, l)

pub sent_if_room : (c : Setup) (own other : Side) → suc (length (wire own).line) ≤ c.line →
    sent c own other ≡ sent_by c own other (choice (sight c own other))
sent_if_room c own other h =
    ap (λ b. if b then sent_by c own other (choice (sight c own other)) else own)
    (less (length (wire own).line) c.line h)

pub zero_or_more : (n : ℕ) → (n ≡ 0) ⊎ (1 ≤ n)
zero_or_more zero = inl refl
zero_or_more (suc n) = inr (omega arith)

-- a send of a settled sender that is behind
pub sent_gains : (c : Setup) (own other : Side) → IsSettledSide own → IsGood (wire other).far →
    suc (length (wire own).line) ≤ c.line → HaveValidSizes (wire own).first →
    position (wire own) < begun (wire own) → suc (backlog (sent c own other)) ≤ backlog own
sent_gains c own other h g n fair p = by_left (zero_or_more (wire own).left)
  where
    by_left : ((wire own).left ≡ 0) ⊎ (1 ≤ (wire own).left) →
        suc (backlog (sent c own other)) ≤ backlog own
    by_left (inl l) =
        subst (λ x. suc (backlog x) ≤ backlog own)
        (sym (sent_if_room c own other n
        ∙ ap (sent_by c own other) (sends_again c own other h g l p)))
        (again_gains c own other fair (omega arith) l p)
    by_left (inr l) =
        subst (λ x. suc (backlog x) ≤ backlog own)
        (sym (sent_if_room c own other n ∙ ap (sent_by c own other) (sends_next c own other h g l)))
        (next_gains c own other l)
