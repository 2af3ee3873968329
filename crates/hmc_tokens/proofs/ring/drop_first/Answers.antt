use Rattle.std.proofs.Common.{◌≡◌, ◌∙◌, ◌-◌, length, drop, ℕ, ap, arith}
use Rattle.hmc_tokens.proofs.ring.drop_first.Goals as goal

pub returns-clause-items : goal.returns-clause-items
returns-clause-items g c =
    let items = c.args.ring.now.items in
    let one : length items - (c.len-len.result - 1) ≡ 1 = omega (arith, c.len-len.ensures.len) in
    (λ i. (c.truncate_front.ensures i).items) ∙ ap (λ (n : ℕ). drop n items) one
