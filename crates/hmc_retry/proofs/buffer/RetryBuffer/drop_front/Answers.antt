-- The packets up to the one with the pointer are gone.
use Rattle.std.proofs.Common.{◌≡◌, ◌≤◌, ◌-◌, ◌∙◌, ℕ, Some, length, drop, ap, arith, subst, sym}
use Rattle.hmc_retry.specs.RetryBuffer.{RetryFields, after_acknowledge, packet_at}
use Rattle.hmc_retry.proofs.Kept.{kept_without}
use Rattle.hmc_retry.proofs.buffer.RetryBuffer.drop_front.Goals as goal

pub invariant_of-self : goal.invariant_of-self
invariant_of-self c =
    let there : c.args.count ≤ length c.self.inside.kept.items =
    subst (λ (b : RetryFields). c.args.count ≤ length b.kept) (sym c.self.view_is)
    c.requires.there in
    let left : length c.self.inside.kept.items - (c.len.result - c.args.count) ≡ c.args.count =
    omega (arith, c.len.ensures.len) in
    kept_without _ c.args.count c.args.rrp c.self.inside.used c.self.inside.kept.capacity
    c.modulus-modulus.result c.truncate_front.new.self.items c.saturating_sub-self-inside.result
    c.truncate_front.new.self.capacity c.self.invariant c.requires.some there
    (subst (λ (b : RetryFields). (packet_at b.kept (c.args.count - 1)).frp ≡ c.args.rrp)
    (sym c.self.view_is) c.requires.pointer)
    c.modulus-modulus.ensures
    (ap (λ b. b.items) c.truncate_front.ensures
    ∙ ap (λ (n : ℕ). drop n c.self.inside.kept.items) left)
    c.saturating_sub-self-inside.ensures
    (ap (λ b. b.capacity) c.truncate_front.ensures)

pub returns : goal.returns
returns c =
    let inside = c.self.inside in
    let before : RetryFields = record {
      flits = inside.flits;
      profile = inside.profile;
      kept = inside.kept.items;
      base = inside.base;
      position = inside.position;
    } in
    let there : c.args.count ≤ length inside.kept.items =
    subst (λ (b : RetryFields). c.args.count ≤ length b.kept) (sym c.self.view_is)
    c.requires.there in
    let left : length inside.kept.items - (c.len.result - c.args.count) ≡ c.args.count =
    omega (arith, c.len.ensures.len) in
    let kept : c.truncate_front.new.self.items ≡ drop c.args.count inside.kept.items =
    ap (λ b. b.items) c.truncate_front.ensures
    ∙ ap (λ (n : ℕ). drop n inside.kept.items) left in
    (λ i. record before {
      kept = kept i;
      base = c.args.rrp;
      position = c.saturating_sub-self-inside.ensures i;
    })
    ∙ ap (after_acknowledge c.args.rrp (Some c.args.count)) c.self.view_is
