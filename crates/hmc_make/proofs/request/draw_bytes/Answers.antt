use Rattle.std.proofs.Common.{◌∙◌, ℕ, List, ◌++◌, length, ap, arith, length-append}
use Rattle.hmc_make.proofs.RequestLemmas.{bytes-more, bytes-end, after-more, after-end}
use Rattle.hmc_make.proofs.request.draw_bytes.Goals as goal

pub draws-preserved : goal.draws-preserved
draws-preserved c =
    let n = c.args.number in
    let i = c.draws._draw in
    let state = c.draws.draws.state in
    let now = c.draw.new.self.state in
    let old = c.draws.bytes.items in
    record {
      bytes = bytes-more n i state now c.draw.result old c.append.new.bytes.items _ c.draws-test.true (c.append.ensures ∙ ap (λ (l : List ℕ). old ++ l) c.to_le_bytes.ensures) c.draw.ensures.drawn c.draw.ensures.state c.draws.invariant.bytes;
      state = after-more n i state now _ c.draws-test.true c.draw.ensures.state c.draws.invariant.state;
      len = omega (arith, ap length c.append.ensures, length-append old c.to_le_bytes.result, ap length c.to_le_bytes.ensures, c.draws.invariant.len);
    }

pub returns-clause-bytes : goal.returns-clause-bytes
returns-clause-bytes c = bytes-end c.args.number c.draws._draw c.draws.draws.state c.draws.bytes.items _ c.draws-test.false c.draws.invariant.bytes

pub returns-clause-state : goal.returns-clause-state
returns-clause-state c = after-end c.args.number c.draws._draw c.draws.draws.state _ c.draws-test.false c.draws.invariant.state
