use Rattle.std.proofs.Common.{◌≡◌, ◌∙◌, List, ℕ, [], ◌++◌, length, get_or, ap, sym, add-one, arith, length-append}
use Rattle.hmc_packet.proofs.FlitLemmas.{concat-take}
use Rattle.hmc_send.proofs.copy.joined.Goals as goal

pub flits-preserved : goal.flits-preserved
flits-preserved c =
    let i = c.flits.flit-index in
    let flit = get_or c.args.front.now i [] in
    let size : length flit ≡ 16 = c.told-front i c.flits-test.true in
    record {
      joined = rw add-one (c.append.ensures ∙ ap (λ (l : List ℕ). l ++ flit) c.flits.invariant.joined ∙ sym (concat-take c.args.front.now i c.flits-test.true));
      len = omega (arith, ap length c.append.ensures, length-append c.flits.bytes.items flit);
    }
