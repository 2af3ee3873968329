-- Each flit comes after those before it.
use Rattle.std.proofs.Common.{◌≡◌, ◌∙◌, [], ◌∷◌, ◌++◌, length, take, sym, ap, arith}
use Rattle.std.proofs.lemmas.List.{take_more, take_all, length-take-le}
use Rattle.hmc_packet.specs.Spelling.{spelling}
use Rattle.hmc_packet.proofs.LinkLemmas.{length-spelling}
use Rattle.hmc_packet.proofs.spelling.spell.Goals as goal

pub push-requires : goal.push-requires
push-requires c =
    let flits = spelling c.args.profile c.args.packet.now c.args.rrp in
    let whole = length-spelling c.args.profile c.args.packet.now c.args.rrp c.invariant.ensures in
    let size : length (take c.loop-at.at flits) ≡ c.loop-at.at = length-take-le c.loop-at.at flits (omega (arith, whole, c.loop-at-test.true, c.flits-at-end.ensures.value)) in
    (omega arith, omega (arith, size, ap length c.loop-at.invariant.flits, c.loop-at-test.true, c.flits-at-end.ensures.few))

pub loop-at-preserved : goal.loop-at-preserved
loop-at-preserved c =
    let flits = spelling c.args.profile c.args.packet.now c.args.rrp in
    let whole = length-spelling c.args.profile c.args.packet.now c.args.rrp c.invariant.ensures in
    record {
      flits = c.push.ensures.items
          ∙ (λ i. c.loop-at.invariant.flits i ++ c.flit.ensures i ∷ [])
          ∙ sym (take_more flits c.loop-at.at [] (omega (arith, whole, c.loop-at-test.true, c.flits-at-end.ensures.value)));
    }

pub returns : goal.returns
returns c =
    let flits = spelling c.args.profile c.args.packet.now c.args.rrp in
    let whole = length-spelling c.args.profile c.args.packet.now c.args.rrp c.invariant.ensures in
    c.loop-at.invariant.flits ∙ take_all c.loop-at.at flits (omega (arith, whole, c.loop-at-test.false, c.flits-at-end.ensures.value))
