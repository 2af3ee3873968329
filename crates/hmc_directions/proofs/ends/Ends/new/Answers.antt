-- One end more did nothing.
use Rattle.std.proofs.Common.{◌≡◌, ◌+◌, ◌∙◌, ℕ, [], List, length, sym, ap, subst, arith}
use Rattle.std.proofs.lemmas.List.{length_push}
use Rattle.hmc_codes.specs.Link.{LinkFields, IsLinkSetup}
use Rattle.hmc_ends.specs.End.{EndFields}
use Rattle.hmc_ends.specs.Parts.{parts_of}
use Rattle.hmc_ends.specs.StandsFor.{EndStandsFor}
use Rattle.hmc_kept.specs.Called.{sizes_by}
use Rattle.hmc_directions.proofs.New.{IsNewEnd, AreNewEnds, one_more, all_new}
use Rattle.hmc_directions.proofs.ends.Ends.new.Goals as goal

pub loop-direction-preserved : goal.loop-direction-preserved
loop-direction-preserved c =
    let rows = c.args.rows.now in
    let ends = c.loop-direction.ends.items in
    let at = c.loop-direction.direction in
    let e = c.in_ok-new_end.field-0 in
    let count : length ends ≡ at = c.loop-direction.invariant.count in
    let setup_is : c.setup_at.result ≡ sizes_by rows (length ends) = c.setup_at.ensures ∙ ap (λ (n : ℕ). sizes_by rows n) (sym count) in
    let here : IsNewEnd rows (length ends) e = record {
      sizes = subst IsLinkSetup setup_is c.in_ok-new_end.ensures.sizes;
      stands = λ d. subst (λ (z : LinkFields). EndStandsFor z e (parts_of z d [])) setup_is (c.in_ok-new_end.ensures.stands d);
    } in
    record {
      count = ap (λ (l : List EndFields). length l) c.in_ok-push.ensures.items ∙ length_push ends e ∙ ap (λ (n : ℕ). n + 1) count;
      new = subst (AreNewEnds rows) (sym c.in_ok-push.ensures.items) (one_more rows ends e c.loop-direction.invariant.new here);
    }

pub returns : goal.returns
returns c =
    all_new c.args.rows.now c.loop-direction.ends.items (omega (arith, c.loop-direction-test.false, c.loop-direction.invariant.count, c.loop-direction.auto)) c.loop-direction.invariant.new
