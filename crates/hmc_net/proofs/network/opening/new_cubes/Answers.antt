-- One cube more is new.
use Rattle.std.proofs.Common.{◌≡◌, ◌<◌, ◌+◌, ◌∙◌, ℕ, length, sym, ap, subst, arith}
use Rattle.std.specs.Prelude.{slice_index_or}
use Rattle.std.proofs.lemmas.List.{length_push}
use Rattle.hmc_case.specs.Setup.{CubeSetupFields}
use Rattle.hmc_cube.specs.Cube.{opening_cube}
use Rattle.hmc_net.proofs.NewCubes.{AreFirstCubes, first_more}
use Rattle.hmc_net.proofs.network.opening.new_cubes.Goals as goal

pub loop-i-preserved : goal.loop-i-preserved
loop-i-preserved c =
    let setups = c.args.setups.now in
    let cubes = c.loop-i.cubes.items in
    let held = c.in_ok-new.field-0 in
    let setup = c.index-setups-i.result in
    let counted = c.loop-i.invariant.counted in
    let less : length cubes < length setups = omega (arith, c.loop-i-test.true, counted) in
    let at : setup ≡ slice_index_or setups (length cubes) setup = c.index-setups-i.is ∙ ap (λ (n : ℕ). slice_index_or setups n setup) (sym counted) in
    let here : held ≡ opening_cube (length cubes) setup.shape setup.queue = c.in_ok-new.ensures ∙ ap (λ (n : ℕ). opening_cube n c.setup.inside.shape c.setup.inside.queue) (sym counted)
    ∙ ap (λ (s : CubeSetupFields). opening_cube (length cubes) s.shape s.queue) c.setup.view_is in
    let more = first_more setups cubes setup held c.loop-i.invariant.new less at here in
    record {
      counted = ap length c.in_ok-push.ensures.items ∙ length_push cubes held ∙ ap (λ (n : ℕ). n + 1) counted;
      new = subst (AreFirstCubes setups) (sym c.in_ok-push.ensures.items) more;
    }
