-- The test that nothing is on its way.
use Rattle.std.proofs.Common.{◌≡◌, ◌↔◌, Bool, true, eqb-true, eq-eqb}
use Rattle.std.specs.Prelude.{IsTrue}
use Rattle.std.specs.List.{list_all}
use Rattle.std.proofs.lemmas.Bool.{and_parts, and_from}
use Rattle.hmc_cube.specs.Cube.{held_in_cube}
use Rattle.hmc_link.specs.Held.{LinkHeld}
use Rattle.hmc_kept.specs.Quiet.{is_quiet_end}
use Rattle.hmc_net.specs.Finished.{is_quiet_link, is_empty_cube, is_quiescent}
use Rattle.hmc_net.specs.NetState.{NetState}
use Rattle.hmc_links.specs.Quiet.{IsQuietLink}
use Rattle.hmc_net.specs.Quiescent.{IsEmptyCube, IsQuiescent}
use Rattle.hmc_kept.proofs.Stillness.{same_test, all_of, test_of, end_of, end_test}

link_of : (link : LinkHeld) → is_quiet_link link ≡ true → IsQuietLink link
link_of link is = let parts = and_parts (is_quiet_end link.a) (is_quiet_end link.b) is in record { a = end_of link.a parts.0; b = end_of link.b parts.1 }

link_test : (link : LinkHeld) → IsQuietLink link → is_quiet_link link ≡ true
link_test link is = and_from _ _ (end_test link.a is.a) (end_test link.b is.b)

pub still_iff : (net : NetState) → IsTrue (is_quiescent net) ↔ IsQuiescent net
still_iff net = (
  (λ is.
      let parts = and_parts (list_all is_quiet_link net.links) (list_all is_empty_cube net.cubes) is in
      record {
        links = all_of IsQuietLink is_quiet_link link_of net.links parts.0;
        cubes = all_of IsEmptyCube is_empty_cube (λ cube. eqb-true (held_in_cube cube) 0) net.cubes parts.1;
      }),
  (λ is. and_from _ _ (test_of IsQuietLink is_quiet_link link_test net.links is.links) (test_of IsEmptyCube is_empty_cube (λ cube. eq-eqb (held_in_cube cube) 0) net.cubes is.cubes)),
)

pub still_by : (net : NetState) (still : Bool) → IsTrue still ↔ IsQuiescent net → still ≡ is_quiescent net
still_by net still is =
    let own = still_iff net in
    same_test still (is_quiescent net) (λ gives. own.1 (is.0 gives)) (λ gives. is.1 (own.0 gives))
