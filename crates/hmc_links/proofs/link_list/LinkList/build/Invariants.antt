use Rattle.std.proofs.Common.{◌≡◌, length}
use Rattle.hmc_links.proofs.NewLinks.{AreNewLinks}
use Rattle.hmc_links.proofs.link_list.LinkList.build.Given as goal

abbrev pub invariant-loop-row : goal.invariant-loop-row
invariant-loop-row l = record {
  count : length l.links.items ≡ l.row-index;
  new : AreNewLinks l.rows l.links.items;
}
