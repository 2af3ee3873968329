-- One link more did nothing.
use Rattle.std.proofs.Common.{◌≡◌, ◌<◌, ◌+◌, ◌∙◌, ℕ, [], length, sym, ap, subst, arith}
use Rattle.std.specs.Prelude.{slice_index_or}
use Rattle.std.proofs.lemmas.List.{get_or_default, length_push}
use Rattle.hmc_codes.specs.Link.{LinkFields}
use Rattle.hmc_case.specs.declared.setup.LinkRow.{LinkRow}
use Rattle.hmc_link.specs.StandsFor.{LinkStandsFor}
use Rattle.hmc_journal.specs.Setup.{no_link}
use Rattle.hmc_kept.specs.Called.{sizes_at}
use Rattle.hmc_links.proofs.NewLinks.{AreNewLinks, new_more}
use Rattle.hmc_links.proofs.link_list.LinkList.build.Goals as goal

pub loop-row-preserved : goal.loop-row-preserved
loop-row-preserved c =
    let rows = c.args.rows.now in
    let links = c.loop-row.links.items in
    let held = c.in_ok-new_link.field-0 in
    let less : c.loop-row.row-index < length rows = omega arith in
    let setup_is : c.row-item.result.setup ≡ sizes_at rows (length links) = ap (λ (r : LinkRow). r.setup) (c.row-item.is ∙ get_or_default rows c.loop-row.row-index c.row-item.result no_link less
    ∙ ap (λ (n : ℕ). slice_index_or rows n no_link) (sym c.loop-row.invariant.count)) in
    let more = new_more rows links held c.loop-row.invariant.new c.in_ok-new_link.ensures.going (subst (λ (z : LinkFields). LinkStandsFor z held []) setup_is c.in_ok-new_link.ensures.stands) in
    record {
      count = ap length c.in_ok-push.ensures.items ∙ length_push links held ∙ ap (λ (n : ℕ). n + 1) c.loop-row.invariant.count;
      new = subst (AreNewLinks rows) (sym c.in_ok-push.ensures.items) more;
    }
