-- The packets so far, where a u64 holds them.
use Rattle.std.proofs.Common.{◌≡◌, ◌<◌, ◌^◌, take, sum_by}
use Rattle.hmc_link.specs.Held.{held_on}
use Rattle.hmc_links.proofs.link_list.held_in.Given as goal

abbrev pub invariant-loop-link : goal.invariant-loop-link
invariant-loop-link l =
    sum_by held_on (take l.link-index l.links) < 2 ^ 64 →
    l.held ≡ sum_by held_on (take l.link-index l.links)
