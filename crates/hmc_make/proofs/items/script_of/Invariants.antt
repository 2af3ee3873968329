-- The requests so far, and those that are left, are all.
use Rattle.std.proofs.Common.{◌≡◌, ◌++◌, ◌-◌, length}
use Rattle.hmc_make.proofs.items.script_of.Given as goal
use Rattle.hmc_make.specs.Requests.{items_from}

abbrev pub invariant-requests : goal.invariant-requests
invariant-requests l = record {
  items : l.script ++ items_from (200 - l._request) l.cubes l.draws.state ≡ items_from 200 l.cubes l.initial.draws.state;
  len : length l.script ≡ l._request;
}
