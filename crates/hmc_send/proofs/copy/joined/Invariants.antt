use Rattle.std.proofs.Common.{◌≡◌, ◌*◌, length, take}
use Rattle.std.specs.List.{concat}
use Rattle.hmc_send.proofs.copy.joined.Given as goal

abbrev pub invariant-flits : goal.invariant-flits
invariant-flits l = record {
  joined : l.bytes.items ≡ concat (take l.flit-index l.front);
  len : length l.bytes.items ≡ 16 * l.flit-index;
}
