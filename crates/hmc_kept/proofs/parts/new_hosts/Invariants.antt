use Rattle.std.proofs.Common.{◌≡◌, ℕ, ◌<◌, length}
use Rattle.std.specs.Prelude.{slice_index_or}
use Rattle.hmc_host.specs.Host.{HostFields, opening_host}
use Rattle.hmc_kept.proofs.parts.new_hosts.Given as goal

abbrev pub invariant-loop-number : goal.invariant-loop-number
invariant-loop-number l = record {
  counted : length l.hosts.items ≡ l.number;
  new : (host : ℕ) (d : HostFields) → host < length l.hosts.items → slice_index_or l.hosts.items host d ≡ opening_host host l.script;
}
