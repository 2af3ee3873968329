-- The values so far, and then those that are left, are all.
use Rattle.std.proofs.Common.{◌≡◌, ◌++◌, map, drop}
use Rattle.std.specs.Prelude.{option_map}
use Rattle.hmc_accesses.specs.InOrder.{known_answer}
use Rattle.hmc_accesses.specs.Value.{load_value}
use Rattle.hmc_trace.proofs.loaded_value.values_of.Given as goal

abbrev pub invariant-loads : goal.invariant-loads
invariant-loads l =
    map (λ found. option_map (λ b. b.items) found) l.values.items
    ++ map (load_value (known_answer l.fn.answers) l.fn.script) (drop l.load-index l.fn.loads)
    ≡ map (load_value (known_answer l.fn.answers) l.fn.script) l.fn.loads
