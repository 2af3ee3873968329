-- The bytes so far, and then those that are left, are all.
use Rattle.std.proofs.Common.{◌≡◌, ◌+◌, ◌-◌, ◌++◌}
use Rattle.std.specs.Prelude.{option_map}
use Rattle.hmc_accesses.specs.InOrder.{known_answer}
use Rattle.hmc_accesses.specs.Value.{joined}
use Rattle.hmc_trace.proofs.loaded_value.joined.Given as goal

abbrev pub invariant-requests : goal.invariant-requests
invariant-requests l = option_map (λ more. l.bytes.items ++ more)
    (joined (known_answer l.fn.answers) l.fn.script l.place (l.fn.first + l.fn.count - l.place))
    ≡ joined (known_answer l.fn.answers) l.fn.script l.fn.first l.fn.count
