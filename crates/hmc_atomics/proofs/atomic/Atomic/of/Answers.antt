use Rattle.std.proofs.Common.{◌≡◌, ◌⊎◌, inl, inr, Some, refl}
use Rattle.hmc_codes.specs.declared.command.Command.{Command}
use Rattle.hmc_codes.specs.declared.command.Command.TheVariants as commands
use Rattle.hmc_atomics.specs.declared.atomic.Atomic.TheVariants as atomics
use Rattle.hmc_atomics.specs.Operations.{atomic_of}
use Rattle.hmc_atomics.proofs.atomic.Atomic.of.Goals as goal

atomic_of-increment : (command : Command) → (command ≡ commands.Inc8) ⊎ (command ≡ commands.Pinc8) →
    Some atomics.Inc8 ≡ atomic_of command
unfolding atomic_of
atomic_of-increment command (inl is) = rw is refl
atomic_of-increment command (inr is) = rw is refl

pub returns-in-Inc8 : goal.returns-in-Inc8
returns-in-Inc8 c = atomic_of-increment _ c.in-Inc8.is
