-- The operation of each atomic command, one line per command.
use Rattle.std.specs.Prelude.{Bool, true, false, Option, Some, None}
use Rattle.hmc_codes.specs.declared.command.Command.{Command}
use Rattle.hmc_codes.specs.declared.command.Command.TheVariants as commands
use Rattle.hmc_atomics.specs.declared.atomic.Atomic.{Atomic}
use Rattle.hmc_atomics.specs.declared.atomic.Atomic.TheVariants as atomics

-- posted and returning commands have the operation of the plain one
unfoldable pub atomic_of : Command → Option Atomic
atomic_of commands.Bwr = Some atomics.Bwr
atomic_of commands.Pbwr = Some atomics.Bwr
atomic_of commands.Bwr8r = Some atomics.Bwr
atomic_of commands.Inc8 = Some atomics.Inc8
atomic_of commands.Pinc8 = Some atomics.Inc8
atomic_of commands.TwoAdd8 = Some atomics.TwoAdd8
atomic_of commands.PtwoAdd8 = Some atomics.TwoAdd8
atomic_of commands.TwoAdds8r = Some atomics.TwoAdd8
atomic_of commands.Add16 = Some atomics.Add16
atomic_of commands.Padd16 = Some atomics.Add16
atomic_of commands.Adds16r = Some atomics.Add16
atomic_of commands.Xor16 = Some atomics.Xor16
atomic_of commands.Or16 = Some atomics.Or16
atomic_of commands.Nor16 = Some atomics.Nor16
atomic_of commands.And16 = Some atomics.And16
atomic_of commands.Nand16 = Some atomics.Nand16
atomic_of commands.Swap16 = Some atomics.Swap16
atomic_of commands.Caseq8 = Some atomics.CasEq8
atomic_of commands.Casgt8 = Some atomics.CasGt8
atomic_of commands.Caslt8 = Some atomics.CasLt8
atomic_of commands.Casgt16 = Some atomics.CasGt16
atomic_of commands.Caslt16 = Some atomics.CasLt16
atomic_of commands.Caszero16 = Some atomics.CasZero16
atomic_of commands.Eq8 = Some atomics.Eq8
atomic_of commands.Eq16 = Some atomics.Eq16
atomic_of _ = None

-- the 8-byte commands, which act on one half of a block
abbrev pub by_halves : Atomic → Bool
by_halves atomics.Bwr = true
by_halves atomics.Inc8 = true
by_halves atomics.CasEq8 = true
by_halves atomics.CasGt8 = true
by_halves atomics.CasLt8 = true
by_halves atomics.Eq8 = true
by_halves _ = false
