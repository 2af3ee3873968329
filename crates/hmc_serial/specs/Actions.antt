-- The action of each request, one line per command.
use Rattle.std.specs.Prelude.{Option, Some}
use Rattle.std.specs.Option.{option_map}
use Rattle.hmc_codes.specs.declared.command.Command.{Command}
use Rattle.hmc_codes.specs.declared.command.Command.TheVariants as commands
use Rattle.hmc_atomics.specs.Operations.{atomic_of}
use Rattle.hmc_serial.specs.declared.action.Action.{Action}
use Rattle.hmc_serial.specs.declared.action.Action.TheVariants.{Read, Write, ReadRegister, WriteRegister, Act, Work}

-- None for a command that isn't a request's; the atomic commands are those with an operation
unfoldable pub action_of : Command → Option Action
action_of commands.Wr16 = Some Write
action_of commands.Wr32 = Some Write
action_of commands.Wr48 = Some Write
action_of commands.Wr64 = Some Write
action_of commands.Wr80 = Some Write
action_of commands.Wr96 = Some Write
action_of commands.Wr112 = Some Write
action_of commands.Wr128 = Some Write
action_of commands.Wr256 = Some Write
action_of commands.Pwr16 = Some Write
action_of commands.Pwr32 = Some Write
action_of commands.Pwr48 = Some Write
action_of commands.Pwr64 = Some Write
action_of commands.Pwr80 = Some Write
action_of commands.Pwr96 = Some Write
action_of commands.Pwr112 = Some Write
action_of commands.Pwr128 = Some Write
action_of commands.Pwr256 = Some Write
action_of commands.Rd16 = Some (Read 16)
action_of commands.Rd32 = Some (Read 32)
action_of commands.Rd48 = Some (Read 48)
action_of commands.Rd64 = Some (Read 64)
action_of commands.Rd80 = Some (Read 80)
action_of commands.Rd96 = Some (Read 96)
action_of commands.Rd112 = Some (Read 112)
action_of commands.Rd128 = Some (Read 128)
action_of commands.Rd256 = Some (Read 256)
action_of commands.Mdwr = Some WriteRegister
action_of commands.Mdrd = Some ReadRegister
action_of commands.Unit0 = Some (Work 0)
action_of commands.Unit1 = Some (Work 1)
action_of commands.Unit2 = Some (Work 2)
action_of commands.Unit3 = Some (Work 3)
action_of commands.Unit4 = Some (Work 4)
action_of commands.Unit5 = Some (Work 5)
action_of commands.Unit6 = Some (Work 6)
action_of commands.Unit7 = Some (Work 7)
action_of command = option_map Act (atomic_of command)
