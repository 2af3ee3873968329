-- Which command a code is.
use Rattle.std.specs.Prelude.{ℕ, ◌==◌, List, [], ◌∷◌, find, Option}
use Rattle.hmc_codes.specs.Commands.{code_of}
use Rattle.hmc_codes.specs.declared.command.Command.{Command}
use Rattle.hmc_codes.specs.declared.command.Command.TheVariants as commands

-- all commands
unfoldable pub all_commands : List Command
all_commands =
    commands.Null ∷ commands.Pret ∷ commands.Tret ∷ commands.Irtry ∷ commands.Wr16 ∷ commands.Wr32 ∷
    commands.Wr48 ∷ commands.Wr64 ∷ commands.Wr80 ∷ commands.Wr96 ∷ commands.Wr112 ∷
    commands.Wr128 ∷ commands.Wr256 ∷ commands.Pwr16 ∷ commands.Pwr32 ∷ commands.Pwr48 ∷
    commands.Pwr64 ∷ commands.Pwr80 ∷ commands.Pwr96 ∷ commands.Pwr112 ∷ commands.Pwr128 ∷
    commands.Pwr256 ∷ commands.Rd16 ∷ commands.Rd32 ∷ commands.Rd48 ∷ commands.Rd64 ∷
    commands.Rd80 ∷ commands.Rd96 ∷ commands.Rd112 ∷ commands.Rd128 ∷ commands.Rd256 ∷
    commands.Mdwr ∷ commands.Mdrd ∷ commands.Bwr ∷ commands.TwoAdd8 ∷ commands.Add16 ∷
    commands.Pbwr ∷ commands.PtwoAdd8 ∷ commands.Padd16 ∷ commands.Bwr8r ∷ commands.TwoAdds8r ∷
    commands.Adds16r ∷ commands.Xor16 ∷ commands.Or16 ∷ commands.Nor16 ∷ commands.And16 ∷
    commands.Nand16 ∷ commands.Inc8 ∷ commands.Pinc8 ∷ commands.Casgt8 ∷ commands.Caslt8 ∷
    commands.Casgt16 ∷ commands.Caslt16 ∷ commands.Caseq8 ∷ commands.Caszero16 ∷ commands.Eq16 ∷
    commands.Eq8 ∷ commands.Swap16 ∷ commands.Unit0 ∷ commands.Unit1 ∷ commands.Unit2 ∷
    commands.Unit3 ∷ commands.Unit4 ∷ commands.Unit5 ∷ commands.Unit6 ∷ commands.Unit7 ∷
    commands.RdRs ∷ commands.WrRs ∷ commands.MdRdRs ∷ commands.MdWrRs ∷ commands.Error ∷ []

-- the first of them with a code
unfoldable pub command_of : ℕ → Option Command
command_of code = find (λ command. code_of command == code) all_commands
