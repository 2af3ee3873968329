-- What the command of a request says of its payload.
use Rattle.std.proofs.Common.{◌≡◌, ◌≤◌, ◌%◌, ℕ, Some, refl, subst, lit≤}
use Rattle.hmc_codes.specs.Table.{table_line}
use Rattle.hmc_codes.specs.Commands.{payload_len_of}
use Rattle.hmc_codes.specs.declared.command.Command.{Command}
use Rattle.hmc_codes.specs.declared.command.Command.TheVariants as commands
use Rattle.hmc_atomics.specs.declared.atomic.Atomic.{Atomic}
use Rattle.hmc_atomics.specs.Operations.{atomic_of}
use Rattle.hmc_serial.specs.declared.action.Action.TheVariants.{Read, WriteRegister, Act, Work}
use Rattle.hmc_serial.specs.Actions.{action_of}

-- a number of bytes that a read command asks for
abbrev pub IsSize : ℕ → Type 0
IsSize size = (size % 16 ≡ 0) × (size ≤ 256)

pub read_size : (command : Command) (size : ℕ) → action_of command ≡ Some (Read size) → IsSize size
unfolding action_of atomic_of
read_size commands.Rd16 size is = let same : 16 ≡ size = cc in subst IsSize same (refl, lit≤ tt)
read_size commands.Rd32 size is = let same : 32 ≡ size = cc in subst IsSize same (refl, lit≤ tt)
read_size commands.Rd48 size is = let same : 48 ≡ size = cc in subst IsSize same (refl, lit≤ tt)
read_size commands.Rd64 size is = let same : 64 ≡ size = cc in subst IsSize same (refl, lit≤ tt)
read_size commands.Rd80 size is = let same : 80 ≡ size = cc in subst IsSize same (refl, lit≤ tt)
read_size commands.Rd96 size is = let same : 96 ≡ size = cc in subst IsSize same (refl, lit≤ tt)
read_size commands.Rd112 size is = let same : 112 ≡ size = cc in subst IsSize same (refl, lit≤ tt)
read_size commands.Rd128 size is = let same : 128 ≡ size = cc in subst IsSize same (refl, lit≤ tt)
read_size commands.Rd256 size is = let same : 256 ≡ size = cc in subst IsSize same (refl, lit≤ tt)
read_size _ size is = absurd (cc)

-- a register is written by a payload of 16 bytes
pub register_payload : (command : Command) → action_of command ≡ Some WriteRegister → payload_len_of command ≡ 16
unfolding action_of atomic_of table_line
register_payload commands.Mdwr is = refl
register_payload _ is = absurd (cc)

-- the payload of an atomic command is 16 bytes or none
pub acted_payload : (command : Command) (op : Atomic) → action_of command ≡ Some (Act op) → payload_len_of command ≤ 16
unfolding action_of atomic_of table_line
acted_payload commands.Bwr op is = lit≤ tt
acted_payload commands.Pbwr op is = lit≤ tt
acted_payload commands.Bwr8r op is = lit≤ tt
acted_payload commands.Inc8 op is = lit≤ tt
acted_payload commands.Pinc8 op is = lit≤ tt
acted_payload commands.TwoAdd8 op is = lit≤ tt
acted_payload commands.PtwoAdd8 op is = lit≤ tt
acted_payload commands.TwoAdds8r op is = lit≤ tt
acted_payload commands.Add16 op is = lit≤ tt
acted_payload commands.Padd16 op is = lit≤ tt
acted_payload commands.Adds16r op is = lit≤ tt
acted_payload commands.Xor16 op is = lit≤ tt
acted_payload commands.Or16 op is = lit≤ tt
acted_payload commands.Nor16 op is = lit≤ tt
acted_payload commands.And16 op is = lit≤ tt
acted_payload commands.Nand16 op is = lit≤ tt
acted_payload commands.Swap16 op is = lit≤ tt
acted_payload commands.Caseq8 op is = lit≤ tt
acted_payload commands.Casgt8 op is = lit≤ tt
acted_payload commands.Caslt8 op is = lit≤ tt
acted_payload commands.Casgt16 op is = lit≤ tt
acted_payload commands.Caslt16 op is = lit≤ tt
acted_payload commands.Caszero16 op is = lit≤ tt
acted_payload commands.Eq8 op is = lit≤ tt
acted_payload commands.Eq16 op is = lit≤ tt
acted_payload _ op is = absurd (cc)

-- that of a unit command is 16 bytes
pub unit_payload : (command : Command) (code : ℕ) → action_of command ≡ Some (Work code) → payload_len_of command ≡ 16
unfolding action_of atomic_of table_line
unit_payload commands.Unit0 code is = refl
unit_payload commands.Unit1 code is = refl
unit_payload commands.Unit2 code is = refl
unit_payload commands.Unit3 code is = refl
unit_payload commands.Unit4 code is = refl
unit_payload commands.Unit5 code is = refl
unit_payload commands.Unit6 code is = refl
unit_payload commands.Unit7 code is = refl
unit_payload _ code is = absurd (cc)
