-- The commands of runs.
use Rattle.std.proofs.Common.{◌≡◌, ◌≤◌, ◌*◌, ℕ, zero, suc, false, Some, refl, sym, subst, arith}
use Rattle.hmc_codes.specs.Commands.{payload_len_of, is_posted, family_of}
use Rattle.hmc_codes.specs.Table.{table_line}
use Rattle.hmc_codes.specs.declared.command.Command.{Command}
use Rattle.hmc_codes.specs.declared.family.Family.TheVariants as families
use Rattle.hmc_serial.specs.Actions.{action_of}
use Rattle.hmc_serial.specs.declared.action.Action.TheVariants.{Read, Write}
use Rattle.hmc_accesses.specs.Requests.{read_command, write_command}

-- how many blocks of 16 one request can have
pub data IsSize (blocks : ℕ) : Type 0 where
  few : 1 ≤ blocks → blocks ≤ 8 → IsSize blocks
  whole : blocks ≡ 16 → IsSize blocks

-- a command that reads so many blocks
pub record IsReading (command : Command) (blocks : ℕ) : Type 0 where
  pub asks : family_of command ≡ families.Ask
  pub action : action_of command ≡ Some (Read (16 * blocks))
  pub empty : payload_len_of command ≡ 0
  pub answered : is_posted command ≡ false

-- a command that writes so many blocks
pub record IsWriting (command : Command) (blocks : ℕ) : Type 0 where
  pub asks : family_of command ≡ families.Ask
  pub action : action_of command ≡ Some Write
  pub long : payload_len_of command ≡ 16 * blocks
  pub answered : is_posted command ≡ false

read_few : (blocks : ℕ) → 1 ≤ blocks → blocks ≤ 8 → IsReading (read_command blocks) blocks
unfolding read_command table_line action_of
read_few zero least most = absurd (omega arith)
read_few (suc zero) least most = record {
  asks = refl;
  action = refl;
  empty = refl;
  answered =
      refl;
}
read_few (suc (suc zero)) least most = record {
  asks = refl;
  action = refl;
  empty = refl;
  answered =
      refl;
}
read_few (suc (suc (suc zero))) least most = record {
  asks = refl;
  action = refl;
  empty = refl;
  answered = refl;
}
read_few (suc (suc (suc (suc zero)))) least most = record {
  asks = refl;
  action = refl;
  empty =
      refl;
  answered = refl;
}
read_few (suc (suc (suc (suc (suc zero))))) least most = record {
  asks = refl;
  action = refl;
  empty = refl;
  answered = refl;
}
read_few (suc (suc (suc (suc (suc (suc zero)))))) least most = record {
  asks = refl;
  action = refl;
  empty = refl;
  answered = refl;
}
read_few (suc (suc (suc (suc (suc (suc (suc zero))))))) least most =
    record { asks = refl; action = refl; empty = refl; answered = refl }
read_few (suc (suc (suc (suc (suc (suc (suc (suc zero)))))))) least most =
    record { asks = refl; action = refl; empty = refl; answered = refl }
read_few (suc (suc (suc (suc (suc (suc (suc (suc (suc blocks))))))))) least most =
    absurd (omega arith)

read_whole : IsReading (read_command 16) 16
unfolding read_command table_line action_of
read_whole = record { asks = refl; action = refl; empty = refl; answered = refl }

pub reading : (blocks : ℕ) → IsSize blocks → IsReading (read_command blocks) blocks
reading blocks (few some most) = read_few blocks some most
reading blocks (whole is) = subst (λ n. IsReading (read_command n) n) (sym is) read_whole

write_few : (blocks : ℕ) → 1 ≤ blocks → blocks ≤ 8 → IsWriting (write_command blocks) blocks
unfolding write_command table_line action_of
write_few zero least most = absurd (omega arith)
write_few (suc zero) least most = record {
  asks = refl;
  action = refl;
  long = refl;
  answered =
      refl;
}
write_few (suc (suc zero)) least most = record {
  asks = refl;
  action = refl;
  long = refl;
  answered =
      refl;
}
write_few (suc (suc (suc zero))) least most = record {
  asks = refl;
  action = refl;
  long = refl;
  answered = refl;
}
write_few (suc (suc (suc (suc zero)))) least most = record {
  asks = refl;
  action = refl;
  long =
      refl;
  answered = refl;
}
write_few (suc (suc (suc (suc (suc zero))))) least most = record {
  asks = refl;
  action = refl;
  long = refl;
  answered = refl;
}
write_few (suc (suc (suc (suc (suc (suc zero)))))) least most = record {
  asks = refl;
  action = refl;
  long = refl;
  answered = refl;
}
write_few (suc (suc (suc (suc (suc (suc (suc zero))))))) least most =
    record { asks = refl; action = refl; long = refl; answered = refl }
write_few (suc (suc (suc (suc (suc (suc (suc (suc zero)))))))) least most =
    record { asks = refl; action = refl; long = refl; answered = refl }
write_few (suc (suc (suc (suc (suc (suc (suc (suc (suc blocks))))))))) least most =
    absurd (omega arith)

write_whole : IsWriting (write_command 16) 16
unfolding write_command table_line action_of
write_whole = record { asks = refl; action = refl; long = refl; answered = refl }

pub writing : (blocks : ℕ) → IsSize blocks → IsWriting (write_command blocks) blocks
writing blocks (few some most) = write_few blocks some most
writing blocks (whole is) = subst (λ n. IsWriting (write_command n) n) (sym is) write_whole
