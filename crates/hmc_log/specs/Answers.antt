-- Which answers a response to a request can carry.
use Rattle.std.specs.Prelude.{ℕ, Bool, true, false, not, ◌==◌, ◌&&◌, nat_le, length, Option, Some}
use Rattle.hmc_codes.specs.Commands.{is_posted, reply_of}
use Rattle.hmc_codes.specs.declared.answer.Answer.{Answer}
use Rattle.hmc_codes.specs.declared.answer.Answer.TheVariants as answers
use Rattle.hmc_codes.specs.declared.command.Command.{Command}
use Rattle.hmc_codes.specs.declared.command.Command.TheVariants as commands
use Rattle.hmc_serial.specs.Actions.{action_of}
use Rattle.hmc_serial.specs.declared.action.Action.{Action}
use Rattle.hmc_serial.specs.declared.action.Action.TheVariants.{Read}

-- a request takes a tag unless it is posted or poisoned
abbrev pub takes_tag : (poisoned : Bool) → Command → Bool
takes_tag poisoned command = not poisoned && not (is_posted command)

-- the bytes that a response returns: those that a read asks for, and a block else
abbrev pub returned_by : Option Action → ℕ
returned_by (Some (Read size)) = size
returned_by _ = 16

-- the numbers of the errors of requests
abbrev pub is_error : ℕ → Bool
is_error errstat = nat_le 1 errstat && nat_le errstat 6

-- the response to a request returns bytes, has a flag alone, has the value of a register, or says
-- that one was written
abbrev pub has_bytes : Option Command → Bool
has_bytes (Some commands.RdRs) = true
has_bytes _ = false

abbrev pub has_flag : Option Command → Bool
has_flag (Some commands.WrRs) = true
has_flag _ = false

abbrev pub has_value : Option Command → Bool
has_value (Some commands.MdRdRs) = true
has_value _ = false

abbrev pub has_nothing : Option Command → Bool
has_nothing (Some commands.MdWrRs) = true
has_nothing _ = false

-- a response to a request with this command can carry the answer
unfoldable pub is_answer_to : Command → Answer → Bool
is_answer_to command answers.Silent = false
is_answer_to command (answers.Done flag) = has_flag (reply_of command)
is_answer_to command (answers.Read flag payload) =
    has_bytes (reply_of command) && length payload == returned_by (action_of command)
is_answer_to command (answers.Register value) = has_value (reply_of command)
is_answer_to command answers.Stored = has_nothing (reply_of command)
is_answer_to command (answers.Refused errstat) = is_error errstat
