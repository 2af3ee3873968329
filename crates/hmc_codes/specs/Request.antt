-- Requests, as the contracts see them.
use Rattle.std.specs.Prelude.{◌≡◌, ◌<◌, ◌^◌, ℕ, List, length, drop, replicate}
use Rattle.hmc_codes.specs.Bytes.{IsBytes}
use Rattle.hmc_codes.specs.Commands.{family_of, payload_len_of}
use Rattle.hmc_codes.specs.Limits.{most_cubes}
use Rattle.hmc_codes.specs.declared.family.Family.TheVariants as families
use Rattle.hmc_codes.specs.declared.command.Command.{Command}
use Rattle.hmc_codes.specs.declared.command.Command.TheVariants.{Mdwr}

-- a command to a cube at an address, and the payload's bytes
pub record RequestFields : Type 0 where
  pub command : Command
  pub cube : ℕ
  pub address : ℕ
  pub payload : List ℕ

-- what each request keeps: the payload is as long as the table says, and of an mdwr only the first
-- four bytes count
pub record IsRequest (request : RequestFields) : Type 0 where
  pub asks : family_of request.command ≡ families.Ask
  pub cube : request.cube < most_cubes
  pub address : request.address < 2 ^ 34
  pub payload : length request.payload ≡ payload_len_of request.command
  pub bytes : IsBytes request.payload
  pub zeros : request.command ≡ Mdwr → drop 4 request.payload ≡ replicate 12 0
