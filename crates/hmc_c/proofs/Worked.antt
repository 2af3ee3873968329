-- Requests by numbers, entries as C sees them and statuses, computed.
use Rattle.std.proofs.Common.{◌≡◌, [], ◌∷◌, ◌++◌, Some, None, replicate, refl}
use Rattle.hmc_codes.specs.Codes.{command_of, all_commands}
use Rattle.hmc_codes.specs.Table.{table_line}
use Rattle.hmc_codes.specs.declared.command.Command.TheVariants.{Rd16, Mdwr}
use Rattle.hmc_c.specs.Requests.{request_named, payload_by}
use Rattle.hmc_c.specs.Steps.{finish_status}

-- a read of 16 bytes
request_named-reads : request_named 48 1 64 []
    ≡ Some (record { command = Rd16; cube = 1; address = 64; payload = [] })
unfolding command_of all_commands table_line
request_named-reads = refl

-- no command, that of a NULL, a cube that can't be, and a byte too many
request_named-unknown : request_named 200 0 64 [] ≡ None
unfolding command_of all_commands table_line
request_named-unknown = refl

request_named-null : request_named 0 0 64 [] ≡ None
unfolding command_of all_commands table_line
request_named-null = refl

request_named-cube : request_named 48 8 64 [] ≡ None
unfolding command_of all_commands table_line
request_named-cube = refl

request_named-byte : request_named 48 0 64 (7 ∷ []) ≡ None
unfolding command_of all_commands table_line
request_named-byte = refl

-- of an mdwr four bytes count
payload_by-mdwr : payload_by Mdwr (1 ∷ 2 ∷ 3 ∷ 4 ∷ replicate 12 9)
    ≡ (1 ∷ 2 ∷ 3 ∷ 4 ∷ []) ++ replicate 12 0
payload_by-mdwr = refl

finish_status-last : finish_status 8 7 ≡ 0
finish_status-last = refl

finish_status-past : finish_status 1 1 ≡ 12
finish_status-past = refl
