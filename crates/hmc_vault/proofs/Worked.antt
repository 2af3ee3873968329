-- Definitions computed at a cube of two vaults of two banks of one row, whose number is 6.
use Rattle.std.proofs.Common.{◌≡◌, ℕ, List, [], ◌∷◌, Some, true, false, refl}
use Rattle.std.specs.Prelude.{map, replicate}
use Rattle.hmc_codes.specs.Shape.{ShapeFields}
use Rattle.hmc_codes.specs.Request.{RequestFields}
use Rattle.hmc_codes.specs.Table.{table_line}
use Rattle.hmc_codes.specs.declared.answer.Answer.TheVariants as answers
use Rattle.hmc_codes.specs.declared.command.Command.{Command}
use Rattle.hmc_codes.specs.declared.command.Command.TheVariants.{Rd16, Pinc8, Mdrd, WrRs, Unit1}
use Rattle.hmc_packet.specs.Packet.{PacketFields, null_packet}
use Rattle.hmc_packet.specs.Transactions.{reply_packet, payload_of, request_in}
use Rattle.hmc_atomics.specs.Operations.{atomic_of}
use Rattle.hmc_atomics.specs.Act.{acted_of}
use Rattle.hmc_codes.specs.Bytes.{padded_bytes}
use Rattle.hmc_units.specs.Shipped.{stamp_unit}
use Rattle.hmc_serial.specs.Actions.{action_of}
use Rattle.hmc_serial.specs.Cube.{CubeState}
use Rattle.hmc_serial.specs.Errors.{memory_error, register_error}
use Rattle.hmc_serial.specs.Perform.{perform_on}
use Rattle.hmc_vault.specs.declared.spread.Spread.TheVariants as spreads
use Rattle.hmc_vault.specs.declared.execute.Executed.TheVariants.{Empty, Full, Ran}
use Rattle.hmc_vault.specs.declared.execution.ExecutionKind.TheVariants as kinds
use Rattle.hmc_vault.specs.Vault.{VaultFields, opening_vault, held_by}
use Rattle.hmc_vault.specs.Spread.{spread_says, spread_gives}
use Rattle.hmc_vault.specs.Execution.{executed_of, kind_of}
use Rattle.hmc_vault.specs.Execute.{must_wait, execute_says, replies_to, waiting_after, answers_after, slots_after, execute_gives}

abbrev two_banks : ShapeFields
two_banks = record { vault_bits = 1; bank_bits = 1; rows = 1; block = 256 }

abbrev cube : CubeState
cube = record { shape = two_banks; memory = replicate 1024 0; registers = 6 ∷ 1 ∷ 1 ∷ 1 ∷ replicate 12 0 }

abbrev request_with : Command → (address : ℕ) → RequestFields
request_with command address = record { command = command; cube = 6; address = address; payload = [] }

-- a request of host 5 under tag 3
abbrev packet_with : Command → (address : ℕ) → PacketFields
packet_with command address = record null_packet { command = command; tag = 3; address = address; cube = 6; slid = 5 }

abbrev read_at : (address : ℕ) → PacketFields
read_at address = packet_with Rd16 address

-- an answer to host 5 under a tag
abbrev done : (tag : ℕ) → PacketFields
done tag = record null_packet { command = WrRs; tag = tag; cube = 6; slid = 5 }

abbrev vault_with : (vault_queue : List PacketFields) (banks : List (List PacketFields)) (answers : List PacketFields) → VaultFields
vault_with vault_queue banks answers = record { vault_queue = vault_queue; banks = banks; answers = answers; size = 1 }

opening_vault-two_bits : opening_vault 2 7 ≡ record { vault_queue = []; banks = [] ∷ [] ∷ [] ∷ [] ∷ []; answers = []; size = 7 }
opening_vault-two_bits = refl

held_by-each : held_by (vault_with (read_at 0 ∷ []) ((read_at 0 ∷ read_at 0 ∷ []) ∷ [] ∷ (read_at 0 ∷ []) ∷ []) (done 1 ∷ done 2 ∷ done 3 ∷ [])) ≡ 7
held_by-each = refl

-- the bank is the bit above that of the vault
spread_says-by_address : map (λ address. spread_says (vault_with (read_at address ∷ read_at 0 ∷ []) ([] ∷ [] ∷ []) []) two_banks) (0 ∷ 0x1ff ∷ 0x200 ∷ 0x3ff ∷ 0x400 ∷ []) ≡
    spreads.Moved 0 ∷ spreads.Moved 0 ∷ spreads.Moved 1 ∷ spreads.Moved 1 ∷ spreads.Moved 0 ∷ []
unfolding spread_says
spread_says-by_address = refl

-- with blocks of 64 bytes it is bit 7
spread_says-small_blocks : map (λ address. spread_says (vault_with (read_at address ∷ []) ([] ∷ [] ∷ []) []) (record two_banks { block = 64 })) (0 ∷ 0x7f ∷ 0x80 ∷ 0xff ∷ 0x100 ∷ []) ≡
    spreads.Moved 0 ∷ spreads.Moved 0 ∷ spreads.Moved 1 ∷ spreads.Moved 1 ∷ spreads.Moved 0 ∷ []
unfolding spread_says
spread_says-small_blocks = refl

-- a full bank holds back what goes there, and nothing else; where nothing entered it isn't asked
spread_says-full : map (λ address. spread_says (vault_with (read_at address ∷ []) ([] ∷ (read_at 0x200 ∷ []) ∷ []) []) two_banks) (0x200 ∷ 0x100 ∷ []) ≡ spreads.Full ∷ spreads.Moved 0 ∷ []
unfolding spread_says
spread_says-full = refl

spread_says-empty : spread_says (vault_with [] ((read_at 0 ∷ []) ∷ (read_at 0x200 ∷ []) ∷ []) []) two_banks ≡ spreads.Empty
unfolding spread_says
spread_says-empty = refl

-- the front is last in the queue of its bank
spread_gives-moved : spread_gives (spreads.Moved 1) (vault_with (read_at 0x200 ∷ read_at 0 ∷ []) ((read_at 1 ∷ []) ∷ (read_at 0x201 ∷ []) ∷ []) (done 1 ∷ [])) ≡
    vault_with (read_at 0 ∷ []) ((read_at 1 ∷ []) ∷ (read_at 0x201 ∷ read_at 0x200 ∷ []) ∷ []) (done 1 ∷ [])
spread_gives-moved = refl

spread_gives-full : spread_gives spreads.Full (vault_with (read_at 0 ∷ []) ((read_at 1 ∷ []) ∷ []) []) ≡ vault_with (read_at 0 ∷ []) ((read_at 1 ∷ []) ∷ []) []
spread_gives-full = refl

-- what is to be answered waits for its place, and what is posted doesn't
must_wait-read : map (λ size. must_wait (request_with Rd16 0) (done 1 ∷ []) size) (1 ∷ 2 ∷ []) ≡ true ∷ false ∷ []
unfolding table_line
must_wait-read = refl

must_wait-posted : must_wait (request_with Pinc8 0) (done 1 ∷ []) 1 ≡ false
unfolding table_line
must_wait-posted = refl

-- nothing waits, also where the answers are full
execute_says-empty : execute_says [] (done 1 ∷ []) 1 cube [] ≡ Empty
execute_says-empty = refl

execute_says-full : execute_says (read_at 0 ∷ []) (done 1 ∷ []) 1 cube [] ≡ Full
unfolding request_in payload_of table_line
execute_says-full = refl

-- the host and the tag are those of the front
execute_says-register : execute_says (packet_with Mdrd 0 ∷ read_at 0 ∷ []) [] 1 cube [] ≡ Ran 5 3 (request_with Mdrd 0) (answers.Register 6)
unfolding request_in payload_of table_line perform_on action_of register_error
execute_says-register = refl

execute_says-posted : execute_says (packet_with Pinc8 0 ∷ []) (done 1 ∷ []) 1 cube [] ≡ Ran 5 3 (request_with Pinc8 0) answers.Silent
unfolding request_in payload_of table_line perform_on action_of atomic_of memory_error acted_of
execute_says-posted = refl

-- a reply goes to the host, under the tag, and names the cube
replies_to-done : replies_to (request_with Rd16 0) (answers.Done false) 5 3 ≡ done 3 ∷ []
unfolding table_line reply_packet
replies_to-done = refl

replies_to-posted : replies_to (request_with Pinc8 0) answers.Silent 5 3 ≡ []
unfolding table_line
replies_to-posted = refl

-- the front has left its bank, and its reply is the last answer
execute_gives-own_bank : execute_gives 1 (Ran 5 3 (request_with Rd16 0x200) (answers.Done false)) (vault_with (read_at 0 ∷ []) ((read_at 1 ∷ []) ∷ (read_at 0x200 ∷ read_at 0x201 ∷ []) ∷ []) (done 1 ∷ [])) ≡
    vault_with (read_at 0 ∷ []) ((read_at 1 ∷ []) ∷ (read_at 0x201 ∷ []) ∷ []) (done 1 ∷ done 3 ∷ [])
unfolding table_line reply_packet
execute_gives-own_bank = refl

execute_gives-full : execute_gives 0 Full (vault_with [] ((read_at 1 ∷ []) ∷ []) (done 1 ∷ [])) ≡ vault_with [] ((read_at 1 ∷ []) ∷ []) (done 1 ∷ [])
execute_gives-full = refl

waiting_after-each : map (λ executed. waiting_after executed (read_at 0 ∷ read_at 1 ∷ [])) (Empty ∷ Full ∷ Ran 5 3 (request_with Rd16 0) (answers.Done false) ∷ []) ≡
    (read_at 0 ∷ read_at 1 ∷ []) ∷ (read_at 0 ∷ read_at 1 ∷ []) ∷ (read_at 1 ∷ []) ∷ []
waiting_after-each = refl

answers_after-each : map (λ executed. answers_after executed (done 1 ∷ [])) (Full ∷ Ran 5 3 (request_with Rd16 0) (answers.Done false) ∷ Ran 5 0 (request_with Pinc8 0) answers.Silent ∷ []) ≡
    (done 1 ∷ []) ∷ (done 1 ∷ done 3 ∷ []) ∷ (done 1 ∷ []) ∷ []
unfolding table_line reply_packet
answers_after-each = refl

-- a unit command of host 5, and its request
abbrev unit_packet : PacketFields
unit_packet = record (packet_with Unit1 0x10) { payload = replicate 16 9 }

abbrev unit_request : RequestFields
unit_request = record (request_with Unit1 0x10) { payload = replicate 16 9 }

-- the unit answers the old block, and has worked; without one the request is refused
execute_says-unit : execute_says (unit_packet ∷ []) [] 1 cube (Some (stamp_unit 6 1 3) ∷ []) ≡ Ran 5 3 unit_request (answers.Read false (replicate 16 0))
unfolding request_in payload_of table_line perform_on action_of memory_error padded_bytes stamp_unit
execute_says-unit = refl

execute_says-no_unit : execute_says (unit_packet ∷ []) [] 1 cube (Some (stamp_unit 5 1 3) ∷ []) ≡ Ran 5 3 unit_request (answers.Refused 6)
unfolding request_in payload_of table_line perform_on action_of memory_error stamp_unit
execute_says-no_unit = refl

slots_after-each : map (λ executed. slots_after executed cube (Some (stamp_unit 6 1 3) ∷ [])) (Empty ∷ Full ∷ Ran 5 3 (request_with Rd16 0) (answers.Done false) ∷ Ran 5 3 unit_request (answers.Done false) ∷ []) ≡
    (Some (stamp_unit 6 1 3) ∷ []) ∷ (Some (stamp_unit 6 1 3) ∷ []) ∷ (Some (stamp_unit 6 1 3) ∷ []) ∷ (Some (stamp_unit 6 1 4) ∷ []) ∷ []
unfolding table_line perform_on action_of memory_error padded_bytes stamp_unit
slots_after-each = refl

-- what was done, from the parts of the place that it is written into: where nothing was executed,
-- the request and the answer that are left there aren't shown
executed_of-each : map (λ kind. executed_of kind (request_with Rd16 16) answers.Silent) (kinds.Empty ∷ kinds.Full ∷ kinds.Ran 5 3 ∷ []) ≡ Empty ∷ Full ∷ Ran 5 3 (request_with Rd16 16) answers.Silent ∷ []
executed_of-each = refl

-- and without the request and the answer
kind_of-each : map kind_of (Empty ∷ Full ∷ Ran 5 3 (request_with Rd16 16) answers.Silent ∷ []) ≡ kinds.Empty ∷ kinds.Full ∷ kinds.Ran 5 3 ∷ []
kind_of-each = refl
