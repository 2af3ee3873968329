-- Plain numbers, computed: which name a packet, and what is spelled.
use Rattle.std.proofs.Common.{◌≡◌, ◌^◌, true, false, Some, None, Err, refl}
use Rattle.hmc_codes.specs.Bytes.{padded_bytes}
use Rattle.hmc_codes.specs.Codes.{command_of, all_commands}
use Rattle.hmc_codes.specs.Table.{table_line}
use Rattle.hmc_codes.specs.declared.command.Command.TheVariants.{Rd16}
use Rattle.hmc_codes.specs.declared.profile.Profile.TheVariants.{One, Two}
use Rattle.hmc_packet.specs.Packet.{null_packet}
use Rattle.hmc_packet.specs.declared.bad.Bad.TheVariants.{Length}
use Rattle.hmc_codec.specs.Plain.{fits_profile, packet_named, plain_of, plain_read}
use Rattle.hmc_codec.specs.declared.plain.PlainPacket.{PlainPacket}

-- a read of 16 bytes
read : PlainPacket
unfolding padded_bytes
read = plain_of (record {
  packet = record null_packet { command = Rd16; tag = 5; address = 64; cube = 1; frp = 7 };
  rrp = 600;
})

read-named : packet_named read
    ≡ Some (record null_packet { command = Rd16; tag = 5; address = 64; cube = 1; frp = 7 })
unfolding read command_of all_commands table_line padded_bytes
read-named = refl

-- its pointer fits profile two alone
read-fits_two : fits_profile Two read ≡ true
unfolding read command_of all_commands table_line padded_bytes
read-fits_two = refl

read-fits_one : fits_profile One read ≡ false
unfolding read command_of all_commands table_line padded_bytes
read-fits_one = refl

-- no such command, a cube that can't be, an address that is too high, a byte of payload, an error
-- number in a request, and a NULL with a tag
read-command : packet_named (record read { command = 200 }) ≡ None
unfolding read command_of all_commands table_line padded_bytes
read-command = refl

read-cube : packet_named (record read { cube = 8 }) ≡ None
unfolding read command_of all_commands table_line padded_bytes
read-cube = refl

read-address : packet_named (record read { address = 2 ^ 34 }) ≡ None
unfolding read command_of all_commands table_line padded_bytes
read-address = refl

read-length : packet_named (record read { length = 16 }) ≡ None
unfolding read command_of all_commands table_line padded_bytes
read-length = refl

read-long : packet_named (record read { length = 257 }) ≡ None
unfolding read command_of all_commands table_line padded_bytes
read-long = refl

read-errstat : packet_named (record read { errstat = 1 }) ≡ None
unfolding read command_of all_commands table_line padded_bytes
read-errstat = refl

read-null : packet_named (record read { command = 0 }) ≡ None
unfolding read command_of all_commands table_line padded_bytes
read-null = refl

bad-stays : plain_read (Err Length) ≡ Err Length
bad-stays = refl
