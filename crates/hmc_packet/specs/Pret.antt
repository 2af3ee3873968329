-- PRETs: what they are as packets, and their flit.
use Rattle.std.specs.Prelude.{ℕ, List, [], slice_index_or}
use Rattle.hmc_codes.specs.declared.command.Command.TheVariants.{Pret}
use Rattle.hmc_codes.specs.declared.profile.Profile.{Profile}
use Rattle.hmc_packet.specs.Packet.{PacketFields, null_packet}
use Rattle.hmc_packet.specs.Spelling.{spelling}

-- a PRET as a packet
abbrev pub pret_packet : PacketFields
pret_packet = record null_packet { command = Pret }

-- the word of its header: the code, and the length of one flit
abbrev pub pret_header : ℕ
pret_header = 0x81

-- its one flit
abbrev pub pret_flit : Profile → (rrp : ℕ) → List ℕ
pret_flit profile rrp = slice_index_or (spelling profile pret_packet rrp) 0 []
