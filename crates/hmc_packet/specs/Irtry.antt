-- IRTRYs: what they are as packets, and which flits are one.
use Rattle.std.specs.Prelude.{ℕ, ◌==◌, if◌then◌else◌, List, [], ◌∷◌, slice_index_or, Option, Some, None, Result, Ok, Err}
use Rattle.hmc_codes.specs.declared.command.Command.{Command}
use Rattle.hmc_codes.specs.declared.command.Command.TheVariants.{Irtry}
use Rattle.hmc_codes.specs.declared.layout.Layout.TheVariants as layouts
use Rattle.hmc_codes.specs.declared.profile.Profile.{Profile}
use Rattle.hmc_packet.specs.declared.bad.Bad.{Bad}
use Rattle.hmc_packet.specs.declared.kind.Kind.{Kind}
use Rattle.hmc_packet.specs.declared.kind.Kind.TheVariants.{Start, Clear}
use Rattle.hmc_packet.specs.declared.seen.Seen.{Seen}
use Rattle.hmc_packet.specs.Packet.{PacketFields, null_packet}
use Rattle.hmc_packet.specs.Parts.{tail_in}
use Rattle.hmc_packet.specs.Reading.{read_of}
use Rattle.hmc_packet.specs.Spelling.{spelling}
use Rattle.hmc_packet.specs.Tail.{tail_of}

-- the forward pointer says which of the two an IRTRY is
abbrev pub kind_pointer : Kind → ℕ
kind_pointer Start = 1
kind_pointer Clear = 2

-- an IRTRY as a packet
abbrev pub irtry_packet : Kind → PacketFields
irtry_packet kind = record null_packet { command = Irtry; frp = kind_pointer kind }

-- the word of its header, whatever its kind: the code, and the length of one flit
abbrev pub irtry_header : ℕ
irtry_header = 0x83

-- its one flit
unfoldable pub irtry_flit : Profile → Kind → (rrp : ℕ) → List ℕ
irtry_flit profile kind rrp = slice_index_or (spelling profile (irtry_packet kind) rrp) 0 []

-- which of the two a forward pointer says
abbrev pub kind_of : (frp : ℕ) → Kind
kind_of frp = if frp == 1 then Start else Clear

-- the kind and the return pointer of a packet that is an IRTRY
abbrev pub irtry_by : Command → (frp rrp : ℕ) → Option (Kind × ℕ)
irtry_by Irtry frp rrp = Some (kind_of frp, rrp)
irtry_by _ frp rrp = None

-- the same of what flits read as
abbrev pub irtry_seen : Result Seen Bad → Option (Kind × ℕ)
irtry_seen (Ok seen) = irtry_by seen.packet.command seen.packet.frp seen.rrp
irtry_seen (Err bad) = None

-- a flit that reads alone as an IRTRY: its kind and its return pointer
unfoldable pub irtry_in : Profile → List ℕ → Option (Kind × ℕ)
irtry_in profile flit = irtry_seen (read_of profile (flit ∷ []))
