-- The grammar of the packets of a profile: hmc_packet's readings as a Grammar.
use Rattle.std.specs.Prelude.{◌≡◌, ◌%◌, ℕ, List, [], ◌∷◌, Option, Some, None, Result, Ok, Err}
use Rattle.std.specs.Str.{bytes_eq}
use Rattle.hmc_codes.specs.Commands.{layout_of}
use Rattle.hmc_codes.specs.declared.layout.Layout.{Layout}
use Rattle.hmc_codes.specs.declared.layout.Layout.TheVariants as layouts
use Rattle.hmc_codes.specs.declared.profile.Profile.{Profile}
use Rattle.hmc_packet.specs.declared.bad.Bad.{Bad}
use Rattle.hmc_packet.specs.declared.bad.Bad.TheVariants as bads
use Rattle.hmc_packet.specs.declared.seen.Seen.{Seen}
use Rattle.hmc_packet.specs.Irtry.{kind_of}
use Rattle.hmc_packet.specs.Packet.{PacketFields, IsPacket, flits_of}
use Rattle.hmc_packet.specs.Parts.{lng_of}
use Rattle.hmc_packet.specs.Reading.{is_null, read_of}
use Rattle.hmc_packet.specs.Spelling.{training_flit}
use Rattle.hmc_packet.specs.Tail.{FitsField, tail_layout}
use Rattle.hmc_numbers.specs.Weights.{Weight, size}
use Rattle.hmc_numbers.specs.Pointers.{pointer}
use Rattle.hmc_wire.proofs.Grammar.{Kind, Read, Read as reads, Grammar}
use Rattle.hmc_wire.proofs.Words.{kind_as}

-- what was read, by its layout
abbrev pub read_by : Layout → PacketFields → ℕ → Read PacketFields Bad
read_by layouts.Null p r = reads.null
read_by layouts.Irtry p r = reads.irtry (kind_as (kind_of p.frp)) r
read_by layouts.Pret p r = reads.pret r
read_by layouts.Tret p r = reads.packet p r
read_by layouts.Ask p r = reads.packet p r
read_by layouts.Reply p r = reads.packet p r

-- what flits read as
abbrev pub read_as : Result Seen Bad → Read PacketFields Bad
read_as (Err b) = reads.bad b
read_as (Ok seen) = read_by (layout_of seen.packet.command) seen.packet seen.rrp

-- an IRTRY with its kind and its return pointer
abbrev pub irtry_of_read : Read PacketFields Bad → Option (Kind × ℕ)
irtry_of_read (reads.irtry k r) = Some (k, r)
irtry_of_read x = None

-- what a flit alone reads as, if it is an IRTRY
abbrev pub alone : Profile → List ℕ → Option (Kind × ℕ)
alone q flit = irtry_of_read (read_as (read_of q (flit ∷ [])))

-- packets and their flits as the laws of a link see them
abbrev pub grammar : Profile → Grammar
grammar q = record {
  profile = q;
  Flit = List ℕ;
  Packet = PacketFields;
  Bad = Bad;
  wrong_length = bads.Length;
  lng = lng_of;
  is_null = is_null;
  is_training = λ flit. bytes_eq flit training_flit;
  alone = alone q;
  read = λ flits. read_as (read_of q flits);
  flits = flits_of;
  frp = λ p. p.frp;
  seq = λ p. p.seq;
  poisoned = λ p. p.poisoned;
}

-- requests, responses and TRETs
abbrev pub IsSequenced : Layout → Type 0
IsSequenced layouts.Tret = Unit {0}
IsSequenced layouts.Ask = Unit {0}
IsSequenced layouts.Reply = Unit {0}
IsSequenced layout = ⊥

-- the n-th packet, with its numbers
pub record IsNumbered (q : Profile) (ps : List Weight) (n : ℕ) (p : PacketFields) : Type 0 where
  pub packet : IsPacket p
  pub sequenced : IsSequenced (layout_of p.command)
  pub flits : flits_of p ≡ size ps n
  pub frp : p.frp ≡ pointer q ps n
  pub seq : p.seq ≡ n % 8
  pub errstat : FitsField (tail_layout q).errstat p.errstat
