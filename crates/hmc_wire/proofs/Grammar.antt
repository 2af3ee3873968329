-- How flits read, as far as the laws of a link speak of it. PacketGrammar shows that the packets
-- of hmc_packet are such a grammar.
use Rattle.std.specs.Prelude.{ℕ, Bool, List, Option}
use Rattle.hmc_codes.specs.declared.profile.Profile.{Profile}

-- the two kinds of an IRTRY
pub data Kind : Type 0 where
  start : Kind
  clear : Kind

-- what the flits of a packet read as: the first test that they fail, or a packet and its return
-- pointer
pub data Read (P B : Type 0) : Type 0 where
  bad : B → Read P B
  null : Read P B
  irtry : Kind → ℕ → Read P B
  pret : ℕ → Read P B
  packet : P → ℕ → Read P B

-- flits, packets, and how flits read as packets
pub record Grammar : Type 1 where
  pub profile : Profile
  pub Flit : Type 0
  pub Packet : Type 0
  pub Bad : Type 0
  pub wrong_length : Bad
  pub lng : Flit → ℕ
  pub is_null : Flit → Bool
  pub is_training : Flit → Bool
  pub alone : Flit → Option (Kind × ℕ)  -- a good IRTRY that the flit reads as by itself
  pub read : List Flit → Read Packet Bad
  pub flits : Packet → ℕ
  pub frp : Packet → ℕ
  pub seq : Packet → ℕ
  pub poisoned : Packet → Bool
