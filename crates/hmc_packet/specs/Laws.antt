-- What the laws for the link speak of.
use Rattle.hmc_codes.specs.declared.profile.Profile.{Profile}
use Rattle.std.specs.Prelude.{◌≡◌, ℕ, List, ◌∷◌}
use Rattle.hmc_packet.specs.Packet.{PacketFields, IsPacket}
use Rattle.hmc_packet.specs.Spelling.{FitsProfile, spelling}

-- these are the flits of a packet that is sent with this pointer: the first one and the others
pub record IsSentAs (profile : Profile) (p : PacketFields) (rrp : ℕ)
    (first : List ℕ) (rest : List (List ℕ)) : Type 0 where
  pub packet : IsPacket p
  pub pointer : FitsProfile profile p rrp
  pub flits : spelling profile p rrp ≡ first ∷ rest
