-- The packet of a request fits both profiles, since its pointers are zero, and is read back.
use Rattle.std.proofs.Common.{◌≡◌, ◌<◌, ◌^◌, ◌∙◌, ℕ, List, Some, Result, Ok, Err, false, lit<, refl, ap}
use Rattle.hmc_codes.specs.Request.{RequestFields, IsRequest}
use Rattle.hmc_codes.specs.declared.profile.Profile.{Profile}
use Rattle.hmc_codes.specs.declared.profile.Profile.TheVariants.{One, Two}
use Rattle.hmc_packet.specs.declared.bad.Bad.{Bad}
use Rattle.hmc_packet.specs.declared.seen.Seen.{Seen}
use Rattle.hmc_packet.specs.Packet.{PacketFields}
use Rattle.hmc_packet.specs.Spelling.{FitsProfile, spelling}
use Rattle.hmc_packet.specs.Reading.{read_of}
use Rattle.hmc_packet.specs.Transactions.{request_packet, request_in}
use Rattle.hmc_packet.proofs.ReadOf.{read_of-spelling}
use Rattle.hmc_packet.proofs.TransactionLemmas.{IsPacket-request_packet, request_in-request_packet}

pub request-fits : (profile : Profile) (r : RequestFields) (tag : ℕ) → FitsProfile profile (request_packet r tag 0 false) 0
unfolding request_packet
request-fits One r tag = record { below = lit< tt; forward = lit< tt; errstat = lit< tt; null = λ null. refl }
request-fits Two r tag = record { below = lit< tt; forward = lit< tt; errstat = lit< tt; null = λ null. refl }

-- what the packet of a request is sent as, reads as the packet
packet_read : (profile : Profile) (r : RequestFields) (tag : ℕ) (p : PacketFields) (flits : List (List ℕ)) → IsRequest r → tag < 2 ^ 11 → p ≡ request_packet r tag 0 false → flits ≡ spelling profile p 0 → read_of profile flits ≡ Ok (record { packet = request_packet r tag 0 false; rrp = 0 })
packet_read profile r tag p flits is below asked spelled =
    ap (read_of profile) (spelled ∙ ap (λ (q : PacketFields). spelling profile q 0) asked)
    ∙ read_of-spelling profile (request_packet r tag 0 false) 0 (IsPacket-request_packet r tag 0 false is below (lit< tt)) (request-fits profile r tag)

abbrev found : Seen → Result Seen Bad
found seen = Ok seen

found_is : (a b : Seen) → found a ≡ found b → a ≡ b
found_is a b e = cc

pub request_read : (profile : Profile) (r : RequestFields) (tag : ℕ) (p : PacketFields) (flits : List (List ℕ)) (seen : Seen) → IsRequest r → tag < 2 ^ 11 → p ≡ request_packet r tag 0 false → flits ≡ spelling profile p 0 → Ok seen ≡ read_of profile flits → request_in seen.packet ≡ Some r
request_read profile r tag p flits seen is below asked spelled reads =
    ap (λ (s : Seen). request_in s.packet) (found_is seen (record { packet = request_packet r tag 0 false; rrp = 0 }) (reads ∙ packet_read profile r tag p flits is below asked spelled))
    ∙ request_in-request_packet r tag 0 false is

pub never_refused : (profile : Profile) (r : RequestFields) (tag : ℕ) (p : PacketFields) (flits : List (List ℕ)) (bad : Bad) → IsRequest r → tag < 2 ^ 11 → p ≡ request_packet r tag 0 false → flits ≡ spelling profile p 0 → Err bad ≡ read_of profile flits → ⊥
never_refused profile r tag p flits bad is below asked spelled reads =
    let no = reads ∙ packet_read profile r tag p flits is below asked spelled in cc
