-- A packet that is sent grows, flit by flit, whatever pointer each is sent with.
use Rattle.std.proofs.Common.{◌≡◌, ◌∙◌, ◌<◌, ◌+◌, ◌-◌, ℕ, List, [], ◌∷◌, ◌++◌, take, get_or, sym, ap, arith}
use Rattle.std.proofs.lemmas.List.{take_more, take_all, get_or-take}
use Rattle.hmc_codes.specs.declared.profile.Profile.{Profile}
use Rattle.hmc_packet.specs.Packet.{PacketFields, IsPacket, flits_of}
use Rattle.hmc_packet.specs.Spelling.{spelling}
use Rattle.hmc_packet.proofs.LinkLemmas.{length-spelling}
use Rattle.hmc_packet.proofs.FrontLemmas.{front-same, SameHead-refl}

-- all pointers give the same flits before the last
fronts : (profile : Profile) (p : PacketFields) (r s : ℕ) → IsPacket p → take (flits_of p - 1) (spelling profile p r) ≡ take (flits_of p - 1) (spelling profile p s)
fronts profile p r s is = front-same profile p p r s is is (SameHead-refl p)

pub grown-front : (profile : Profile) (p : PacketFields) (r s k : ℕ) → IsPacket p → k + 1 < flits_of p →
    take k (spelling profile p r) ++ get_or (spelling profile p s) k [] ∷ [] ≡ take (k + 1) (spelling profile p r)
grown-front profile p r s k is lt =
    let n = flits_of p - 1 in
    let below : k < n = omega arith in
    let flit : get_or (spelling profile p s) k [] ≡ get_or (spelling profile p r) k [] =
    sym (get_or-take n (spelling profile p s) k [] below)
    ∙ ap (λ (l : List (List ℕ)). get_or l k []) (fronts profile p s r is)
    ∙ get_or-take n (spelling profile p r) k [] below in
    ap (λ (f : List ℕ). take k (spelling profile p r) ++ f ∷ []) flit
    ∙ sym (take_more (spelling profile p r) k [] (omega (arith, length-spelling profile p r is)))

-- with its last flit it is the spelling with the pointer of that flit
pub grown-whole : (profile : Profile) (p : PacketFields) (r s k : ℕ) → IsPacket p → k + 1 ≡ flits_of p →
    take k (spelling profile p r) ++ get_or (spelling profile p s) k [] ∷ [] ≡ spelling profile p s
grown-whole profile p r s k is last =
    let at : k ≡ flits_of p - 1 = omega arith in
    let size = length-spelling profile p s is in
    let front : take k (spelling profile p r) ≡ take k (spelling profile p s) =
    ap (λ (n : ℕ). take n (spelling profile p r)) at ∙ fronts profile p r s is ∙ ap (λ (n : ℕ). take n (spelling profile p s)) (sym at) in
    ap (λ (l : List (List ℕ)). l ++ get_or (spelling profile p s) k [] ∷ []) front
    ∙ sym (take_more (spelling profile p s) k [] (omega (arith, size)))
    ∙ take_all (k + 1) (spelling profile p s) (omega (arith, size))
