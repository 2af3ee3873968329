-- What is known of a flit on the line that is not changed. Used by most files on flits.
use Rattle.std.specs.Prelude.{◌≡◌, ℕ, zero, suc, ◌%◌, true, false, List, [], ◌∷◌, ◌++◌, Some, None}
use Rattle.hmc_numbers.specs.Weights.{Weight, size}
use Rattle.hmc_numbers.specs.Pointers.{pointer}
use Rattle.hmc_numbers.specs.Direction.{Filler as fill, Item}
use Rattle.hmc_numbers.specs.Direction.Item.{filler, clear, part}
use Rattle.hmc_wire.proofs.Grammar.{Kind, Kind as kinds, Read as reads, Grammar}

-- the flits of packets as they were sent, and the packets that were sent whole
pub record Sent (G : Grammar) : Type 0 where
  pub front : ℕ → ℕ → G.Flit
  pub packet : ℕ → G.Packet

-- the first k flits of packet n
abbrev pub fronts : {F : Type 0} → (ℕ → F) → ℕ → List F
fronts g zero = []
fronts g (suc k) = fronts g k ++ g k ∷ []

-- an IRTRY of a kind
pub record IsIrtry (G : Grammar) (k : Kind) (f : G.Flit) : Type 0 where
  pub r : ℕ
  pub some : G.is_null f ≡ false
  pub lng : G.lng f ≡ 1
  pub alone : G.alone f ≡ Some (k, r)
  pub read : G.read (f ∷ []) ≡ reads.irtry k r

pub record IsPret (G : Grammar) (f : G.Flit) : Type 0 where
  pub r : ℕ
  pub some : G.is_null f ≡ false
  pub lng : G.lng f ≡ 1
  pub alone : G.alone f ≡ None
  pub read : G.read (f ∷ []) ≡ reads.pret r

pub record IsFirst (G : Grammar) (flits : ℕ) (f : G.Flit) : Type 0 where
  pub some : G.is_null f ≡ false
  pub lng : G.lng f ≡ flits
  pub alone : G.alone f ≡ None

pub record IsWhole (G : Grammar) (ps : List Weight) (n : ℕ) (p : G.Packet) : Type 0 where
  pub flits : G.flits p ≡ size ps n
  pub frp : G.frp p ≡ pointer G.profile ps n
  pub seq : G.seq p ≡ n % 8

abbrev pub IsFlit : (G : Grammar) → Sent G → List Weight → (n k more : ℕ) → G.Flit → Type 0
IsFlit G s ps n k (suc more) f = f ≡ s.front n k
IsFlit G s ps n k zero f = IsWhole G ps n (s.packet n) × ((r : ℕ) × (G.read (fronts (s.front n) k ++ f ∷ []) ≡ reads.packet (s.packet n) r))

abbrev pub Spelled : (G : Grammar) → Sent G → List Weight → Item → G.Flit → Type 0
Spelled G s ps (filler fill.null) f = (G.is_null f ≡ true) × (G.alone f ≡ None)
Spelled G s ps (filler fill.train) f = G.alone f ≡ None
Spelled G s ps (filler fill.pret) f = IsPret G f
Spelled G s ps (filler fill.start) f = IsIrtry G kinds.start f
Spelled G s ps clear f = IsIrtry G kinds.clear f
Spelled G s ps (part n k more) f = (k ≡ 0 → IsFirst G (size ps n) f) × IsFlit G s ps n k more f
