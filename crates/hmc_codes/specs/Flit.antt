-- A flit, and the flit of zeros. On a link the latter is a NULL; as a mask it changes nothing.
use Rattle.std.specs.Prelude.{◌≡◌, ℕ, List, length, replicate}
use Rattle.hmc_codes.specs.Bytes.{IsBytes}

-- a flit, or a mask of one: sixteen bytes
pub record IsFlit (flit : List ℕ) : Type 0 where
  pub bytes : IsBytes flit
  pub long : length flit ≡ 16

-- sixteen zero bytes
unfoldable pub zero_flit : List ℕ
zero_flit = replicate 16 0
