-- What is appended by a write in several parts, of which the last may have failed.
use Rattle.std.proofs.Common.{ℕ, ◌+◌, List, Option, take, drop, sym, subst, take-append-drop}
use Rattle.std.proofs.Math.Seq.{take-add}
use Rattle.std.specs.Io.KnownBytes.{Appends, Keeps}
use Rattle.std.proofs.KnownBytes.{Appends-trans, Appends-kept}
use Rattle.hmc_outside.specs.Prefix.{AppendsPrefix}

-- the first bytes are a prefix
AppendsPrefix-take : (a b : Option (List ℕ)) (n : ℕ) (bytes : List ℕ) → Appends a b (take n bytes) → AppendsPrefix a b bytes
AppendsPrefix-take a b n bytes p = record { prefix = take n bytes; rest = drop n bytes; parts = sym (take-append-drop n bytes); appended = p }

-- the first i bytes, and then n more
pub Appends-piece : (a b c : Option (List ℕ)) (i n : ℕ) (bytes : List ℕ) → Appends a b (take i bytes) → Appends b c (take n (drop i bytes)) → Appends a c (take (i + n) bytes)
Appends-piece a b c i n bytes p q = subst (Appends a c) (sym (take-add i n bytes)) (Appends-trans a b c _ _ p q)

-- the first i bytes, and then nothing
pub AppendsPrefix-stopped : (a b c : Option (List ℕ)) (i : ℕ) (bytes : List ℕ) → Appends a b (take i bytes) → Keeps b c → AppendsPrefix a c bytes
AppendsPrefix-stopped a b c i bytes p q = AppendsPrefix-take a c i bytes (Appends-kept a b c (take i bytes) p q)
