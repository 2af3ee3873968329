-- What a call does to known bytes that stayed as they were before it.
use Rattle.std.proofs.Common.{ℕ, List, Option, None, Some, ◌∙◌, sym}
use Rattle.std.specs.Io.KnownBytes.{Consumes, Keeps}

pub Consumes-after_Keeps : (a b c : Option (List ℕ)) (bytes : List ℕ) → Keeps a b → Consumes b c bytes → Consumes a c bytes
Consumes-after_Keeps None b c bytes p q = tt
Consumes-after_Keeps (Some x) None c bytes p q = absurd p
Consumes-after_Keeps (Some x) (Some y) None bytes p q = absurd q
Consumes-after_Keeps (Some x) (Some y) (Some z) bytes p q = sym p ∙ q
