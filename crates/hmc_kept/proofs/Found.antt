-- The flits that are found at the end of a direction.
use Rattle.std.proofs.Common.{◌≡◌, ◌≤◌, ◌<◌, ◌&&◌, ◌∙◌, ℕ, Bool, true, not, Option, Some, None, List, [], ◌∷◌, length, refl, sym, ap, ap₂, subst, arith, eq-eqb, le-leb}
use Rattle.std.specs.Prelude.{is_some, is_none, slice_get, slice_index_or, option_and_then}
use Rattle.hmc_packet.specs.declared.head.Head.{Head}
use Rattle.hmc_packet.specs.Head.{head_in}
use Rattle.hmc_packet.specs.Parts.{lng_of}
use Rattle.hmc_send.specs.LinkCalls.{names_flits}
use Rattle.hmc_kept.specs.Shown.{some_flits, AreShort}
use Rattle.hmc_journal.proofs.Packets.{head_lng}

pub flits_first : (flits : List (List ℕ)) → option_and_then (λ (l : List (List ℕ)). slice_get l 0) (some_flits flits) ≡ slice_get flits 0
flits_first [] = refl
flits_first (first ∷ rest) = refl

-- flits that are found
pub record AreFound (flits all : List (List ℕ)) : Type 0 where
  pub same : flits ≡ all
  pub some : 1 ≤ length flits
  pub first : slice_get all 0 ≡ Some (slice_index_or flits 0 [])

pub found_by : (flits all : List (List ℕ)) → Some flits ≡ some_flits all → AreFound flits all
found_by flits [] is = absurd (cc)
found_by flits (first ∷ rest) is =
    let same : flits ≡ first ∷ rest = cc in record {
      same = same;
      some = subst (λ (l : List (List ℕ)). 1 ≤ length l) (sym same) (omega arith);
      first = ap (λ (l : List (List ℕ)). Some (slice_index_or l 0 [])) (sym same);
    }

pub none_by : (all : List (List ℕ)) → None ≡ some_flits all → all ≡ []
none_by [] is = refl
none_by (first ∷ rest) is = absurd (cc)

-- fewer than the first one names, at most 17
pub record IsShort (flits : List (List ℕ)) : Type 0 where
  pub more : length flits < lng_of (slice_index_or flits 0 [])
  pub few : lng_of (slice_index_or flits 0 []) ≤ 17

pub short_by : (flits : List (List ℕ)) → 1 ≤ length flits → AreShort flits → IsShort flits
short_by [] some short = absurd (omega arith)
short_by (first ∷ rest) some short = record { more = short.0; few = short.1 }

pub names_lng : (flit : List ℕ) (head : Head) → head_in flit ≡ Some head → 2 ≤ lng_of flit → names_flits (lng_of flit) (head_in flit) ≡ true
names_lng flit head is two =
    ap (names_flits (lng_of flit)) is
    ∙ ap₂ (λ (a b : Bool). a && b) (le-leb 2 (lng_of flit) two) (eq-eqb head.flits (lng_of flit) (head_lng flit head is))

pub not_some : {X : Type 0} (x : Option X) → not (is_some x) ≡ is_none x
not_some None = refl
not_some (Some x) = refl

pub head_here : (head : Head) (first : List ℕ) (found : Option (List ℕ)) → Some head ≡ option_and_then head_in found → found ≡ Some first → head_in first ≡ Some head
head_here head first found is at = sym (is ∙ ap (option_and_then head_in) at)
