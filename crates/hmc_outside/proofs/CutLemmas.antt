-- Bytes cut into pieces: all of them, their lengths, and one piece more.
use Rattle.std.proofs.Common.{◌≡◌, ◌≤◌, ◌<◌, ◌∙◌, ℕ, ◌+◌, List, [], ◌∷◌, ◌++◌, length, take, drop, refl, sym, ap, arith, take-append-drop, length-drop, length-append}
use Rattle.std.specs.Prelude.{map}
use Rattle.std.specs.List.{concat}
use Rattle.std.proofs.lemmas.List.{drop-append-le, take-append-le, length-take-le}
use Rattle.std.proofs.Math.Seq.{take-length}
use Rattle.hmc_outside.specs.Cut.{cut, total, ArePieces}
use Rattle.hmc_outside.specs.Pieces.{pieces_of}
use Rattle.hmc_outside.proofs.LinesLemmas.{pieces_of-some}

rest_is : (bytes : List ℕ) (n rest : ℕ) → n + rest ≡ length bytes → rest ≡ length (drop n bytes)
rest_is bytes n rest is = omega (arith, is, length-drop n bytes)

first_within : (bytes : List ℕ) (n rest : ℕ) → n + rest ≡ length bytes → n ≤ length bytes
first_within bytes n rest is = omega (arith, is)

-- the pieces together are the bytes
pub concat-cut : (bytes lengths : List ℕ) → total lengths ≡ length bytes → concat (cut bytes lengths) ≡ bytes
concat-cut [] [] is = refl
concat-cut (b ∷ bytes) [] is = cc
concat-cut bytes (n ∷ lengths) is =
    ap (λ l. take n bytes ++ l) (concat-cut (drop n bytes) lengths (rest_is bytes n (total lengths) is)) ∙ take-append-drop n bytes

-- they have these lengths
pub lengths-cut : (bytes lengths : List ℕ) → total lengths ≡ length bytes → lengths ≡ map length (cut bytes lengths)
lengths-cut bytes [] is = refl
lengths-cut bytes (n ∷ lengths) is =
    ap (λ m. m ∷ lengths) (sym (length-take-le n bytes (first_within bytes n (total lengths) is)))
    ∙ ap (λ l. length (take n bytes) ∷ l) (lengths-cut (drop n bytes) lengths (rest_is bytes n (total lengths) is))

-- one piece more
pub cut-more : (bytes lengths piece : List ℕ) → total lengths ≡ length bytes → cut (bytes ++ piece) (lengths ++ length piece ∷ []) ≡ cut bytes lengths ++ piece ∷ []
cut-more [] [] piece is = ap (λ p. p ∷ []) (take-length piece)
cut-more (b ∷ bytes) [] piece is = cc
cut-more bytes (n ∷ lengths) piece is =
    let within = first_within bytes n (total lengths) is in
    ap (λ p. p ∷ cut (drop n (bytes ++ piece)) (lengths ++ length piece ∷ [])) (take-append-le n bytes piece within)
    ∙ ap (λ l. take n bytes ∷ cut l (lengths ++ length piece ∷ [])) (drop-append-le n bytes piece within)
    ∙ ap (λ l. take n bytes ∷ l) (cut-more (drop n bytes) lengths piece (rest_is bytes n (total lengths) is))

-- one length more
pub total-more : (lengths : List ℕ) (n : ℕ) → total (lengths ++ n ∷ []) ≡ total lengths + n
total-more [] n = omega arith
total-more (m ∷ lengths) n = omega (arith, total-more lengths n)

-- one piece more, in lists that grew by it
pub cut-grown : (held lengths piece held' lengths' : List ℕ) → total lengths ≡ length held → 0 < length piece → held' ≡ held ++ piece → lengths' ≡ lengths ++ length piece ∷ []
    → cut held' lengths' ≡ cut held lengths ++ pieces_of piece
cut-grown held lengths piece held' lengths' whole some held_is lengths_is =
    ap (λ h. cut h lengths') held_is ∙ ap (cut (held ++ piece)) lengths_is ∙ cut-more held lengths piece whole
    ∙ ap (λ p. cut held lengths ++ p) (sym (pieces_of-some piece some))

pub ArePieces-grown : (held lengths piece held' lengths' : List ℕ) (room b l b' l' : ℕ) → ArePieces held lengths room b l → 0 < length piece → length held + length piece ≤ room
    → held' ≡ held ++ piece → lengths' ≡ lengths ++ length piece ∷ [] → b ≤ b' → l' ≡ l → ArePieces held' lengths' room b' l'
ArePieces-grown held lengths piece held' lengths' room b l b' l' before some within held_is lengths_is more same =
    let held_length : length held' ≡ length held + length piece = ap length held_is ∙ length-append held piece in
    let lengths_length : length lengths' ≡ length lengths + 1 = ap length lengths_is ∙ length-append lengths (length piece ∷ []) in
    let all : total lengths' ≡ total lengths + length piece = ap total lengths_is ∙ total-more lengths (length piece) in
    record {
      whole = omega (arith, all, held_length, before.whole);
      few = omega (arith, held_length, lengths_length, before.few, some);
      within = omega (arith, held_length, within);
      bytes_room = omega (arith, more, before.bytes_room);
      lengths_room = omega (arith, same, before.lengths_room);
    }
