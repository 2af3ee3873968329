-- What several writings of lines in a row come to.
use Rattle.std.proofs.Common.{◌≡◌, ◌<◌, ◌∙◌, ℕ, true, false, List, [], ◌∷◌, ◌++◌, length, Option, None, Some, refl, sym, ap, subst, append-nil, append_assoc, arith}
use Rattle.std.specs.Io.KnownBytes.{Appends}
use Rattle.std.specs.List.{concat}
use Rattle.std.proofs.KnownBytes.{Appends-nil, Appends-trans, Appends-kept}
use Rattle.std.proofs.lemmas.List.Folds.{concat-append}
use Rattle.hmc_outside.specs.Raised.{raised, raised_by}
use Rattle.hmc_outside.specs.Pieces.{pieces_of, with_pieces, WritesPrefix}
use Rattle.hmc_outside.specs.Views.{SinkView}
use Rattle.hmc_outside.specs.Finish.{Finishes, WritesAndFinishes}
use Rattle.hmc_outside.specs.Lines.{WritesLines, WritesSome, BreaksOff}

-- no pieces more
pub with_pieces-none : (shown : Option (List (List ℕ))) → shown ≡ with_pieces shown []
with_pieces-none None = refl
with_pieces-none (Some pieces) = ap Some (sym (append-nil pieces))

-- pieces, and then others
pub with_pieces-append : (shown : Option (List (List ℕ))) (first rest : List (List ℕ)) → with_pieces (with_pieces shown first) rest ≡ with_pieces shown (first ++ rest)
with_pieces-append None first rest = refl
with_pieces-append (Some pieces) first rest = ap Some (append_assoc pieces first rest)

-- a piece that has a byte
pub pieces_of-some : (bytes : List ℕ) → 0 < length bytes → pieces_of bytes ≡ bytes ∷ []
pieces_of-some [] some = absurd (omega (arith, some))
pieces_of-some (b ∷ bytes) some = refl

-- a count raised for some, and then for others
raised_by-append : (first rest : List (List ℕ)) (n : ℕ) → raised_by (length (first ++ rest)) n ≡ raised_by (length rest) (raised_by (length first) n)
unfolding raised_by
raised_by-append [] rest n = refl
raised_by-append (l ∷ first) rest n = raised_by-append first rest (raised n)

-- no lines were written
pub WritesLines-none : (a : SinkView) → WritesLines a a []
unfolding raised_by
WritesLines-none a = record { pieces = with_pieces-none a.pieces; bytes = Appends-nil a.bytes; writes = refl; finishes = refl; faults = refl }

-- one line was written
pub WritesLines-one : (a b : SinkView) (line : List ℕ) → 0 < length line → b.pieces ≡ with_pieces a.pieces (pieces_of line) → Appends a.bytes b.bytes line → b.writes ≡ raised a.writes → b.finishes ≡ a.finishes → b.faults ≡ a.faults → WritesLines a b (line ∷ [])
unfolding raised_by
WritesLines-one a b line some pieces bytes writes finishes faults =
    record { pieces = pieces ∙ ap (with_pieces a.pieces) (pieces_of-some line some); bytes = subst (Appends a.bytes b.bytes) (sym (append-nil line)) bytes; writes = writes; finishes = finishes; faults = faults }

-- the write of the one line failed
pub BreaksOff-one : (a b : SinkView) (line : List ℕ) → WritesPrefix a b line → b.writes ≡ raised a.writes → b.finishes ≡ a.finishes → b.finished ≡ false → b.faults ≡ raised a.faults → b.failed ≡ true → BreaksOff a b (line ∷ [])
unfolding raised_by
BreaksOff-one a b line prefix writes finishes last faults failed = record {
  whole = [];
  line = line;
  rest = [];
  parts = refl;
  prefix = prefix.prefix;
  cut = prefix.rest;
  halves = prefix.parts;
  pieces = prefix.pieces;
  bytes = prefix.appended;
  writes = writes;
  finishes = finishes;
  last = last;
  failed = failed;
  faults = faults;
}

-- lines, and then others
pub WritesLines-after : (a b c : SinkView) (first rest : List (List ℕ)) → WritesLines a b first → WritesLines b c rest → WritesLines a c (first ++ rest)
WritesLines-after a b c first rest p q = record {
  pieces = q.pieces ∙ ap (λ s. with_pieces s rest) p.pieces ∙ with_pieces-append a.pieces first rest;
  bytes = subst (Appends a.bytes c.bytes) (sym (concat-append first rest)) (Appends-trans a.bytes b.bytes c.bytes _ _ p.bytes q.bytes);
  writes = q.writes ∙ ap (raised_by (length rest)) p.writes ∙ sym (raised_by-append first rest a.writes);
  finishes = q.finishes ∙ p.finishes;
  faults = q.faults ∙ p.faults;
}

-- lines, and then some of others
pub WritesSome-after : (a b c : SinkView) (first rest : List (List ℕ)) → WritesLines a b first → WritesSome b c rest → WritesSome a c (first ++ rest)
WritesSome-after a b c first rest p q = record {
  whole = first ++ q.whole;
  rest = q.rest;
  parts = ap (λ l. first ++ l) q.parts ∙ sym (append_assoc first q.whole q.rest);
  written = WritesLines-after a b c first q.whole p q.written;
}

-- lines, and then others until a write failed
pub BreaksOff-after : (a b c : SinkView) (first rest : List (List ℕ)) → WritesLines a b first → BreaksOff b c rest → BreaksOff a c (first ++ rest)
BreaksOff-after a b c first rest p q = record {
  whole = first ++ q.whole;
  line = q.line;
  rest = q.rest;
  parts = ap (λ l. first ++ l) q.parts ∙ sym (append_assoc first q.whole (q.line ∷ q.rest));
  prefix = q.prefix;
  cut = q.cut;
  halves = q.halves;
  pieces = q.pieces ∙ ap (λ s. with_pieces s (q.whole ++ pieces_of q.prefix)) p.pieces ∙ with_pieces-append a.pieces first (q.whole ++ pieces_of q.prefix)
      ∙ ap (with_pieces a.pieces) (sym (append_assoc first q.whole (pieces_of q.prefix)));
  bytes = subst (Appends a.bytes c.bytes) (sym (append_assoc (concat first) (concat q.whole) q.prefix) ∙ ap (λ l. l ++ q.prefix) (sym (concat-append first q.whole))) (Appends-trans a.bytes b.bytes c.bytes _ _ p.bytes q.bytes);
  writes = q.writes ∙ ap (λ n. raised (raised_by (length q.whole) n)) p.writes ∙ ap raised (sym (raised_by-append first q.whole a.writes));
  finishes = q.finishes ∙ p.finishes;
  last = q.last;
  failed = q.failed;
  faults = q.faults ∙ ap raised p.faults;
}

-- the lines after the one that was broken off are the same
pub BreaksOff-after-rest : (a b c : SinkView) (first rest : List (List ℕ)) (p : WritesLines a b first) (q : BreaksOff b c rest) → (BreaksOff-after a b c first rest p q).rest ≡ q.rest
unfolding BreaksOff-after
BreaksOff-after-rest a b c first rest p q = refl

-- some of the lines are some of more lines
pub WritesSome-more : (a b : SinkView) (lines more : List (List ℕ)) → WritesSome a b lines → WritesSome a b (lines ++ more)
WritesSome-more a b lines more p = record {
  whole = p.whole;
  rest = p.rest ++ more;
  parts = ap (λ l. l ++ more) p.parts ∙ append_assoc p.whole p.rest more;
  written = p.written;
}

-- lines that were broken off are broken off among more lines
pub BreaksOff-more : (a b : SinkView) (lines more : List (List ℕ)) → BreaksOff a b lines → BreaksOff a b (lines ++ more)
BreaksOff-more a b lines more p = record {
  whole = p.whole;
  line = p.line;
  rest = p.rest ++ more;
  parts = ap (λ l. l ++ more) p.parts ∙ append_assoc p.whole (p.line ∷ p.rest) more;
  prefix = p.prefix;
  cut = p.cut;
  halves = p.halves;
  pieces = p.pieces;
  bytes = p.bytes;
  writes = p.writes;
  finishes = p.finishes;
  last = p.last;
  failed = p.failed;
  faults = p.faults;
}

-- lines that were all written are some of more lines
pub WritesSome-of_lines : (a b : SinkView) (lines more : List (List ℕ)) → WritesLines a b lines → WritesSome a b (lines ++ more)
WritesSome-of_lines a b lines more p = record { whole = lines; rest = more; parts = refl; written = p }

-- lines, and then a finish
pub WritesAndFinishes-after : (a b c : SinkView) (lines : List (List ℕ)) → WritesLines a b lines → Finishes b c → WritesAndFinishes a c lines
WritesAndFinishes-after a b c lines p q = record {
  pieces = q.pieces ∙ p.pieces;
  bytes = Appends-kept a.bytes b.bytes c.bytes _ p.bytes q.bytes;
  writes = q.writes ∙ p.writes;
  finishes = q.finishes ∙ ap raised p.finishes;
  last = q.last;
}

-- the bytes of a write's pieces are those of the write
pub concat-pieces_of : (bytes : List ℕ) → concat (pieces_of bytes) ≡ bytes
concat-pieces_of [] = refl
concat-pieces_of (b ∷ bytes) = append-nil (b ∷ bytes)

pub concat-more : (pieces pieces' : List (List ℕ)) (bytes : List ℕ) → pieces' ≡ pieces ++ pieces_of bytes → concat pieces' ≡ concat pieces ++ bytes
concat-more pieces pieces' bytes is = ap concat is ∙ concat-append pieces (pieces_of bytes) ∙ ap (λ l. concat pieces ++ l) (concat-pieces_of bytes)
