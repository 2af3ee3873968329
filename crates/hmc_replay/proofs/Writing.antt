-- Writing lines one after another, whatever the result.
use Rattle.std.proofs.Common.{inl, inr, true, false, ◌≡◌, ◌<◌, ◌∙◌, ℕ, List, [], ◌∷◌, ◌++◌, length, ap, Result, Ok, Err, OnOk, OnErr, IsErrAnd}
use Rattle.std.specs.Io.KnownBytes.{Appends}
use Rattle.hmc_outside.specs.Finish.{Finishes, FailsToHandOn}
use Rattle.hmc_outside.specs.Lines.{WritesLines, BreaksOff}
use Rattle.hmc_outside.specs.Pieces.{pieces_of, with_pieces, WritesPrefix}
use Rattle.hmc_outside.specs.Raised.{raised}
use Rattle.hmc_outside.specs.Views.{SinkView}
use Rattle.hmc_outside.specs.declared.counts.Failed.{Failed}
use Rattle.hmc_outside.proofs.LinesLemmas.{WritesLines-one, WritesLines-after, WritesAndFinishes-after, BreaksOff-one, BreaksOff-after, BreaksOff-more}
use Rattle.hmc_replay.specs.Output.{Writes, Delivers}

-- one write
pub Writes-one : (a b : SinkView) (line : List ℕ) (result : Result (Unit {0}) Failed) → 0 < length line → b.writes ≡ raised a.writes → b.finishes ≡ a.finishes → b.finished ≡ false
    → OnOk result (b.pieces ≡ with_pieces a.pieces (pieces_of line)) → OnOk result (Appends a.bytes b.bytes line) → OnOk result (b.faults ≡ a.faults) → OnErr result (WritesPrefix a b line) → OnErr result (b.faults ≡ raised a.faults) → OnErr result (b.failed ≡ true)
    → Writes result a b (line ∷ [])
Writes-one a b line (Ok done) some writes finishes last piece bytes sound prefix fault failed = WritesLines-one a b line some piece bytes writes finishes sound
Writes-one a b line (Err error) some writes finishes last piece bytes sound prefix fault failed = BreaksOff-one a b line prefix writes finishes last fault failed

-- lines, and then others
pub Writes-after : {T : Type 0} (a b c : SinkView) (first rest : List (List ℕ)) (result : Result T Failed) → WritesLines a b first → Writes result b c rest → Writes result a c (first ++ rest)
Writes-after a b c first rest (Ok done) p q = WritesLines-after a b c first rest p q
Writes-after a b c first rest (Err error) p q = BreaksOff-after a b c first rest p q

-- lines, and then others that were broken off among more lines
pub BreaksOff-among : (a b c : SinkView) (first lines more : List (List ℕ)) → WritesLines a b first → BreaksOff b c lines → BreaksOff a c (first ++ (lines ++ more))
BreaksOff-among a b c first lines more p q = BreaksOff-after a b c first (lines ++ more) p (BreaksOff-more b c lines more q)

-- an error that is forwarded as it is
pub passed_on : {T : Type 0} (a b : SinkView) (lines : List (List ℕ)) (error : Failed) (result : Result T Failed) → IsErrAnd result (λ told. told ≡ error) → BreaksOff a b lines → Writes result a b lines
passed_on a b lines error (Ok done) told p = absurd told
passed_on a b lines error (Err cause) told p = p

-- what was broken off is not delivered
pub ended_early : {T : Type 0} (a b : SinkView) (lines : List (List ℕ)) (error : Failed) (result : Result T Failed) → IsErrAnd result (λ told. told ≡ error) → BreaksOff a b lines → Delivers result a b lines
ended_early a b lines error (Ok done) told p = absurd told
ended_early a b lines error (Err cause) told p = inl p

-- nor is it where the finish failed
pub not_finished : {T : Type 0} (a b : SinkView) (lines : List (List ℕ)) (error : Failed) (result : Result T Failed) → IsErrAnd result (λ told. told ≡ error) → FailsToHandOn a b lines → Delivers result a b lines
not_finished a b lines error (Ok done) told p = absurd told
not_finished a b lines error (Err cause) told p = p

-- lines, and then a finish
pub Delivers-after : (a b c : SinkView) (lines : List (List ℕ)) (result : Result (Unit {0}) Failed) → WritesLines a b lines → Finishes b c → OnOk result (c.faults ≡ b.faults) → OnOk result (c.failed ≡ false)
    → OnErr result (c.faults ≡ raised b.faults) → OnErr result (c.failed ≡ true) → Delivers result a c lines
Delivers-after a b c lines (Ok done) p q sound not_failed fault failed =
    record { calls = WritesAndFinishes-after a b c lines p q; faults = sound ∙ p.faults; not_failed = not_failed }
Delivers-after a b c lines (Err error) p q sound not_failed fault failed =
    inr (record { calls = WritesAndFinishes-after a b c lines p q; faults = fault ∙ ap raised p.faults; failed = failed })

-- an error that is known
pub err_is : {T E : Type 0} (result : Result T E) (error : E) → IsErrAnd result (λ told. told ≡ error) → result ≡ Err error
err_is (Ok done) error told = absurd told
err_is (Err cause) error told = ap Err told
