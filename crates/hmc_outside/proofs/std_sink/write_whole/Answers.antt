-- A piece that was taken adds to the first bytes, and one that wasn't changes nothing.
use Rattle.std.proofs.Common.{Result, Ok, Err, OnErr, arith, length-drop}
use Rattle.std.proofs.lemmas.List.{take_rest}
use Rattle.hmc_outside.proofs.PrefixLemmas.{Appends-piece, AppendsPrefix-stopped}
use Rattle.hmc_outside.proofs.std_sink.write_whole.Goals as goal

on_error : {T E : Type 0} (r : Result T E) (P : Type 0) → P → OnErr r P
on_error (Ok x) P p = tt
on_error (Err e) P p = p

pub returns-in_err-sent-clause-prefix : goal.returns-in_err-sent-clause-prefix
returns-in_err-sent-clause-prefix g c =
    on_error c.from_residual.result _ (AppendsPrefix-stopped _ _ _ _ _ c.pieces.invariant.appended c.in_err-sent.ensures.unchanged)

pub pieces-preserved : goal.pieces-preserved
pieces-preserved g c =
    record {
      within = let fits = simp (take_rest, length-drop) at c.in_ok-sent.ensures.within in omega arith;
      appended = Appends-piece _ _ _ c.pieces.sent c.in_ok-sent.field-0 _ c.pieces.invariant.appended (rw take_rest at c.in_ok-sent.ensures.appended);
    }
