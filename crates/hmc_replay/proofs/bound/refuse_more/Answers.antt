-- The fault of a case that is not single was written, or a call of the sink failed.
use Rattle.std.proofs.Common.{[], ◌∷◌, refl}
use Rattle.hmc_replay.specs.BoundAnswer.{single_fault}
use Rattle.hmc_replay.proofs.bound.refuse_more.Goals as goal

pub returns-in-Ok : goal.returns-in-Ok
returns-in-Ok g c = λ setup more. record {
  lines = single_fault ∷ [];
  due = record { more = more; status_is = refl; lines_are = refl };
  written = c.in-Ok.ensures;
}

pub returns-in-Err : goal.returns-in-Err
returns-in-Err g c = λ setup more. record {
  status = 6;
  lines = single_fault ∷ [];
  due = record { more = more; status_is = refl; lines_are = refl };
  written = c.in-Err.ensures;
}
