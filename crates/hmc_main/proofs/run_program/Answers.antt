use Rattle.std.proofs.Common.{◌≡◌, Result, Ok, IfOk, sym, subst}
use Rattle.hmc_main.proofs.run_program.Goals as goal

-- what holds of an Ok
of_ok : (T E : Type 0) (r : Result T E) (x : T) (P : T → Type 0) → r ≡ Ok x → P x → IfOk r P
of_ok T E r x P is p = subst (λ (q : Result T E). IfOk q P) (sym is) p

pub returns-in-Ok-clause-ended : goal.returns-in-Ok-clause-ended
returns-in-Ok-clause-ended g c = of_ok _ _ c.args.sink c.in-Ok.sink _ c.in-Ok.is (c.end.new.sink, c.end.ensures.ended)

pub returns-in-Ok-clause-complete : goal.returns-in-Ok-clause-complete
returns-in-Ok-clause-complete g c = of_ok _ _ c.args.sink c.in-Ok.sink _ c.in-Ok.is c.end.ensures.complete
