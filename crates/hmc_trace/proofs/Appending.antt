-- Requests that are appended one after another.
use Rattle.std.proofs.Common.{◌≡◌, ◌≤◌, ◌∙◌, ◌+◌, ℕ, List, [], ◌++◌, length, Result, Ok, Err, sym, ap, arith}
use Rattle.std.specs.Prelude.{map}
use Rattle.std.proofs.lemmas.List.{append_assoc, append-nil, map-append, length-append, length-map}
use Rattle.hmc_codes.specs.Request.{RequestFields}
use Rattle.hmc_script.specs.Items.{ItemFields}
use Rattle.hmc_text.specs.declared.fault.TextFault.{TextFault}
use Rattle.hmc_text.specs.declared.fault.TextFault.TheVariants as faults
use Rattle.hmc_accesses.specs.declared.fault.TraceKind.{TraceKind}
use Rattle.hmc_accesses.specs.Compiled.{item_of}
use Rattle.hmc_trace.specs.Appending.{Appends}

pub appends_none : (line : ℕ) (a : List ItemFields) → length a ≤ 65536 → Appends line a [] a (Ok tt)
appends_none line a few = (sym (append-nil a), omega arith)

-- some, and then more
pub appends_more : (line : ℕ) (a b c : List ItemFields) (xs ys : List RequestFields)
    (result : Result (Unit {0}) (TextFault TraceKind)) → Appends line a xs b (Ok tt) →
    Appends line b ys c result → Appends line a (xs ++ ys) c result
appends_more line a b c xs ys (Ok x) first second = (
  second.0 ∙ ap (λ l. l ++ map item_of ys) first.0
      ∙ append_assoc a (map item_of xs) (map item_of ys)
      ∙ ap (λ l. a ++ l) (sym (map-append item_of xs ys)),
  omega (arith, second.1, longer),
)
  where
    longer : length b + length ys ≡ length a + length (xs ++ ys)
    longer = ap (λ l. length l + length ys) first.0
        ∙ omega (
          arith,
          length-append a (map item_of xs),
          length-map xs item_of,
          length-append xs ys,
        )
appends_more line a b c xs ys (Err (faults.Memory)) first second = tt
appends_more line a b c xs ys (Err (faults.Fault at kind)) first second =
    (second.0, second.1, omega (arith, second.2, longer))
  where
    longer : length b + length ys ≡ length a + length (xs ++ ys)
    longer = ap (λ l. length l + length ys) first.0
        ∙ omega (
          arith,
          length-append a (map item_of xs),
          length-map xs item_of,
          length-append xs ys,
        )

-- an end before all of them
pub appends_less : (line : ℕ) (a b c : List ItemFields) (xs ys : List RequestFields)
    (e : TextFault TraceKind) → Appends line a xs b (Err e) → Appends line a (xs ++ ys) c (Err e)
appends_less line a b c xs ys faults.Memory first = tt
appends_less line a b c xs ys (faults.Fault at kind) first =
    (first.0, first.1, omega (arith, first.2, length-append xs ys))
