-- Rows that are read in turn.
use Rattle.std.proofs.Common.{◌≡◌, ℕ, ◌+◌, ◌<◌, ◌≤◌, List, [], ◌∷◌, ◌++◌, length, length-append, drop, get_or, Result, Ok, Err, ap, sym, ◌∙◌}
use Rattle.std.proofs.lemmas.List.{drop_all}
use Rattle.toml.proofs.Views.{items_view-drop}
use Rattle.toml.specs.Data.{Data}
use Rattle.toml.specs.View.{view, items_view}
use Rattle.toml.specs.declared.value.Value.{Value}
use Rattle.hmc_text.specs.Reading.{◌>>=◌}
use Rattle.hmc_case.specs.Reading.{Fault, in_turn, Gains, Answers}
use Rattle.hmc_case.specs.declared.fault.CaseFault.{CaseFault}
use Rattle.hmc_case.specs.declared.fault.CaseFault.TheVariants as faults

-- a good row
pub in_turn-ok : {A : Type 0} (read : List A → Data → Result A Fault) (vs : List Value) (i : ℕ) (v : Value) (old new : List A) (done : Unit {0}) →
    i < length vs → v ≡ get_or vs i v → Gains old new (Ok done) (read old (view v)) →
    in_turn read old (items_view (drop i vs)) ≡ in_turn read new (items_view (drop (i + 1) vs))
unfolding in_turn
in_turn-ok {A} read vs i v old new done h at (row, is, more) =
    let rest = items_view (drop (i + 1) vs) in
    rw (items_view-drop vs i v h, ← at)
    (ap (λ (r : Result A Fault). r >>= (λ row. in_turn read (old ++ row ∷ []) rest)) is ∙ ap (λ rows. in_turn read rows rest) (sym more))

-- a row with a fault
pub in_turn-err : {A X : Type 0} (seen : X → List A) (read : List A → Data → Result A Fault) (vs : List Value) (i : ℕ) (v : Value) (old new : List A) (fault : CaseFault) (whole : Result (List A) Fault) →
    i < length vs → v ≡ get_or vs i v → Gains old new (Err fault) (read old (view v)) →
    in_turn read old (items_view (drop i vs)) ≡ whole → Answers seen (Err fault) whole
unfolding in_turn
in_turn-err seen read vs i v old new faults.Memory whole h at gains so_far = tt
in_turn-err {A} seen read vs i v old new (faults.Bad section line what) whole h at gains so_far =
    let rest = items_view (drop (i + 1) vs) in
    sym so_far ∙ rw (items_view-drop vs i v h, ← at) (ap (λ (r : Result A Fault). r >>= (λ row. in_turn read (old ++ row ∷ []) rest)) gains)

-- after the last row
pub in_turn-end : {A : Type 0} (read : List A → Data → Result A Fault) (vs : List Value) (i : ℕ) (rows : List A) →
    length vs ≤ i → in_turn read rows (items_view (drop i vs)) ≡ Ok rows
unfolding in_turn
in_turn-end read vs i rows h = rw (drop_all i vs h)

-- the rows grow by one
pub Gains-length : {A : Type 0} (old new : List A) (done : Unit {0}) (read : Result A Fault) → Gains old new (Ok done) read → length new ≡ length old + 1
Gains-length old new done read (row, is, more) = ap length more ∙ simp length-append
