-- What a queue holds after one more entry.
use Rattle.std.proofs.Common.{◌≡◌, ◌≤◌, ◌<◌, ◌+◌, ◌∙◌, ℕ, zero, suc, Bool, true, false, List, [], ◌∷◌, ◌++◌, drop, length, refl, ap, arith, zero-add}
use Rattle.std.proofs.lemmas.List.{drop-append-le}
use Rattle.hmc_entries.specs.declared.entry.Entry.{Entry}
use Rattle.hmc_journal.specs.Queues.{QueueId, is_at, one_if, leaves, left, entered, contents}
use Rattle.hmc_journal.specs.Setup.{Setup}
use Rattle.hmc_journal.proofs.EntryRule.{EntryRule}
use Rattle.hmc_journal.proofs.Moves.{HasBegun, has_leaving, leaving_inside, entering}

-- without the front, where a test holds
abbrev pub pop : {X : Type 0} → Bool → List X → List X
pop true [] = []
pop true (x ∷ xs) = xs
pop false xs = xs

drop_next : {X : Type 0} (n : ℕ) (xs : List X) → drop (suc n) xs ≡ pop true (drop n xs)
drop_next zero [] = refl
drop_next zero (x ∷ xs) = refl
drop_next (suc n) [] = refl
drop_next (suc n) (x ∷ xs) = drop_next n xs

drop_pop : {X : Type 0} (goes : Bool) (n : ℕ) (xs more : List X) → n ≤ length xs → (goes ≡ true → n < length xs) → drop (one_if goes + n) (xs ++ more) ≡ pop goes (drop n xs) ++ more
drop_pop false n xs more within some = ap (λ (k : ℕ). drop k (xs ++ more)) (zero-add n) ∙ drop-append-le n xs more within
drop_pop true n xs more within some =
    let less = some refl in
    let next : 1 + n ≡ suc n = omega arith in
    ap (λ (k : ℕ). drop k (xs ++ more)) next ∙ drop-append-le (suc n) xs more (omega arith) ∙ ap (λ l. l ++ more) (drop_next n xs)

pub contents-more : (setup : Setup) (entry : Entry) (past : List Entry) (queue : QueueId) → EntryRule setup past entry → HasBegun setup past entry → ((q : QueueId) → left past q ≤ length (entered setup.topology past q))
    → contents setup.topology (entry ∷ past) queue ≡ pop (is_at (leaves past entry) queue) (contents setup.topology past queue) ++ entering setup.topology past entry queue
unfolding contents left entered entering
contents-more setup entry past queue right begun within =
    drop_pop (is_at (leaves past entry) queue) (left past queue) (entered setup.topology past queue) _ (within queue)
    (leaving_inside setup past queue (leaves past entry) (has_leaving setup past entry right begun))
