-- What was given and what is left are what was left before.
use Rattle.std.proofs.Common.{◌≡◌, ◌-◌, ◌++◌, ℕ, List, length, min, take, drop, sym, ap, ◌∙◌}
use Rattle.std.proofs.Common.{take-append-drop}
use Rattle.std.proofs.lemmas.List.{take_rest, drop-drop}
use Rattle.hmc_outside.specs.Counts.{after_count}
use Rattle.hmc_outside.specs.SourceState.{SourceState, after_read}
use Rattle.hmc_outside.proofs.memory_source.MemorySourceSource.read.Goals as goal

pub returns-clause-moved : goal.returns-clause-moved
returns-clause-moved c =
    let n = c.give-count.result in
    let given = c.self.inside.given in
    let left = drop given c.self.inside.bytes.items in
    let front : take n c.give-count.new.into ≡ take n left =
    c.give-count.ensures.front ∙ ap (λ l. take n (take (length l - given) (drop given l)))
    c.deref-2.ensures.value
    ∙ ap (take n) (take_rest c.self.inside.bytes.items given)
    in
    ap (λ (s : SourceState). s.left) (sym c.self.view_is) ∙ sym (take-append-drop n left)
    ∙ ap (λ l. l ++ drop n left) (sym front)
    ∙ ap (λ l. take n c.give-count.new.into ++ l) (drop-drop n given c.self.inside.bytes.items)

-- the bytes to come, as the slice of them that is given from
next_bytes : (c : goal.After-count_read) →
    take (length c.deref-2.result.now - c.self.inside.given)
    (drop c.self.inside.given c.deref-2.result.now) ≡ c.args.self.now.left
next_bytes c =
    let given = c.self.inside.given in
    ap (λ (l : List ℕ). take (length l - given) (drop given l)) c.deref-2.ensures.value
    ∙ take_rest c.self.inside.bytes.items given
    ∙ ap (λ (s : SourceState). s.left) c.self.view_is

pub returns-clause-given : goal.returns-clause-given
returns-clause-given c =
    let n = c.give-count.result in
    c.give-count.ensures.given ∙ ap (λ (l : List ℕ). take n l ++ drop n c.args.into.now)
    (next_bytes c)

pub returns-clause-count : goal.returns-clause-count
returns-clause-count c =
    c.give-count.ensures.count ∙ ap (λ (l : List ℕ). min (length l) (length c.args.into.now))
    (next_bytes c)

pub returns-clause-after : goal.returns-clause-after
returns-clause-after c =
    let n = c.give-count.result in
    let asked = length c.args.into.now in
    let counts = c.count_read.ensures
    ∙ ap (λ (k : ℕ). after_count c.self.inside.counts n k) c.give-count.ensures.length in
    rw (counts, ← drop-drop n c.self.inside.given c.self.inside.bytes.items)
    (ap (λ (s : SourceState). after_read s n asked) c.self.view_is)
