-- The bytes of answers, one after another.
use Rattle.std.proofs.Common.{◌≡◌, ◌≤◌, ◌<◌, ◌∙◌, ◌+◌, ◌-◌, ◌==◌, ◌&&◌, ℕ, zero, suc, Bool, true, false, List, [], ◌∷◌, ◌++◌, length, take, Option, Some, None, Result, Ok, Err, IfOk, refl, sym, ap, arith}
use Rattle.std.specs.Prelude.{map, slice_index_or, option_and_then, option_map, reverse, if◌then◌else◌}
use Rattle.std.specs.List.{filter_map, slice_get, cons_option}
use Rattle.std.proofs.lemmas.List.{append_assoc, append-nil, reverse-append}
use Rattle.hmc_codes.specs.declared.answer.Answer.{Answer}
use Rattle.hmc_journal.specs.Choice.{append_if}
use Rattle.hmc_entries.specs.declared.entry.Entry.{Entry}
use Rattle.hmc_entries.specs.declared.entry.Entry.TheVariants.{Gave, Took}
use Rattle.hmc_journal.specs.Filters.{answers_under}
use Rattle.hmc_script.specs.Items.{ItemFields}
use Rattle.hmc_accesses.specs.declared.load.Load.{Load}
use Rattle.hmc_accesses.specs.InOrder.{gave_tag, took_answer, answer_in_order, known_answer, count_tag, match_under}
use Rattle.hmc_accesses.specs.Compiled.{CompiledFields}
use Rattle.hmc_accesses.specs.Value.{tags_given, answer_under, answer_of, bytes_at, joined, cut, load_value, value_in, read_bytes, size_of}

-- ---- the loop

joined_step : (answer : ℕ → Option Answer) (script : List ItemFields) (n count : ℕ) (b : List ℕ) →
    bytes_at answer script n ≡ Some b → joined answer script n (suc count) ≡ option_map
    (λ more. b ++ more) (joined answer script (n + 1) count)
unfolding joined
joined_step answer script n count b is =
    ap (option_and_then (λ bytes. option_map (λ more. bytes ++ more)
    (joined answer script (n + 1) count))) is

map_both : (bs b : List ℕ) (o : Option (List ℕ)) →
    option_map (λ more. bs ++ more) (option_map (λ more. b ++ more) o) ≡ option_map
    (λ more. (bs ++ b) ++ more) o
map_both bs b None = refl
map_both bs b (Some more) = ap Some (sym (append_assoc bs b more))

pub joined_more : (answer : ℕ → Option Answer) (script : List ItemFields) (n last : ℕ)
    (bs b : List ℕ) (whole : Option (List ℕ)) → n < last → bytes_at answer script n ≡ Some b →
    option_map (λ more. bs ++ more) (joined answer script n (last - n)) ≡ whole →
    option_map (λ more. (bs ++ b) ++ more) (joined answer script (n + 1) (last - (n + 1))) ≡ whole
joined_more answer script n last bs b whole less is so_far =
    sym (map_both bs b (joined answer script (n + 1) (last - (n + 1))))
    ∙ ap (option_map (λ more. bs ++ more)) (sym (joined_step answer script n (last - (n + 1)) b is))
    ∙ ap (λ c. option_map (λ more. bs ++ more) (joined answer script n c)) same ∙ so_far
  where
    same : suc (last - (n + 1)) ≡ last - n
    same = omega arith

joined_stop : (answer : ℕ → Option Answer) (script : List ItemFields) (n count : ℕ) →
    bytes_at answer script n ≡ None → joined answer script n (suc count) ≡ None
unfolding joined
joined_stop answer script n count is =
    ap (option_and_then (λ bytes. option_map (λ more. bytes ++ more)
    (joined answer script (n + 1) count))) is

pub joined_none : (answer : ℕ → Option Answer) (script : List ItemFields) (n last : ℕ) (bs : List ℕ)
    (whole : Option (List ℕ)) → n < last → bytes_at answer script n ≡ None →
    option_map (λ more. bs ++ more) (joined answer script n (last - n)) ≡ whole → None ≡ whole
joined_none answer script n last bs whole less is so_far =
    sym (ap (option_map (λ more. bs ++ more)) (ap (joined answer script n) same
    ∙ joined_stop answer script n (last - (n + 1)) is)) ∙ so_far
  where
    same : last - n ≡ suc (last - (n + 1))
    same = omega arith

pub joined_end : (answer : ℕ → Option Answer) (script : List ItemFields) (n last : ℕ) (bs : List ℕ)
    (whole : Option (List ℕ)) → last ≤ n →
    option_map (λ more. bs ++ more) (joined answer script n (last - n)) ≡ whole → Some bs ≡ whole
unfolding joined
joined_end answer script n last bs whole most so_far =
    ap Some (sym (append-nil bs))
    ∙ ap (λ c. option_map (λ more. bs ++ more) (joined answer script n c)) same ∙ so_far
  where
    same : 0 ≡ last - n
    same = omega arith

map_nothing : (o : Option (List ℕ)) → option_map (λ more. [] ++ more) o ≡ o
map_nothing None = refl
map_nothing (Some more) = refl

pub joined_start : (answer : ℕ → Option Answer) (script : List ItemFields) (first count : ℕ) →
    option_map (λ more. [] ++ more) (joined answer script first (first + count - first))
    ≡ joined answer script first count
joined_start answer script first count =
    map_nothing (joined answer script first (first + count - first))
    ∙ ap (joined answer script first) same
  where
    same : first + count - first ≡ count
    same = omega arith

past_end : {X : Type 0} (xs : List X) (n : ℕ) → length xs ≤ n → slice_get xs n ≡ None
past_end [] n past = refl
past_end (x ∷ xs) zero past = absurd (omega arith)
past_end (x ∷ xs) (suc n) past = past_end xs n (omega arith)

-- requests that the script hasn't are not answered
pub joined_past : (answer : ℕ → Option Answer) (script : List ItemFields) (n count : ℕ) →
    length script < n + count → (count ≡ 0 → ⊥) → joined answer script n count ≡ None
unfolding joined
joined_past answer script n zero past some = absurd (some refl)
joined_past answer script n (suc count) past some =
    by_bytes (bytes_at answer script n) refl count past (λ more less. joined_past answer script
    (n + 1) count more less)
  where
    by_bytes : (found : Option (List ℕ)) → bytes_at answer script n ≡ found → (c : ℕ) →
        length script < n + suc c → (length script < n + 1 + c → (c ≡ 0 → ⊥) →
        joined answer script (n + 1) c ≡ None)
        → option_and_then (λ bytes. option_map (λ more. bytes ++ more)
        (joined answer script (n + 1) c)) found ≡ None
    by_bytes None at c past more = refl
    by_bytes (Some b) at zero past more =
        let none : bytes_at answer script n ≡ None =
        ap (option_and_then (λ item. option_and_then (read_bytes (size_of item)) (answer n)))
        (past_end script n (omega arith)) in
        absurd (cc)
    by_bytes (Some b) at (suc c) past more =
        ap (option_map (λ l. b ++ l)) (more (omega arith) (λ is. absurd (omega arith)))

-- ---- a journal and its entries in order

tags-front : (past : List Entry) (e : Entry) → tags_given 0 (past ++ e ∷ []) ≡ cons_option
    (gave_tag e) (tags_given 0 past)
unfolding tags_given
tags-front [] (Gave host tag poisoned request) =
    elim (host == 0) as (λ b. append_if b (tag ∷ []) [] ≡ cons_option (if b then Some tag else None)
    []) [
      | true ↦ refl
      | false ↦ refl
    ]
tags-front [] e = refl
tags-front (Gave host tag poisoned request ∷ past) e =
    ap (append_if (host == 0) (tag ∷ [])) (tags-front past e) ∙ inner (host == 0) (gave_tag e)
  where
    inner : (b : Bool) (o : Option (Option ℕ)) →
        append_if b (tag ∷ []) (cons_option o (tags_given 0 past)) ≡ cons_option o
        (append_if b (tag ∷ []) (tags_given 0 past))
    inner true None = refl
    inner true (Some x) = refl
    inner false o = refl
tags-front (first ∷ past) e = tags-front past e

tags_in_order : (journal : List Entry) →
    tags_given 0 (reverse journal) ≡ filter_map gave_tag journal
unfolding tags_given
tags_in_order [] = refl
tags_in_order (e ∷ journal) = ap (tags_given 0) (reverse-append (e ∷ []) journal)
    ∙ tags-front (reverse journal) e ∙ ap (cons_option (gave_tag e)) (tags_in_order journal)

answers-front : (t : ℕ) (past : List Entry) (e : Entry) →
    answers_under 0 t (past ++ e ∷ []) ≡ cons_option (took_answer t e) (answers_under 0 t past)
unfolding answers_under
answers-front t [] (Took host tag answer) =
    elim ((host == 0) && (tag == t)) as (λ b. append_if b (answer ∷ []) [] ≡ cons_option
    (if b then Some answer else None) []) [
      | true ↦ refl
      | false ↦ refl
    ]
answers-front t [] e = refl
answers-front t (Took host tag answer ∷ past) e =
    ap (append_if ((host == 0) && (tag == t)) (answer ∷ [])) (answers-front t past e)
    ∙ inner ((host == 0) && (tag == t)) (took_answer t e)
  where
    inner : (b : Bool) (o : Option Answer) →
        append_if b (answer ∷ []) (cons_option o (answers_under 0 t past)) ≡ cons_option o
        (append_if b (answer ∷ []) (answers_under 0 t past))
    inner true None = refl
    inner true (Some x) = refl
    inner false o = refl
answers-front t (first ∷ past) e = answers-front t past e

answers_in_order : (t : ℕ) (journal : List Entry) → answers_under 0 t (reverse journal) ≡ filter_map
    (took_answer t) journal
unfolding answers_under
answers_in_order t [] = refl
answers_in_order t (e ∷ journal) = ap (answers_under 0 t) (reverse-append (e ∷ []) journal)
    ∙ answers-front t (reverse journal) e
    ∙ ap (cons_option (took_answer t e)) (answers_in_order t journal)

-- what was given and taken, by the entries in order
abbrev under_in_order : List Entry → (n : ℕ) → Option ℕ → Option Answer
under_in_order journal n tag =
    match_under (filter_map gave_tag journal) (λ t. filter_map (took_answer t) journal) n tag

under_same : (journal : List Entry) (n : ℕ) (tag : Option ℕ) →
    under_in_order journal n tag ≡ answer_under (reverse journal) n tag
under_same journal n None = refl
under_same journal n (Some t) =
    ap (λ l. slice_get l (count_tag (take n (filter_map gave_tag journal)) t))
    (sym (answers_in_order t journal))
    ∙ ap (λ l. slice_get (answers_under 0 t (reverse journal)) (count_tag (take n l) t))
    (sym (tags_in_order journal))

pub same_answer : (journal : List Entry) (n : ℕ) →
    answer_in_order journal n ≡ answer_of (reverse journal) n
unfolding answer_of
same_answer journal n =
    ap (λ l. option_and_then (under_in_order journal n) (slice_get l n))
    (sym (tags_in_order journal))
    ∙ by_tag (slice_get (tags_given 0 (reverse journal)) n)
  where
    by_tag : (o : Option (Option ℕ)) →
        option_and_then (under_in_order journal n) o
        ≡ option_and_then (answer_under (reverse journal) n) o
    by_tag None = refl
    by_tag (Some tag) = under_same journal n tag

same_bytes : (f g : ℕ → Option Answer) (script : List ItemFields) (n : ℕ) → ((k : ℕ) → f k ≡ g k) →
    bytes_at f script n ≡ bytes_at g script n
same_bytes f g script n same = by_item (slice_get script n)
  where
    by_item : (o : Option ItemFields) →
        option_and_then (λ item. option_and_then (read_bytes (size_of item)) (f n)) o
        ≡ option_and_then (λ item. option_and_then (read_bytes (size_of item)) (g n)) o
    by_item None = refl
    by_item (Some item) = ap (option_and_then (read_bytes (size_of item))) (same n)

same_joined : (f g : ℕ → Option Answer) (script : List ItemFields) (n count : ℕ) →
    ((k : ℕ) → f k ≡ g k) → joined f script n count ≡ joined g script n count
unfolding joined
same_joined f g script n zero same = refl
same_joined f g script n (suc count) same =
    ap (option_and_then (λ bytes. option_map (λ more. bytes ++ more)
    (joined f script (n + 1) count))) (same_bytes f g script n same)
    ∙ ap (λ rest. option_and_then (λ bytes. option_map (λ more. bytes ++ more) rest)
    (bytes_at g script n)) (same_joined f g script (n + 1) count same)

-- the value by the answers is the value by the journal
pub known_value : (answers : List (Option Answer)) (journal : List Entry) (script : List ItemFields)
    (load : Load) → ((n : ℕ) → known_answer answers n ≡ answer_in_order journal n) →
    load_value (known_answer answers) script load ≡ load_value (answer_of (reverse journal)) script
    load
unfolding load_value
known_value answers journal script load known =
    ap (option_map (cut load))
    (same_joined (known_answer answers) (answer_of (reverse journal)) script load.first load.count
    (λ n. known n ∙ same_answer journal n))

pub joined_zero : (answer : ℕ → Option Answer) (script : List ItemFields) (n count : ℕ)
    (bs : List ℕ) → count ≡ 0 → bs ≡ [] → Some bs ≡ joined answer script n count
unfolding joined
joined_zero answer script n count bs none empty = ap Some empty
    ∙ ap (joined answer script n) (sym none)

-- the value of a load, as the call promises it
pub value_gives : {V E : Type 0} (items : V → List ℕ) (result : Result (Option V) E)
    (compiled : CompiledFields) (script : List ItemFields) (answers : List (Option Answer))
    (journal : List Entry) (i : ℕ) (load : Load) → script ≡ compiled.script →
    slice_get compiled.loads i ≡ Some load →
    ((n : ℕ) → known_answer answers n ≡ answer_in_order journal n) →
    IfOk result (λ b. option_map items b ≡ load_value (known_answer answers) script load) →
    IfOk result (λ b. (own : Load) → slice_get compiled.loads i ≡ Some own →
    option_map items b ≡ value_in compiled (reverse journal) own)
value_gives items (Ok b) compiled script answers journal i load script_is at known gives =
    λ own own_at.
    let same : load ≡ own = same_some load own (sym at ∙ own_at) in
    gives ∙ known_value answers journal script load known
    ∙ ap (λ s. load_value (answer_of (reverse journal)) s load) script_is
    ∙ ap (λ l. load_value (answer_of (reverse journal)) compiled.script l) same
  where
    same_some : (x y : Load) → ◌≡◌ {A = Option Load} (Some x) (Some y) → x ≡ y
    same_some x y is = cc
value_gives items (Err e) compiled script answers journal i load script_is at known gives = tt

-- the values of all loads
pub values_give : {V E : Type 0} (shown : V → List (Option (List ℕ))) (result : Result V E)
    (compiled : CompiledFields) (script : List ItemFields) (loads : List Load)
    (answers : List (Option Answer)) (journal : List Entry) → script ≡ compiled.script →
    loads ≡ compiled.loads → ((n : ℕ) → known_answer answers n ≡ answer_in_order journal n) →
    IfOk result (λ v. shown v ≡ map (load_value (known_answer answers) script) loads) →
    IfOk result (λ v. shown v ≡ map (value_in compiled (reverse journal)) compiled.loads)
values_give shown (Ok v) compiled script loads answers journal script_is loads_are known gives =
    gives ∙ all loads ∙ ap (map (value_in compiled (reverse journal))) loads_are
  where
    one : (load : Load) →
        load_value (known_answer answers) script load ≡ value_in compiled (reverse journal) load
    one load = known_value answers journal script load known
        ∙ ap (λ s. load_value (answer_of (reverse journal)) s load) script_is

    all : (some : List Load) →
        map (load_value (known_answer answers) script) some
        ≡ map (value_in compiled (reverse journal)) some
    all [] = refl
    all (load ∷ more) =
        ap (λ x. x ∷ map (load_value (known_answer answers) script) more) (one load)
        ∙ ap (λ l. value_in compiled (reverse journal) load ∷ l) (all more)
values_give shown (Err e) compiled script loads answers journal script_is loads_are known gives = tt

pub get_at : {X : Type 0} (xs all : List X) (i : ℕ) (d : X) → xs ≡ all → i < length all →
    slice_get all i ≡ Some (slice_index_or xs i d)
get_at {X = X} xs all i d same less = there all i less
    ∙ ap (λ l. Some (slice_index_or l i d)) (sym same)
  where
    there : (ys : List X) (j : ℕ) → j < length ys → slice_get ys j ≡ Some (slice_index_or ys j d)
    there [] j less = absurd (omega arith)
    there (y ∷ ys) zero less = refl
    there (y ∷ ys) (suc j) less = there ys j (omega arith)
