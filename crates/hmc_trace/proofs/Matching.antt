-- Requests and answers are matched in order, entry by entry.
use Rattle.std.proofs.Common.{◌≡◌, ◌≤◌, ◌<◌, ◌∙◌, ◌+◌, ◌==◌, ◌&&◌, ℕ, zero, suc, Bool, true, false, List, [], ◌∷◌, ◌++◌, length, take, drop, Option, Some, None, refl, sym, ap, arith, nat_lt, length-append, ltb-true, ◌⊎◌, inl, inr}
use Rattle.std.proofs.lemmas.Bool.{ltb-false, cases_lt}
use Rattle.std.specs.Prelude.{slice_index_or, filter, option_and_then, if◌then◌else◌}
use Rattle.std.specs.List.{filter_map, slice_get, cons_option}
use Rattle.std.proofs.lemmas.List.{drop_more, drop_all, append_assoc}
use Rattle.hmc_trace.specs.Queues.{queue_of, IsAdded, IsMatched, first_under}
use Rattle.hmc_accesses.specs.InOrder.{gave_tag, took_answer, tagged_answer, count_tag, match_of, match_under}
use Rattle.hmc_codes.specs.declared.answer.Answer.{Answer}
use Rattle.hmc_entries.specs.declared.entry.Entry.{Entry}
use Rattle.hmc_entries.specs.declared.entry.Entry.TheVariants.{Took}
use Rattle.hmc_journal.specs.Filters.{same_tag}

-- ---- the answers that were taken

took_none : (t : ℕ) (e : Entry) → tagged_answer e ≡ None → took_answer t e ≡ None
took_none t (Took host tag answer) is = by (host == 0) is
  where
    by : (b : Bool) → ◌≡◌ {A = Option (ℕ × Answer)} (if b then Some (tag, answer) else None) None →
        (if b && (tag == t) then Some answer else None) ≡ None
    by true is = absurd (cc)
    by false is = refl
took_none t e is = refl

took_some : (t tag : ℕ) (answer : Answer) (e : Entry) → tagged_answer e ≡ Some (tag, answer) →
    took_answer t e ≡ (if tag == t then Some answer else None)
took_some t tag answer (Took host own given) is = by (host == 0) is
  where
    by : (b : Bool) → ◌≡◌ {A = Option (ℕ × Answer)} (if b then Some (own, given) else None)
        (Some (tag, answer)) →
        (if b && (own == t) then Some given else None) ≡ (if tag == t then Some answer else None)
    by true is =
        let pair : (own, given) ≡ (tag, answer) = cc in
        ap (λ (p : ℕ × Answer). if p.0 == t then Some p.1 else None) pair
    by false is = absurd (cc)
took_some t tag answer e is = absurd (cc)

-- an entry of a list, and what comes after it
next_mapped : {X Y : Type 0} (f : X → Option Y) (xs : List X) (i : ℕ) (x : X) → i < length xs →
    x ≡ slice_index_or xs i x →
    filter_map f (drop i xs) ≡ cons_option (f x) (filter_map f (drop (i + 1) xs))
next_mapped f xs i x less at =
    ap (filter_map f) (drop_more xs i x less)
    ∙ ap (λ z. cons_option (f z) (filter_map f (drop (i + 1) xs))) (sym at)

-- the next request
pub next_given : (journal : List Entry) (i : ℕ) (e : Entry) (found : Option (Option ℕ))
    (tag : Option ℕ) → i < length journal → e ≡ slice_index_or journal i e → found ≡ gave_tag e →
    found ≡ Some tag →
    filter_map gave_tag (drop i journal) ≡ tag ∷ filter_map gave_tag (drop (i + 1) journal)
next_given journal i e found tag less at given is =
    next_mapped gave_tag journal i e less at
    ∙ ap (λ o. cons_option o (filter_map gave_tag (drop (i + 1) journal))) (sym given ∙ is)

-- an entry that gives none
pub nothing_given : (journal : List Entry) (i : ℕ) (e : Entry) (found : Option (Option ℕ)) →
    i < length journal → e ≡ slice_index_or journal i e → found ≡ gave_tag e → found ≡ None →
    filter_map gave_tag (drop i journal) ≡ filter_map gave_tag (drop (i + 1) journal)
nothing_given journal i e found less at given is =
    next_mapped gave_tag journal i e less at
    ∙ ap (λ o. cons_option o (filter_map gave_tag (drop (i + 1) journal))) (sym given ∙ is)

-- nothing is left
pub none_left : {X Y : Type 0} (f : X → Option Y) (xs : List X) (i : ℕ) → length xs ≤ i →
    filter_map f (drop i xs) ≡ []
none_left f xs i most = ap (filter_map f) (drop_all i xs most)

-- in what follows the queues have what was taken so far
pub nothing_added : (journal : List Entry) (i : ℕ) (e : Entry) (queues : List (List Answer)) →
    i < length journal → e ≡ slice_index_or journal i e → tagged_answer e ≡ None →
    ((t : ℕ) → queue_of queues t ++ filter_map (took_answer t) (drop i journal)
    ≡ filter_map (took_answer t) journal) → (t : ℕ) →
    queue_of queues t ++ filter_map (took_answer t) (drop (i + 1) journal)
    ≡ filter_map (took_answer t) journal
nothing_added journal i e queues less at is so_far t =
    ap (λ l. queue_of queues t ++ l)
    (sym (next_mapped (took_answer t) journal i e less at
    ∙ ap (λ o. cons_option o (filter_map (took_answer t) (drop (i + 1) journal)))
    (took_none t e is)))
    ∙ so_far t

pub one_added : (journal : List Entry) (i : ℕ) (e : Entry) (old new : List (List Answer)) (tag : ℕ)
    (answer : Answer)
    → i < length journal → e ≡ slice_index_or journal i e → tagged_answer e ≡ Some (tag, answer) →
    IsAdded old new tag answer →
    ((t : ℕ) → queue_of old t ++ filter_map (took_answer t) (drop i journal)
    ≡ filter_map (took_answer t) journal) → (t : ℕ) →
    queue_of new t ++ filter_map (took_answer t) (drop (i + 1) journal)
    ≡ filter_map (took_answer t) journal
one_added journal i e old new tag answer less at is added so_far t =
    ap (λ l. l ++ rest) (added t) ∙ by (tag == t)
    ∙ ap (λ l. queue_of old t ++ l)
    (sym (next_mapped (took_answer t) journal i e less at
    ∙ ap (λ o. cons_option o rest) (took_some t tag answer e is)))
    ∙ so_far t
  where
    rest : List Answer
    rest = filter_map (took_answer t) (drop (i + 1) journal)

    by : (b : Bool) → (if b then queue_of old t ++ answer ∷ [] else queue_of old t) ++ rest
        ≡ queue_of old t ++ cons_option (if b then Some answer else None) rest
    by true = append_assoc (queue_of old t) (answer ∷ []) rest
    by false = refl

-- ---- requests with their answers

-- the requests before the rest have their answers, which are no longer in the queues
pub record Matches {X : Type 0} (given rest : List (Option ℕ)) (took : ℕ → List X)
    (queues : List (List X)) (answers : List (Option X)) : Type 0 where
  pub rest_is : drop (length answers) given ≡ rest
  pub queues_are : (t : ℕ) →
      queue_of queues t ≡ drop (count_tag (take (length answers) given) t) (took t)
  pub known : (k : ℕ) → k < length answers → slice_get answers k ≡ Some (match_of given took k)

pub matched_start : {X : Type 0} (given : List (Option ℕ)) (took : ℕ → List X)
    (queues : List (List X))
    → ((t : ℕ) → queue_of queues t ≡ took t) → Matches given given took queues []
matched_start given took queues same = record {
  rest_is = refl;
  queues_are = same;
  known = λ k less. absurd (omega arith);
}

first_left : {X : Type 0} (xs rest : List X) (n : ℕ) (x : X) → drop n xs ≡ x ∷ rest →
    slice_get xs n ≡ Some x
first_left [] rest zero x is = absurd (cc)
first_left [] rest (suc n) x is = absurd (cc)
first_left (y ∷ xs) rest zero x is = let same : y ≡ x = cc in ap Some same
first_left (y ∷ xs) rest (suc n) x is = first_left xs rest n x is

rest_left : {X : Type 0} (xs rest : List X) (n : ℕ) (x : X) → drop n xs ≡ x ∷ rest →
    drop (suc n) xs ≡ rest
rest_left [] rest zero x is = absurd (cc)
rest_left [] rest (suc n) x is = absurd (cc)
rest_left (y ∷ xs) rest zero x is = cc
rest_left (y ∷ xs) rest (suc n) x is = rest_left xs rest n x is

one_taken : {X : Type 0} (xs rest : List X) (n : ℕ) (x : X) → drop n xs ≡ x ∷ rest →
    take (suc n) xs ≡ take n xs ++ x ∷ []
one_taken [] rest zero x is = absurd (cc)
one_taken [] rest (suc n) x is = absurd (cc)
one_taken (y ∷ xs) rest zero x is = let same : y ≡ x = cc in ap (λ z. z ∷ []) same
one_taken (y ∷ xs) rest (suc n) x is = ap (λ l. y ∷ l) (one_taken xs rest n x is)

first_of : {X : Type 0} (xs : List X) (k : ℕ) → slice_get (drop k xs) 0 ≡ slice_get xs k
first_of xs zero = refl
first_of [] (suc k) = refl
first_of (x ∷ xs) (suc k) = first_of xs k

drop_one : {X : Type 0} (xs : List X) (k : ℕ) → drop 1 (drop k xs) ≡ drop (suc k) xs
drop_one xs zero = refl
drop_one [] (suc k) = refl
drop_one (x ∷ xs) (suc k) = drop_one xs k

-- one tag more is counted, or not
count_more : (tags : List (Option ℕ)) (tag : Option ℕ) (t : ℕ) →
    count_tag (tags ++ tag ∷ []) t
    ≡ (if same_tag tag t then suc (count_tag tags t) else count_tag tags t)
count_more [] tag t = by (same_tag tag t)
  where
    by : (b : Bool) → length (if b then tag ∷ [] else []) ≡ (if b then 1 else 0)
    by true = refl
    by false = refl
count_more (other ∷ tags) tag t = by (same_tag other t) (same_tag tag t) (count_more tags tag t)
  where
    by : (a b : Bool) →
        count_tag (tags ++ tag ∷ []) t ≡ (if b then suc (count_tag tags t) else count_tag tags t) →
        length (if a then other ∷ filter (λ o. same_tag o t) (tags ++ tag ∷ []) else filter (λ o.
        same_tag o t) (tags ++ tag ∷ []))
        ≡ (if b then suc (length (if a then other ∷ filter (λ o. same_tag o t) tags else
        filter (λ o. same_tag o t) tags))
        else length (if a then other ∷ filter (λ o. same_tag o t) tags else filter (λ o.
        same_tag o t) tags))
    by true true is = ap suc is
    by true false is = ap suc is
    by false true is = is
    by false false is = is

get_front : {X : Type 0} (xs : List X) (x : X) (k : ℕ) → k < length xs →
    slice_get (xs ++ x ∷ []) k ≡ slice_get xs k
get_front [] x k less = absurd (omega arith)
get_front (y ∷ xs) x zero less = refl
get_front (y ∷ xs) x (suc k) less = get_front xs x k (omega arith)

get_last : {X : Type 0} (xs : List X) (x : X) → slice_get (xs ++ x ∷ []) (length xs) ≡ Some x
get_last [] x = refl
get_last (y ∷ xs) x = get_last xs x

get_past : {X : Type 0} (xs : List X) (k : ℕ) → length xs ≤ k → slice_get xs k ≡ None
get_past [] k most = refl
get_past (y ∷ xs) zero most = absurd (omega arith)
get_past (y ∷ xs) (suc k) most = get_past xs k (omega arith)

-- one request more has its answer
pub matched_one : {X : Type 0} (given rest : List (Option ℕ)) (took : ℕ → List X)
    (queues queues' : List (List X)) (answers : List (Option X)) (tag : Option ℕ)
    (answer : Option X)
    → Matches given (tag ∷ rest) took queues answers → answer ≡ first_under queues tag →
    IsMatched queues queues' tag → Matches given rest took queues' (answers ++ answer ∷ [])
matched_one {X = X} given rest took queues queues' answers tag answer matches first moved = record {
  rest_is = ap (λ n. drop n given) many ∙ rest_left given rest n tag matches.rest_is;
  queues_are = λ t. queue t ∙ ap (λ m. drop (count_tag (take m given) t) (took t)) (sym many);
  known = λ k less. known_at k less (cases_lt k (length answers));
}
  where
    n : ℕ
    n = length answers

    many : length (answers ++ answer ∷ []) ≡ suc n
    many = omega (arith, length-append answers (answer ∷ []))

    counted : (t : ℕ) → count_tag (take (suc n) given) t
        ≡ (if same_tag tag t then suc (count_tag (take n given) t) else count_tag (take n given) t)
    counted t = ap (λ l. count_tag l t) (one_taken given rest n tag matches.rest_is)
        ∙ count_more (take n given) tag t

    after : (o : Option ℕ) (t : ℕ) → IsMatched queues queues' o → queue_of queues' t
        ≡ drop (if same_tag o t then suc (count_tag (take n given) t) else count_tag (take n given)
        t) (took t)
    after None t moved = moved t ∙ matches.queues_are t
    after (Some own) t moved = moved t ∙ by (own == t)
      where
        by : (b : Bool) → (if b then drop 1 (queue_of queues t) else queue_of queues t)
            ≡ drop (if b then suc (count_tag (take n given) t) else count_tag (take n given) t)
            (took t)
        by true = ap (drop 1) (matches.queues_are t)
            ∙ drop_one (took t) (count_tag (take n given) t)
        by false = matches.queues_are t

    queue : (t : ℕ) → queue_of queues' t ≡ drop (count_tag (take (suc n) given) t) (took t)
    queue t = after tag t moved ∙ ap (λ m. drop m (took t)) (sym (counted t))

    found : (o : Option ℕ) → first_under queues o ≡ match_under given took n o
    found None = refl
    found (Some own) = ap (λ q. slice_get q 0) (matches.queues_are own)
        ∙ first_of (took own) (count_tag (take n given) own)

    is_match : answer ≡ match_of given took n
    is_match = first ∙ found tag
        ∙ ap (option_and_then (match_under given took n))
        (sym (first_left given rest n tag matches.rest_is))

    known_at : (k : ℕ) → k < length (answers ++ answer ∷ []) → (k < n) ⊎ (n ≤ k) →
        slice_get (answers ++ answer ∷ []) k ≡ Some (match_of given took k)
    known_at k less (inl before) = get_front answers answer k before ∙ matches.known k before
    known_at k less (inr past) =
        let same : k ≡ n = omega (arith, many, less, past) in
        ap (slice_get (answers ++ answer ∷ [])) same ∙ get_last answers answer
        ∙ ap Some (is_match ∙ ap (match_of given took) (sym same))

past_all : {X : Type 0} (xs : List X) (n : ℕ) → drop n xs ≡ [] → length xs ≤ n
past_all [] n is = omega arith
past_all (x ∷ xs) zero is = absurd (cc)
past_all (x ∷ xs) (suc n) is = let more = past_all xs n is in omega arith

-- all requests have theirs
pub matched_all : {X : Type 0} (given : List (Option ℕ)) (took : ℕ → List X)
    (queues : List (List X))
    (answers : List (Option X)) → Matches given [] took queues answers → (n : ℕ) →
    option_and_then (λ found. found) (slice_get answers n) ≡ match_of given took n
matched_all {X = X} given took queues answers matches n = by (nat_lt n (length answers)) refl
  where
    by : (b : Bool) → nat_lt n (length answers) ≡ b →
        option_and_then (λ found. found) (slice_get answers n) ≡ match_of given took n
    by true is = ap (option_and_then (λ found. found))
        (matches.known n (ltb-true n (length answers) is))
    by false is =
        let most : length answers ≤ n = ltb-false n (length answers) is in
        let all = past_all given (length answers) matches.rest_is in
        ap (option_and_then (λ found. found)) (get_past answers n most)
        ∙ sym (ap (option_and_then (match_under given took n))
        (get_past given n (omega (arith, all, most))))
