-- Draws and requests one after another.
use Rattle.std.proofs.Common.{◌≡◌, ◌≤◌, ◌<◌, ◌∙◌, ℕ, ◌+◌, ◌-◌, ◌*◌, zero, suc, List, [], ◌∷◌, ◌++◌, length, length-append, refl, subst, sym, ap, arith, lit<, append_assoc, append-nil}
use Rattle.std.specs.Int.{w32, to_le_bytes}
use Rattle.hmc_codes.specs.Bytes.{IsBytes}
use Rattle.hmc_codes.proofs.BytesLemmas.{IsBytes-[], IsBytes-append, IsBytes-low}
use Rattle.std.specs.List.{All}
use Rattle.std.proofs.lemmas.List.Elements.{All-nil, All-cons}
use Rattle.hmc_make.specs.Draws.{next, drawn, after, drawn_bytes}
use Rattle.hmc_make.specs.Requests.{request_from, after_request, item_of, items_from}
use Rattle.hmc_script.specs.Items.{ItemFields, IsWithin}

one_left : (n i : ℕ) → i < n → n - i ≡ suc (n - (i + 1))
one_left n i small = omega arith

-- one draw more
pub bytes-more : (n i state now word : ℕ) (old new whole : List ℕ) → i < n → new ≡ old ++ to_le_bytes w32 word → word ≡ drawn state → now ≡ next state → old ++ drawn_bytes (n - i) state ≡ whole → new ++ drawn_bytes (n - (i + 1)) now ≡ whole
unfolding drawn_bytes
bytes-more n i state now word old new whole small grown is went so_far =
    let left = one_left n i small in
    let step : drawn_bytes (n - i) state ≡ to_le_bytes w32 (drawn state) ++ drawn_bytes (n - (i + 1)) (next state) = ap (λ k. drawn_bytes k state) left in
    rw (grown, is, went, append_assoc old (to_le_bytes w32 (drawn state)) (drawn_bytes (n - (i + 1)) (next state)), ← step) so_far

pub after-more : (n i state now whole : ℕ) → i < n → now ≡ next state → after (n - i) state ≡ whole → after (n - (i + 1)) now ≡ whole
unfolding after
after-more n i state now whole small went so_far =
    let step : after (n - i) state ≡ after (n - (i + 1)) (next state) = ap (λ k. after k state) (one_left n i small) in
    rw (went, ← step) so_far

-- the bytes of a draw

bytes-are : (n state : ℕ) → IsBytes (drawn_bytes n state)
unfolding drawn_bytes
bytes-are zero state = IsBytes-[]
bytes-are (suc n) state = IsBytes-append (to_le_bytes w32 (drawn state)) (drawn_bytes n (next state)) (IsBytes-low 0 4 (drawn state)) (bytes-are n (next state))

length-bytes : (n state : ℕ) → length (drawn_bytes n state) ≡ 4 * n
unfolding drawn_bytes
length-bytes zero state = refl
length-bytes (suc n) state =
    let all = length-append (to_le_bytes w32 (drawn state)) (drawn_bytes n (next state)) in
    let rest = length-bytes n (next state) in
    omega arith

pub length-drawn : (bytes : List ℕ) (n state : ℕ) → bytes ≡ drawn_bytes n state → length bytes ≡ 4 * n
length-drawn bytes n state are = ap length are ∙ length-bytes n state

pub drawn-are : (bytes : List ℕ) (n state : ℕ) → bytes ≡ drawn_bytes n state → IsBytes bytes
drawn-are bytes n state are = subst IsBytes (sym are) (bytes-are n state)

-- after the last draw
none_left : (n i : ℕ) → n ≤ i → n - i ≡ 0
none_left n i over = omega arith

pub bytes-end : (n i state : ℕ) (old whole : List ℕ) → n ≤ i → old ++ drawn_bytes (n - i) state ≡ whole → old ≡ whole
unfolding drawn_bytes
bytes-end n i state old whole over so_far =
    sym (append-nil old) ∙ ap (λ k. old ++ drawn_bytes k state) (sym (none_left n i over)) ∙ so_far

pub after-end : (n i state whole : ℕ) → n ≤ i → after (n - i) state ≡ whole → state ≡ whole
unfolding after
after-end n i state whole over so_far = ap (λ k. after k state) (sym (none_left n i over)) ∙ so_far

-- one request more
pub items-more : (n i cubes state now : ℕ) (old new whole : List ItemFields) → i < n → new ≡ old ++ item_of (request_from cubes state) ∷ [] → now ≡ after_request state → old ++ items_from (n - i) cubes state ≡ whole → new ++ items_from (n - (i + 1)) cubes now ≡ whole
unfolding items_from
items-more n i cubes state now old new whole small grown went so_far =
    let item = item_of (request_from cubes state) in
    let step : items_from (n - i) cubes state ≡ item ∷ items_from (n - (i + 1)) cubes (after_request state) = ap (λ k. items_from k cubes state) (one_left n i small) in
    rw (grown, went, append_assoc old (item ∷ []) (items_from (n - (i + 1)) cubes (after_request state)), ← step) so_far

-- after the last request
pub items-end : (n i cubes state : ℕ) (old whole : List ItemFields) → n ≤ i → old ++ items_from (n - i) cubes state ≡ whole → old ≡ whole
unfolding items_from
items-end n i cubes state old whole over so_far =
    sym (append-nil old) ∙ ap (λ k. old ++ items_from k cubes state) (sym (none_left n i over)) ∙ so_far

-- each request is to one of the cubes
pub items-within : (requests cubes state : ℕ) → 1 ≤ cubes → All (IsWithin 1 cubes) (items_from requests cubes state)
unfolding items_from request_from
items-within zero cubes state some = All-nil (IsWithin 1 cubes)
items-within (suc requests) cubes state some =
    All-cons (IsWithin 1 cubes) (item_of (request_from cubes state)) (items_from requests cubes (after_request state))
    (record { host = lit< tt; cube = omega arith })
    (items-within requests cubes (after_request state) some)
