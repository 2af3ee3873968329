-- The blocks of a span, appended one after another.
use Rattle.std.proofs.Common.{◌≡◌, ◌≤◌, ◌<◌, ◌∙◌, ◌+◌, ◌-◌, ◌*◌, ◌/◌, ℕ, List, [], ◌∷◌, ◌++◌, length, Ok, Err, refl, sym, ap, subst, arith}
use Rattle.std.specs.Prelude.{map, min, max}
use Rattle.std.specs.List.{range_with_len, flat_map}
use Rattle.std.proofs.lemmas.Grind.{flat_map-append}
use Rattle.std.proofs.lemmas.List.{append-nil, map-append}
use Rattle.std.proofs.lemmas.List.FromFn.{map-range_with_len_more}
use Rattle.hmc_codes.specs.Request.{RequestFields}
use Rattle.hmc_script.specs.Items.{ItemFields}
use Rattle.hmc_text.specs.declared.fault.TextFault.{TextFault}
use Rattle.hmc_accesses.specs.declared.fault.TraceKind.{TraceKind}
use Rattle.hmc_trace.specs.Appending.{Appends}
use Rattle.hmc_accesses.specs.declared.span.Span.{Span}
use Rattle.hmc_accesses.specs.Requests.{in_block, cut_by_blocks, up}
use Rattle.hmc_trace.proofs.Appending.{appends_none, appends_more, appends_less}
use Rattle.hmc_accesses.proofs.Loading.{range-append}

-- the requests of the blocks from k up to j
abbrev pub up_to : (Span → List RequestFields) → Span → (k j : ℕ) → List RequestFields
up_to requests span k j = flat_map requests (map (in_block span) (range_with_len k (j - k)))

one_more : (requests : Span → List RequestFields) (span : Span) (k n : ℕ) →
    flat_map requests (map (in_block span) (range_with_len k (n + 1))) ≡ flat_map requests
    (map (in_block span) (range_with_len k n)) ++ requests (in_block span (k + n))
one_more requests span k n =
    ap (flat_map requests) (map-range_with_len_more (in_block span) k n (k + n) refl)
    ∙ flat_map-append requests (map (in_block span) (range_with_len k n))
    (in_block span (k + n) ∷ [])
    ∙ ap (λ l. flat_map requests (map (in_block span) (range_with_len k n)) ++ l)
    (append-nil (requests (in_block span (k + n))))

up_more : (requests : Span → List RequestFields) (span : Span) (k j : ℕ) → k ≤ j →
    up_to requests span k (j + 1) ≡ up_to requests span k j ++ requests (in_block span j)
up_more requests span k j least =
    ap (λ n. flat_map requests (map (in_block span) (range_with_len k n))) step
    ∙ one_more requests span k (j - k)
    ∙ ap (λ b. up_to requests span k j ++ requests (in_block span b)) same
  where
    step : j + 1 - k ≡ j - k + 1
    step = omega arith

    same : k + (j - k) ≡ j
    same = omega arith

up_rest : (requests : Span → List RequestFields) (span : Span) (k j m : ℕ) → k ≤ j → j ≤ m →
    up_to requests span k m ≡ up_to requests span k j ++ flat_map requests
    (map (in_block span) (range_with_len j (m - j)))
up_rest requests span k j m least most =
    ap (λ n. flat_map requests (map (in_block span) (range_with_len k n))) step
    ∙ ap (λ l. flat_map requests (map (in_block span) l)) (sym (range-append k (j - k) (m - j)))
    ∙ ap (flat_map requests) (map-append (in_block span) (range_with_len k (j - k))
    (range_with_len (k + (j - k)) (m - j)))
    ∙ flat_map-append requests (map (in_block span) (range_with_len k (j - k)))
    (map (in_block span) (range_with_len (k + (j - k)) (m - j)))
    ∙ ap (λ b. up_to requests span k j ++ flat_map requests
    (map (in_block span) (range_with_len b (m - j)))) same
  where
    step : m - k ≡ j - k + (m - j)
    step = omega arith

    same : k + (j - k) ≡ j
    same = omega arith

pub blocks_none : (line : ℕ) (a : List ItemFields) (requests : Span → List RequestFields)
    (span : Span) (k : ℕ) → length a ≤ 65536 → Appends line a (up_to requests span k k) a (Ok tt)
blocks_none line a requests span k room =
    subst (λ n. Appends line a (flat_map requests (map (in_block span) (range_with_len k n))) a
    (Ok tt)) none (appends_none line a room)
  where
    none : 0 ≡ k - k
    none = omega arith

-- what a block has of a span
part_is : (span : Span) (j start end : ℕ) → start ≡ max span.start (j * 256) →
    end ≡ min span.end (j * 256 + 256) → ◌≡◌ {A = Span} (record { start = start; end = end })
    (in_block span j)
part_is span j start end starts ends =
    let one : ℕ → Span = λ s. record { start = s; end = end } in
    let two : ℕ → Span = λ e. record { start = max span.start (j * 256); end = e } in
    ap one starts ∙ ap two ends

pub blocks_more : (line : ℕ) (a b c : List ItemFields) (requests : Span → List RequestFields)
    (span : Span) (k j start end : ℕ) → start ≡ max span.start (j * 256) →
    end ≡ min span.end (j * 256 + 256) → k ≤ j → Appends line a (up_to requests span k j) b (Ok tt)
    → Appends line b (requests (record { start = start; end = end })) c (Ok tt) →
    Appends line a (up_to requests span k (j + 1)) c (Ok tt)
blocks_more line a b c requests span k j start end starts ends least first given =
    let second = subst (λ part. Appends line b (requests part) c (Ok tt))
    (part_is span j start end starts ends) given in
    subst (λ l. Appends line a l c (Ok tt)) (sym (up_more requests span k j least))
    (appends_more line a b c (up_to requests span k j) (requests (in_block span j))
    (Ok tt) first second)

pub blocks_ended : (line : ℕ) (a b c : List ItemFields) (requests : Span → List RequestFields)
    (span : Span) (k j m start end : ℕ) (e : TextFault TraceKind) → start ≡ max span.start (j * 256)
    → end ≡ min span.end (j * 256 + 256) → k ≤ j → j < m →
    Appends line a (up_to requests span k j) b (Ok tt) →
    Appends line b (requests (record { start = start; end = end })) c (Err e) →
    Appends line a (up_to requests span k m) c (Err e)
blocks_ended line a b c requests span k j m start end e starts ends least less first given =
    let second = subst (λ part. Appends line b (requests part) c (Err e))
    (part_is span j start end starts ends) given in
    let both = appends_more line a b c (up_to requests span k j) (requests (in_block span j))
    (Err e) first second in
    let here = subst (λ l. Appends line a l c (Err e)) (sym (up_more requests span k j least)) both
    in
    subst (λ l. Appends line a l c (Err e))
    (sym (up_rest requests span k (j + 1) m (omega arith) (omega arith)))
    (appends_less line a c c (up_to requests span k (j + 1))
    (flat_map requests (map (in_block span) (range_with_len (j + 1) (m - (j + 1))))) e here)

-- all blocks
pub all_blocks : (requests : Span → List RequestFields) (span : Span) →
    up_to requests span (span.start / 256) ((span.end + 255) / 256) ≡ flat_map requests
    (cut_by_blocks span)
unfolding cut_by_blocks
all_blocks requests span =
    ap (λ n. flat_map requests
    (map (in_block span) (range_with_len (span.start / 256) (n - span.start / 256)))) same
  where
    same : (span.end + 255) / 256 ≡ up 256 span.end / 256
    same = omega arith
