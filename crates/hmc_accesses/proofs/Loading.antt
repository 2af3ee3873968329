-- The requests of a load.
use Rattle.std.proofs.Common.{◌≡◌, ◌≤◌, ◌∙◌, ◌+◌, ◌-◌, ◌*◌, ◌/◌, ℕ, zero, suc, List, [], ◌∷◌, ◌++◌, Some, refl, sym, ap, subst, arith}
use Rattle.std.specs.Prelude.{map, min, max}
use Rattle.std.specs.List.{All, range_with_len, flat_map}
use Rattle.std.proofs.lemmas.Grind.{flat_map-append}
use Rattle.std.proofs.lemmas.List.Elements.{All-append, All-cons, All-nil}
use Rattle.hmc_codes.specs.Request.{RequestFields}
use Rattle.hmc_codes.specs.Shape.{ShapeFields, capacity_of}
use Rattle.hmc_serial.specs.Actions.{action_of}
use Rattle.hmc_serial.specs.declared.action.Action.TheVariants.{Read}
use Rattle.hmc_accesses.specs.declared.span.Span.{Span}
use Rattle.hmc_accesses.specs.Requests.{down, up, in_block, cut_by_blocks, cut_run, run_of, read_at, read_span, read_command, load_requests}
use Rattle.hmc_accesses.specs.Value.{size_by}
use Rattle.hmc_accesses.proofs.Access.{IsAccessOf}
use Rattle.hmc_accesses.proofs.Sizes.{IsSize, reading}
use Rattle.hmc_accesses.proofs.Spans.{AreSizes, end_of, end_least, cut_is, valid_run}
use Rattle.hmc_accesses.proofs.Valid.{IsTraceCube, access_read}

pub range-append : (a n m : ℕ) → range_with_len a n ++ range_with_len (a + n) m ≡ range_with_len a
    (n + m)
range-append a zero m = ap (λ b. range_with_len b m) (omega arith)
    ∙ ap (range_with_len a) (omega arith)
range-append a (suc n) m =
    ap (λ l. a ∷ l) (ap (λ b. range_with_len (a + 1) n ++ range_with_len b m) (omega arith)
    ∙ range-append (a + 1) n m)
    ∙ ap (range_with_len a) step
  where
    step : suc (n + m) ≡ suc n + m
    step = omega arith

-- the addresses that a request reads
abbrev pub read_addresses : RequestFields → List ℕ
read_addresses request = range_with_len request.address (size_by (action_of request.command))

-- a request that reads
pub record IsReadOf (cube : ℕ) (request : RequestFields) : Type 0 where
  pub cube_is : request.cube ≡ cube
  pub action : action_of request.command ≡ Some (Read (size_by (action_of request.command)))

-- requests that read some addresses of a cube, in order, and have no error
pub record AreReads (count : ℕ) (shape_at : ℕ → ShapeFields) (cube start end : ℕ)
    (requests : List RequestFields) : Type 0 where
  pub reads : flat_map read_addresses requests ≡ range_with_len start (end - start)
  pub each : All (IsReadOf cube) requests
  pub valid : All (IsAccessOf count shape_at) requests

reads_nothing : (count : ℕ) (shape_at : ℕ → ShapeFields) (cube start end : ℕ) → end ≤ start →
    AreReads count shape_at cube start end []
reads_nothing count shape_at cube start end empty = record {
  reads = ap (range_with_len start) none;
  each = All-nil (IsReadOf cube);
  valid = All-nil (IsAccessOf count shape_at);
}
  where
    none : 0 ≡ end - start
    none = omega arith

reads_both : (count : ℕ) (shape_at : ℕ → ShapeFields) (cube start middle end : ℕ)
    (xs ys : List RequestFields) → start ≤ middle → middle ≤ end →
    AreReads count shape_at cube start middle xs → AreReads count shape_at cube middle end ys →
    AreReads count shape_at cube start end (xs ++ ys)
reads_both count shape_at cube start middle end xs ys first last left right = record {
  reads = flat_map-append read_addresses xs ys
      ∙ ap (λ l. l ++ flat_map read_addresses ys) left.reads
      ∙ ap (λ l. range_with_len start (middle - start) ++ l) right.reads
      ∙ ap (λ b. range_with_len start (middle - start) ++ range_with_len b (end - middle))
      (omega arith) ∙ range-append start (middle - start) (end - middle)
      ∙ ap (range_with_len start) (omega arith);
  each = All-append (IsReadOf cube) xs ys left.each right.each;
  valid = All-append (IsAccessOf count shape_at) xs ys left.valid right.valid;
}

size_is : (blocks : ℕ) → IsSize blocks → size_by (action_of (read_command blocks)) ≡ 16 * blocks
size_is blocks size = ap size_by (reading blocks size).action

reads_run : (cube address : ℕ) (parts : List ℕ) → AreSizes parts →
    flat_map read_addresses (run_of (read_at cube) address parts) ≡ range_with_len address
    (end_of address parts - address)
reads_run cube address [] sizes = ap (range_with_len address) none
  where
    none : 0 ≡ address - address
    none = omega arith
reads_run cube address (n ∷ parts) sizes =
    let least = end_least (address + 16 * n) parts in
    ap (λ m. range_with_len address m ++ flat_map read_addresses
    (run_of (read_at cube) (address + 16 * n) parts)) (size_is n sizes.0)
    ∙ ap (λ l. range_with_len address (16 * n) ++ l)
    (reads_run cube (address + 16 * n) parts sizes.1)
    ∙ range-append address (16 * n) (end_of (address + 16 * n) parts - (address + 16 * n))
    ∙ ap (range_with_len address) (omega arith)

each_run : (cube address : ℕ) (parts : List ℕ) → AreSizes parts →
    All (IsReadOf cube) (run_of (read_at cube) address parts)
each_run cube address [] sizes = All-nil (IsReadOf cube)
each_run cube address (n ∷ parts) sizes =
    All-cons (IsReadOf cube) (read_at cube address n)
    (run_of (read_at cube) (address + 16 * n) parts)
    (record {
      cube_is = refl;
      action = (reading n sizes.0).action
          ∙ ap (λ m. Some (Read m)) (sym (size_is n sizes.0));
    })
    (each_run cube (address + 16 * n) parts sizes.1)

-- a span within block k
reads_span : (count : ℕ) (shape_at : ℕ → ShapeFields) (cube k : ℕ) (span : Span) →
    IsTraceCube count shape_at cube → k * 256 ≤ span.start → span.start ≤ span.end →
    span.end ≤ k * 256 + 256 → up 16 span.end ≤ capacity_of (shape_at cube) →
    AreReads count shape_at cube (down 16 span.start) (up 16 span.end) (read_span cube span)
unfolding read_span
reads_span count shape_at cube k span there from order to inside =
    let address = down 16 span.start in
    let blocks = (up 16 span.end - down 16 span.start) / 16 in
    let cut = cut_is address blocks (omega arith) in
    let ends : end_of address (cut_run blocks) ≡ up 16 span.end = cut.ends ∙ whole_blocks in
    record {
      reads = reads_run cube address (cut_run blocks) cut.sizes
          ∙ ap (λ e. range_with_len address (e - address)) ends;
      each = each_run cube address (cut_run blocks) cut.sizes;
      valid = valid_run count shape_at cube k (read_at cube) address (cut_run blocks)
          (λ a m size at fits below. access_read count shape_at cube a m there size at fits below)
          cut.sizes (omega arith) (omega arith) (omega arith) (omega arith);
    }
  where
    whole_blocks : down 16 span.start + 16 * ((up 16 span.end - down 16 span.start) / 16)
        ≡ up 16 span.end
    whole_blocks = omega arith

reads_blocks : (count : ℕ) (shape_at : ℕ → ShapeFields) (cube : ℕ) (span : Span) (k n : ℕ) →
    IsTraceCube count shape_at cube → up 16 span.end ≤ capacity_of (shape_at cube) →
    span.start ≤ span.end → span.start ≤ k * 256 + 256 → (k + suc n) * 256 ≤ span.end + 255 →
    AreReads count shape_at cube (down 16 (max span.start (k * 256)))
    (up 16 (min span.end ((k + suc n) * 256)))
    (flat_map (read_span cube) (map (in_block span) (range_with_len k (suc n))))
reads_blocks count shape_at cube span k zero there inside order from to =
    let first = reads_span count shape_at cube k (in_block span k) there (omega arith) (omega arith)
    (omega arith) (omega arith) in
    let end_is : up 16 (min span.end (k * 256 + 256)) ≡ up 16 (min span.end ((k + 1) * 256)) =
    omega arith in
    reads_both count shape_at cube (down 16 (max span.start (k * 256)))
    (up 16 (min span.end (k * 256 + 256))) (up 16 (min span.end ((k + 1) * 256)))
    (read_span cube (in_block span k)) [] (omega arith) (omega arith) first
    (reads_nothing count shape_at cube (up 16 (min span.end (k * 256 + 256)))
    (up 16 (min span.end ((k + 1) * 256))) (omega arith))
reads_blocks count shape_at cube span k (suc n) there inside order from to =
    let first = reads_span count shape_at cube k (in_block span k) there (omega arith) (omega arith)
    (omega arith) (omega arith) in
    let rest = reads_blocks count shape_at cube span (k + 1) n there inside order (omega arith)
    (omega arith) in
    let more = flat_map (read_span cube) (map (in_block span) (range_with_len (k + 1) (suc n))) in
    let m = up 16 (min span.end (k * 256 + 256)) in
    let joins : down 16 (max span.start ((k + 1) * 256)) ≡ m = omega arith in
    let ends : up 16 (min span.end ((k + 1 + suc n) * 256)) ≡ up 16
    (min span.end ((k + suc (suc n)) * 256)) = omega arith in
    reads_both count shape_at cube (down 16 (max span.start (k * 256))) m
    (up 16 (min span.end ((k + suc (suc n)) * 256))) (read_span cube (in_block span k)) more
    (omega arith) (omega arith) first
    (subst (λ e. AreReads count shape_at cube m e more) ends
    (subst (λ s. AreReads count shape_at cube s (up 16 (min span.end ((k + 1 + suc n) * 256)))
    more) joins rest))

pub reads_load : (count : ℕ) (shape_at : ℕ → ShapeFields) (cube place size : ℕ) →
    IsTraceCube count shape_at cube → 1 ≤ size → up 16 (place + size) ≤ capacity_of (shape_at cube)
    → AreReads count shape_at cube (down 16 place) (up 16 (place + size))
    (load_requests cube place size)
unfolding load_requests cut_by_blocks
reads_load count shape_at cube place size there some inside =
    let e = place + size in
    let span : Span = record { start = place; end = e } in
    let k = place / 256 in
    let n = up 256 e / 256 - place / 256 - 1 in
    let many : up 256 e / 256 - place / 256 ≡ suc n = omega arith in
    let all = reads_blocks count shape_at cube span k n there inside (omega arith) (omega arith)
    (omega arith) in
    let starts : down 16 (max place (k * 256)) ≡ down 16 place = omega arith in
    let ends : up 16 (min e ((k + suc n) * 256)) ≡ up 16 e = omega arith in
    subst (λ m. AreReads count shape_at cube (down 16 place) (up 16 e)
    (flat_map (read_span cube) (map (in_block span) (range_with_len k m)))) (sym many)
    (subst (λ t. AreReads count shape_at cube (down 16 place) t
    (flat_map (read_span cube) (map (in_block span) (range_with_len k (suc n))))) ends
    (subst (λ s. AreReads count shape_at cube s (up 16 (min e ((k + suc n) * 256)))
    (flat_map (read_span cube) (map (in_block span) (range_with_len k (suc n))))) starts all))
