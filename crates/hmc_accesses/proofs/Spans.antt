-- The requests of a store, from its runs and halves to its blocks of 256.
use Rattle.std.proofs.Common.{◌≡◌, ◌≤◌, ◌<◌, ◌∙◌, ◌+◌, ◌-◌, ◌*◌, ◌/◌, ◌%◌, ◌⊎◌, inl, inr, ℕ, zero, suc, Bool, true, false, List, [], ◌∷◌, ◌++◌, length, refl, subst, arith}
use Rattle.std.specs.Prelude.{◌==◌, nat_lt, ◌&&◌, if◌then◌else◌, map, min, max}
use Rattle.std.specs.List.{All, range_with_len, flat_map}
use Rattle.std.proofs.lemmas.Bool.{eqb-true, eqb-false, ltb-true, ltb-false, and_parts, and_cases}
use Rattle.std.proofs.lemmas.List.Elements.{All-append, All-cons, All-nil}
use Rattle.hmc_codes.specs.Request.{RequestFields}
use Rattle.hmc_codes.specs.Shape.{ShapeFields, capacity_of}
use Rattle.hmc_accesses.specs.declared.span.Span.{Span}
use Rattle.hmc_accesses.specs.Requests.{down, up, in_block, cut_by_blocks, cut_run, run_of, write_at, masked_half, masked_span, write_span, head_end, tail_start, store_span, store_requests}
use Rattle.hmc_accesses.proofs.Access.{IsAccessOf}
use Rattle.hmc_accesses.proofs.Sizes.{IsSize, few, whole, writing}
use Rattle.hmc_accesses.proofs.Storing.{Stores, stores_nothing, stores_both, stores_write, stores_masked, stores_as, stored_byte, half_request}
use Rattle.hmc_accesses.proofs.Valid.{IsTraceCube, access_write, access_half}

-- parts of a run are requests' sizes
abbrev pub AreSizes : List ℕ → Type 0
AreSizes [] = Unit {0}
AreSizes (blocks ∷ more) = IsSize blocks × AreSizes more

-- where a run ends
abbrev pub end_of : ℕ → List ℕ → ℕ
end_of address [] = address
end_of address (blocks ∷ more) = end_of (address + 16 * blocks) more

pub end_least : (address : ℕ) (parts : List ℕ) → address ≤ end_of address parts
end_least address [] = omega arith
end_least address (blocks ∷ more) = omega (arith, end_least (address + 16 * blocks) more)

pub record IsCut (address blocks : ℕ) (parts : List ℕ) : Type 0 where
  pub sizes : AreSizes parts
  pub ends : end_of address parts ≡ address + 16 * blocks

cut_by : (address blocks : ℕ) (none middle : Bool) → (blocks == 0) ≡ none →
    (nat_lt 8 blocks && nat_lt blocks 16) ≡ middle → blocks ≤ 16 →
    IsCut address blocks (if none then [] else if middle then 8 ∷ (blocks - 8) ∷ [] else blocks
    ∷ [])
cut_by address blocks true middle none_is middle_is most = let zero_is =
    eqb-true blocks 0 none_is in record { sizes = tt; ends = omega arith }
cut_by address blocks false true none_is middle_is most =
    let both = and_parts (nat_lt 8 blocks) (nat_lt blocks 16) middle_is in
    let more = ltb-true 8 blocks both.0 in
    let less = ltb-true blocks 16 both.1 in record {
      sizes = (few (omega arith) (omega arith), (few (omega arith) (omega arith), tt));
      ends = omega arith;
    }
cut_by address blocks false false none_is middle_is most =
    record {
      sizes = (
        one_size blocks (eqb-false blocks 0 none_is) most
            (and_cases (nat_lt 8 blocks) (nat_lt blocks 16) middle_is),
        tt,
      );
      ends = omega arith;
    }
  where
    one_size : (n : ℕ) → (n ≡ 0 → ⊥) → n ≤ 16 → (nat_lt 8 n ≡ false) ⊎ (nat_lt n 16 ≡ false) →
        IsSize n
    one_size n some most (inl is) = let little = ltb-false 8 n is in few (grind arith) (omega arith)
    one_size n some most (inr is) = let much = ltb-false n 16 is in whole (omega arith)

pub cut_is : (address blocks : ℕ) → blocks ≤ 16 → IsCut address blocks (cut_run blocks)
unfolding cut_run
cut_is address blocks most =
    cut_by address blocks (blocks == 0) (nat_lt 8 blocks && nat_lt blocks 16) refl refl most

-- ---- runs

pub valid_run : (count : ℕ) (shape_at : ℕ → ShapeFields) (cube k : ℕ) (request : ℕ → ℕ →
    RequestFields) (address : ℕ) (parts : List ℕ)
    → ((a n : ℕ) → IsSize n → a % 16 ≡ 0 → a % 256 + 16 * n ≤ 256 →
    a + 16 * n ≤ capacity_of (shape_at cube) → IsAccessOf count shape_at (request a n))
    → AreSizes parts → address % 16 ≡ 0 → k * 256 ≤ address → end_of address parts ≤ k * 256 + 256 →
    end_of address parts ≤ capacity_of (shape_at cube) →
    All (IsAccessOf count shape_at) (run_of request address parts)
valid_run count shape_at cube k request address [] each sizes aligned from to inside =
    All-nil (IsAccessOf count shape_at)
valid_run count shape_at cube k request address (n ∷ parts) each sizes aligned from to inside =
    let least = end_least (address + 16 * n) parts in
    let some = some_size n sizes.0 in
    All-cons (IsAccessOf count shape_at) (request address n)
    (run_of request (address + 16 * n) parts)
    (each address n sizes.0 aligned (omega arith) (omega arith))
    (valid_run count shape_at cube k request (address + 16 * n) parts each sizes.1 (omega arith)
    (omega arith) to inside)
  where
    some_size : (m : ℕ) → IsSize m → 1 ≤ m
    some_size m (few some most) = some
    some_size m (whole is) = omega arith

stores_run : (cube place : ℕ) (bytes : List ℕ) (address : ℕ) (parts : List ℕ) →
    ((a : ℕ) → stored_byte place bytes a < 256) → AreSizes parts →
    Stores cube address (end_of address parts) (stored_byte place bytes)
    (run_of (write_at cube place bytes) address parts)
stores_run cube place bytes address [] small sizes =
    stores_nothing cube address address (stored_byte place bytes) (omega arith)
stores_run cube place bytes address (n ∷ parts) small sizes =
    let least = end_least (address + 16 * n) parts in
    stores_both cube address (address + 16 * n) (end_of (address + 16 * n) parts)
    (stored_byte place bytes) (write_at cube place bytes address n ∷ [])
    (run_of (write_at cube place bytes) (address + 16 * n) parts) small (omega arith) least
    (stores_write (write_at cube place bytes address n) (16 * n) (stored_byte place bytes)
    (writing n sizes.0).action refl)
    (stores_run cube place bytes (address + 16 * n) parts small sizes.1)

-- ---- a span within a block of 256

-- it is in block k, and in the cube
pub record IsWithin (capacity k : ℕ) (span : Span) : Type 0 where
  pub from : k * 256 ≤ span.start
  pub order : span.start ≤ span.end
  pub to : span.end ≤ k * 256 + 256
  pub inside : span.end ≤ capacity

-- requests that store what they should, and have no error
pub record AreWrites (count : ℕ) (shape_at : ℕ → ShapeFields) (cube start end : ℕ) (byte : ℕ →
    ℕ) (requests : List RequestFields) : Type 0 where
  pub stores : Stores cube start end byte requests
  pub valid : All (IsAccessOf count shape_at) requests

writes_both : (count : ℕ) (shape_at : ℕ → ShapeFields) (cube start middle end : ℕ) (byte : ℕ →
    ℕ) (xs ys : List RequestFields) → ((a : ℕ) → byte a < 256) → start ≤ middle → middle ≤ end →
    AreWrites count shape_at cube start middle byte xs →
    AreWrites count shape_at cube middle end byte ys → AreWrites count shape_at cube start end byte
    (xs ++ ys)
writes_both count shape_at cube start middle end byte xs ys small first last left right = record {
  stores = stores_both cube start middle end byte xs ys small first last left.stores right.stores;
  valid = All-append (IsAccessOf count shape_at) xs ys left.valid right.valid;
}

valid_half : (count : ℕ) (shape_at : ℕ → ShapeFields) (cube place : ℕ) (bytes : List ℕ)
    (span : Span) (half : ℕ) (b : Bool) → nat_lt (max span.start half) (min span.end (half + 8)) ≡ b
    → IsTraceCube count shape_at cube → ((a : ℕ) → stored_byte place bytes a < 256) → half % 8 ≡ 0 →
    span.end ≤ capacity_of (shape_at cube) →
    All (IsAccessOf count shape_at) (if b then half_request cube place bytes span half ∷ [] else [])
valid_half count shape_at cube place bytes span half true is there small aligned inside =
    let some = ltb-true (max span.start half) (min span.end (half + 8)) is in
    All-cons (IsAccessOf count shape_at) (half_request cube place bytes span half) []
    (access_half count shape_at cube place bytes span half there small aligned (omega arith))
    (All-nil (IsAccessOf count shape_at))
valid_half count shape_at cube place bytes span half false is there small aligned inside =
    All-nil (IsAccessOf count shape_at)

valid_masked : (count : ℕ) (shape_at : ℕ → ShapeFields) (cube place : ℕ) (bytes : List ℕ)
    (span : Span) → IsTraceCube count shape_at cube → ((a : ℕ) → stored_byte place bytes a < 256) →
    span.end ≤ capacity_of (shape_at cube) →
    All (IsAccessOf count shape_at) (masked_span cube place bytes span)
unfolding masked_span
valid_masked count shape_at cube place bytes span there small inside =
    let d = down 16 span.start in
    All-append (IsAccessOf count shape_at) (masked_half cube place bytes span d)
    (masked_half cube place bytes span (d + 8))
    (valid_half count shape_at cube place bytes span d
    (nat_lt (max span.start d) (min span.end (d + 8))) refl there small (omega arith) inside)
    (valid_half count shape_at cube place bytes span (d + 8) (nat_lt (max span.start (d + 8))
    (min span.end (d + 8 + 8))) refl there small (omega arith) inside)

writes_masked : (count : ℕ) (shape_at : ℕ → ShapeFields) (cube place : ℕ) (bytes : List ℕ)
    (span : Span) → IsTraceCube count shape_at cube → ((a : ℕ) → stored_byte place bytes a < 256) →
    span.start ≤ span.end → span.end ≤ down 16 span.start + 16 →
    span.end ≤ capacity_of (shape_at cube) →
    AreWrites count shape_at cube span.start span.end (stored_byte place bytes)
    (masked_span cube place bytes span)
writes_masked count shape_at cube place bytes span there small order fits inside = record {
  stores = stores_masked cube place bytes span small order fits;
  valid = valid_masked count shape_at cube place bytes span there small inside;
}

writes_run : (count : ℕ) (shape_at : ℕ → ShapeFields) (cube place : ℕ) (bytes : List ℕ)
    (span : Span) (k blocks : ℕ) → IsTraceCube count shape_at cube →
    ((a : ℕ) → stored_byte place bytes a < 256) → k * 256 ≤ span.start → span.end ≤ k * 256 + 256 →
    span.end ≤ capacity_of (shape_at cube) → span.start + 16 * blocks ≡ span.end →
    (1 ≤ blocks → span.start % 16 ≡ 0)
    → blocks ≤ 16 → AreWrites count shape_at cube span.start span.end (stored_byte place bytes)
    (run_of (write_at cube place bytes) span.start (cut_run blocks))
unfolding cut_run
writes_run count shape_at cube place bytes span k zero there small from to inside all aligned most =
    let same : span.start ≡ span.end = omega arith in nothing
  where
    nothing : AreWrites count shape_at cube span.start span.end (stored_byte place bytes)
        (run_of (write_at cube place bytes) span.start (cut_run 0))
    nothing = record {
      stores = stores_nothing cube span.start span.end (stored_byte place bytes)
          (omega arith);
      valid = All-nil (IsAccessOf count shape_at);
    }
writes_run count shape_at cube place bytes span k (suc n) there small from to inside all aligned
    most =
    let blocks = suc n in
    let cut = cut_is span.start blocks most in
    let ends : end_of span.start (cut_run blocks) ≡ span.end = cut.ends ∙ all in record {
      stores = subst (λ e. Stores cube span.start e (stored_byte place bytes)
          (run_of (write_at cube place bytes) span.start (cut_run blocks))) ends
          (stores_run cube place bytes span.start (cut_run blocks) small cut.sizes);
      valid = valid_run count shape_at cube k (write_at cube place bytes) span.start
          (cut_run blocks)
          (λ a m size at fits below. access_write count shape_at cube place bytes a m there small
          size at fits below)
          cut.sizes (aligned (omega arith)) from (omega arith) (omega arith);
    }

writes_span : (count : ℕ) (shape_at : ℕ → ShapeFields) (cube place : ℕ) (bytes : List ℕ) (k : ℕ)
    (span : Span) → IsTraceCube count shape_at cube → ((a : ℕ) → stored_byte place bytes a < 256) →
    IsWithin (capacity_of (shape_at cube)) k span →
    AreWrites count shape_at cube span.start span.end (stored_byte place bytes)
    (store_span cube place bytes span)
unfolding store_span write_span
writes_span count shape_at cube place bytes k span there small is =
    let h = head_end span in
    let t = tail_start span in
    let byte = stored_byte place bytes in
    let head : Span = record { start = span.start; end = h } in
    let run : Span = record { start = h; end = t } in
    let tail : Span = record { start = t; end = span.end } in
    let from = is.from in
    let order = is.order in
    let to = is.to in
    let inside = is.inside in
    writes_both count shape_at cube span.start h span.end byte (masked_span cube place bytes head) _
    small (omega arith) (omega arith)
    (writes_masked count shape_at cube place bytes head there small (omega arith) (omega arith)
    (omega arith))
    (writes_both count shape_at cube h t span.end byte (run_of (write_at cube place bytes) h
    (cut_run ((t - h) / 16))) (masked_span cube place bytes tail) small (omega arith)
    (omega arith)
    (writes_run count shape_at cube place bytes run k ((t - h) / 16) there small (omega arith)
    (omega arith) (omega arith) (omega arith) (λ some. omega arith) (omega arith))
    (writes_masked count shape_at cube place bytes tail there small (omega arith) (omega arith)
    (omega arith)))

-- ---- all blocks of a store

writes_blocks : (count : ℕ) (shape_at : ℕ → ShapeFields) (cube place : ℕ) (bytes : List ℕ)
    (span : Span) (k n : ℕ) → IsTraceCube count shape_at cube →
    ((a : ℕ) → stored_byte place bytes a < 256) → span.end ≤ capacity_of (shape_at cube) →
    span.start ≤ span.end → span.start ≤ k * 256 + 256 → (k + n) * 256 ≤ span.end + 255 →
    AreWrites count shape_at cube (max span.start (k * 256)) (min span.end ((k + n) * 256))
    (stored_byte place bytes) (flat_map (store_span cube place bytes)
    (map (in_block span) (range_with_len k n)))
writes_blocks count shape_at cube place bytes span k zero there small inside order from to =
    record {
      stores = stores_nothing cube (max span.start (k * 256)) (min span.end ((k + 0) * 256))
          (stored_byte place bytes) (omega arith);
      valid = All-nil (IsAccessOf count shape_at);
    }
writes_blocks count shape_at cube place bytes span k (suc n) there small inside order from to =
    let byte = stored_byte place bytes in
    let first = writes_span count shape_at cube place bytes k (in_block span k) there small
    (record { from = omega arith; order = omega arith; to = omega arith; inside = omega arith })
    in
    let rest = writes_blocks count shape_at cube place bytes span (k + 1) n there small inside order
    (omega arith) (omega arith) in
    let more = flat_map (store_span cube place bytes)
    (map (in_block span) (range_with_len (k + 1) n)) in
    writes_both count shape_at cube (max span.start (k * 256)) (min span.end (k * 256 + 256))
    (min span.end ((k + suc n) * 256)) byte (store_span cube place bytes (in_block span k)) more
    small (omega arith) (omega arith) first
    (record {
      stores = stores_as cube (max span.start ((k + 1) * 256)) (min span.end ((k + 1 + n) * 256))
          (min span.end (k * 256 + 256)) (min span.end ((k + suc n) * 256)) byte more rest.stores
          (λ a least less. (omega arith, omega arith)) (λ a least less. (omega arith, omega arith));
      valid = rest.valid;
    })

pub writes_store : (count : ℕ) (shape_at : ℕ → ShapeFields) (cube place : ℕ) (bytes : List ℕ) →
    IsTraceCube count shape_at cube → ((a : ℕ) → stored_byte place bytes a < 256) → 1 ≤ length bytes
    → place + length bytes ≤ capacity_of (shape_at cube) →
    AreWrites count shape_at cube place (place + length bytes) (stored_byte place bytes)
    (store_requests cube place bytes)
unfolding store_requests cut_by_blocks
writes_store count shape_at cube place bytes there small some inside =
    let e = place + length bytes in
    let span : Span = record { start = place; end = e } in
    let k = place / 256 in
    let n = up 256 e / 256 - place / 256 in
    let all = writes_blocks count shape_at cube place bytes span k n there small inside
    (omega arith) (omega arith) (omega arith) in record {
      stores = stores_as cube (max place (k * 256)) (min e ((k + n) * 256)) place e
          (stored_byte place bytes) _ all.stores (λ a least less. (omega arith, omega arith))
          (λ a least less. (omega arith, omega arith));
      valid = all.valid;
    }
