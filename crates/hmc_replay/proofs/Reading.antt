-- Reading piece by piece: what one piece more comes to.
use Rattle.std.proofs.Common.{inl, inr, ◌≡◌, ◌≤◌, ◌<◌, ◌+◌, ◌∙◌, ◌⊎◌, ◌++◌, ℕ, suc, true, false, List, length, Err, IsErrOf, refl, sym, ap, subst, arith, length-append}
use Rattle.std.specs.Io.KnownBytes.{Consumes, IsAtEnd}
use Rattle.std.proofs.KnownBytes.{Consumes-trans}
use Rattle.hmc_outside.specs.Raised.{raised}
use Rattle.hmc_outside.specs.Reading.{Stops, ReadsOnce, ReadsFew}
use Rattle.hmc_outside.specs.Views.{SourceView}
use Rattle.hmc_outside.proofs.ReadingLemmas.{ReadsFew-more, ReadsFew-most}
use Rattle.hmc_replay.specs.Input.{BytesRead, ReadsPiece, IsReading, ReadsWhole, ReadsPart}
use Rattle.hmc_replay.specs.declared.input.InputError.{InputError}
use Rattle.hmc_replay.specs.declared.input.InputError.TheVariants as inputs

-- a piece of n bytes was read after others
pub record ReadsMore (source source' : SourceView) (input input' : List ℕ) (n : ℕ) : Type 0 where
  pub taken : Consumes source.left source'.left input'
  pub reads : ReadsFew source source' (suc (length input))
  pub size : length input' ≡ length input + n

pub reads_more : (source mid source' : SourceView) (input input' : List ℕ) (n asked : ℕ) → Consumes source.left mid.left input → ReadsFew source mid (length input)
    → ReadsPiece mid.left source'.left input input' n → ReadsOnce mid source' asked → 0 < asked → ReadsMore source source' input input' n
reads_more source mid source' input input' n asked consumed reads piece once some = record {
  taken = subst (Consumes source.left source'.left) (sym piece.joins) (Consumes-trans source.left mid.left source'.left input piece.bytes consumed piece.taken);
  reads = ReadsFew-more source mid source' (length input) asked reads once some;
  size = ap length piece.joins ∙ length-append input piece.bytes ∙ ap (λ (m : ℕ). length input + m) piece.count;
}

-- each piece has a byte at least
pub few_more : (source source' : SourceView) (input input' : List ℕ) (n : ℕ) → 0 < n → ReadsMore source source' input input' n → ReadsFew source source' (length input')
few_more source source' input input' n some more = ReadsFew-most source source' (suc (length input)) (length input') more.reads (omega (arith, some, more.size))

-- the last one has none
pub whole_of : (source mid source' : SourceView) (most : ℕ) (input input' : List ℕ) (n : ℕ) → n ≡ 0 → length input ≤ most → ReadsMore source source' input input' n → IsAtEnd source'.left → Stops mid source' → mid.stops ≡ source.stops
    → mid.faults ≡ source.faults → source'.faults ≡ mid.faults → source'.failed ≡ false → ReadsWhole most source source' input'
whole_of source mid source' most input input' n none within more ended here stops faults no_fault not_failed =
    let size : length input' ≡ length input = omega (arith, more.size, none) in record {
      reading = record { few = omega (arith, size, within); consumed = more.taken; reads = ReadsFew-most source source' _ _ more.reads (omega (arith, size)) };
      whole = record { few = omega (arith, size, within); ended = ended; stops = record { counted = here.counted ∙ ap raised stops; stopped = here.stopped } };
      faults = no_fault ∙ faults;
      not_failed = not_failed;
    }

-- bytes were read after those of the earlier pieces
reading_more : (source mid source' : SourceView) (most : ℕ) (input : List ℕ) (more asked : ℕ) → length input + more ≤ suc most → Consumes source.left mid.left input → ReadsFew source mid (length input) → (read : BytesRead more mid.left source'.left)
    → ReadsOnce mid source' asked → 0 < asked → IsReading most source source' (input ++ read.input)
reading_more source mid source' most input more asked within consumed reads read once some = record {
  few = omega (arith, read.few, length-append input read.input, within);
  consumed = Consumes-trans source.left mid.left source'.left input read.input consumed read.consumed;
  reads = ReadsFew-most source source' _ _ (ReadsFew-more source mid source' (length input) asked reads once some) (omega (arith, length-append input read.input));
}

no_fault_of : {A : Type 0} (error : InputError) → (error ≡ inputs.Fault → ⊥) → {P : Type 0} → (IsErrOf {T = A} (Err error) inputs.Fault) ⊎ P → P
no_fault_of error other (inl is) = absurd (other (err_same error inputs.Fault is))
  where
    err_same : {A : Type 0} (a b : InputError) → IsErrOf {T = A} (Err a) b → a ≡ b
    err_same a b is = cc
no_fault_of error other (inr p) = p

memory_is_no_fault : inputs.Memory ≡ inputs.Fault → ⊥
memory_is_no_fault is = cc

-- reading ended early at a piece
pub part_of : {A : Type 0} (source mid source' : SourceView) (most : ℕ) (input : List ℕ) (more asked : ℕ) (error : InputError) → length input + more ≤ suc most → Consumes source.left mid.left input → ReadsFew source mid (length input)
    → mid.stops ≡ source.stops → mid.faults ≡ source.faults → BytesRead more mid.left source'.left → ReadsOnce mid source' asked → 0 < asked → (IsErrOf {T = A} (Err error) inputs.TooLong → ⊥)
    → (IsErrOf {T = A} (Err error) inputs.Fault → source'.faults ≡ raised mid.faults) → IsErrOf {T = A} (Err error) inputs.Fault ⊎ (source'.faults ≡ mid.faults)
    → (IsErrOf {T = A} (Err error) inputs.Fault → source'.failed ≡ true) → IsErrOf {T = A} (Err error) inputs.Fault ⊎ (source'.failed ≡ false)
    → (IsErrOf {T = A} (Err error) inputs.Fault → Stops mid source') → (IsErrOf {T = A} (Err error) inputs.Memory → source'.stops ≡ mid.stops) → (all : List ℕ) × ReadsPart most error source source' all
part_of source mid source' most input more asked inputs.Memory within consumed reads stops faults read once some not_long fault no_fault failed not_failed fault_stops no_stop = (
  input ++ read.input,
  record {
    reading = reading_more source mid source' most input more asked within consumed reads read once some;
    stops = no_stop refl ∙ stops;
    faults = no_fault_of inputs.Memory memory_is_no_fault no_fault ∙ faults;
    not_failed = no_fault_of inputs.Memory memory_is_no_fault not_failed;
  },
)
part_of source mid source' most input more asked inputs.Fault within consumed reads stops faults read once some not_long fault no_fault failed not_failed fault_stops no_stop = (
  input ++ read.input,
  record {
    reading = reading_more source mid source' most input more asked within consumed reads read once some;
    stops = record { counted = (fault_stops refl).counted ∙ ap raised stops; stopped = (fault_stops refl).stopped };
    faults = fault refl ∙ ap raised faults;
    failed = failed refl;
  },
)
part_of source mid source' most input more asked inputs.TooLong within consumed reads stops faults read once some not_long fault no_fault failed not_failed fault_stops no_stop = absurd (not_long refl)
