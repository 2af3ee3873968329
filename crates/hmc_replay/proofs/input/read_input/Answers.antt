-- What was read is what was gathered, and the piece that was read last.
use Rattle.std.proofs.Common.{◌≡◌, ◌≤◌, ◌<◌, ◌∙◌, length, length-take, ap, arith, sym, subst, refl, take, suc, inl, inr, ◌⊎◌, rules, false, Ok, IsErrOf}
use Rattle.hmc_replay.specs.declared.input.InputError.TheVariants as inputs
use Rattle.std.specs.Io.KnownBytes.{Consumes}
use Rattle.std.proofs.KnownBytes.{Consumes-nil}
use Rattle.hmc_outside.proofs.ReadingLemmas.{ReadsFew-none, ReadsFew-most}
use Rattle.hmc_replay.proofs.Reading.{reads_more, few_more, whole_of, part_of}
use Rattle.hmc_replay.proofs.input.read_input.Goals as goal

-- an Ok is no fault
no_fault : {A : Type 0} (x : A) (P : Type 0) → (IsErrOf (Ok x) inputs.Fault) ⊎ P → P
no_fault x P (inl is) = absurd (cc)
no_fault x P (inr p) = p

pub reads-init : goal.reads-init
reads-init g c =
    let none : length c.new-input.result.items ≡ 0 = ap length c.new-input.ensures.items in
    record {
      within = omega (arith, none);
      taken = subst (Consumes (g.S.Source.shows c.args.source.now).left (g.S.Source.shows c.args.source.now).left) (sym c.new-input.ensures.items) (Consumes-nil (g.S.Source.shows c.args.source.now).left);
      reads = ReadsFew-none (g.S.Source.shows c.args.source.now) (length c.new-input.result.items);
      stops = refl;
      faults = refl;
      not_failed = λ some. absurd (omega (arith, some, none));
    }

pub reads-preserved : goal.reads-preserved
reads-preserved g c =
    let source = g.S.Source.shows c.args.source.now in
    let mid = g.S.Source.shows c.reads.source in
    let source' = g.S.Source.shows c.read_piece.new.source in
    let n = c.in-Ok.field-0 in
    let asked : length (take c.min-asked.result c.reads.piece) ≤ c.min-asked.result = omega (arith, length-take c.min-asked.result c.reads.piece) in
    let some : 0 < length (take c.min-asked.result c.reads.piece) = search rules in
    let given : 0 < n = grind (arith, c.in-Ok.field-0-test) in
    let more = reads_more source mid source' c.reads.input.items c.read_piece.new.input.items n _ c.reads.invariant.taken c.reads.invariant.reads c.in-Ok.ensures.piece c.in-Ok.ensures.once some in
    record {
      within = omega (arith, more.size, asked, c.in-Ok.ensures.within, c.reads-test.true, c.len.ensures, c.len-in-reads.ensures, c.min-asked.ensures);
      taken = more.taken;
      reads = few_more source source' c.reads.input.items c.read_piece.new.input.items n given more;
      stops = c.in-Ok.ensures.goes_on given ∙ c.reads.invariant.stops;
      faults = no_fault n _ c.in-Ok.ensures.no_fault ∙ c.reads.invariant.faults;
      not_failed = λ _. no_fault n (source'.failed ≡ false) c.in-Ok.ensures.not_failed;
    }

pub returns-in-Ok-eq0 : goal.returns-in-Ok-eq0
returns-in-Ok-eq0 g c =
    let source = g.S.Source.shows c.args.source.now in
    let mid = g.S.Source.shows c.reads.source in
    let source' = g.S.Source.shows c.read_piece.new.source in
    let n = c.in-Ok-eq0.field-0 in
    let some : 0 < length (take c.min-asked.result c.reads.piece) = search rules in
    let more = reads_more source mid source' c.reads.input.items c.read_piece.new.input.items n _ c.reads.invariant.taken c.reads.invariant.reads c.in-Ok-eq0.ensures.piece c.in-Ok-eq0.ensures.once some in
    whole_of source mid source' c.args.most c.reads.input.items c.read_piece.new.input.items n c.in-Ok-eq0.field-0-test (omega (arith, c.reads-test.true, c.len.ensures)) more (c.in-Ok-eq0.ensures.ended c.in-Ok-eq0.field-0-test)
    (c.in-Ok-eq0.ensures.end_stops c.in-Ok-eq0.field-0-test) c.reads.invariant.stops c.reads.invariant.faults (no_fault n _ c.in-Ok-eq0.ensures.no_fault) (no_fault n _ c.in-Ok-eq0.ensures.not_failed)

pub returns-in-Err : goal.returns-in-Err
returns-in-Err g c =
    let source = g.S.Source.shows c.args.source.now in
    let mid = g.S.Source.shows c.reads.source in
    let source' = g.S.Source.shows c.read_piece.new.source in
    let some : 0 < length (take c.min-asked.result c.reads.piece) = search rules in
    part_of source mid source' c.args.most c.reads.input.items _ _ c.in-Err.error
    (omega (arith, c.reads-test.true, c.len.ensures, c.len-in-reads.ensures, c.min-asked.ensures, length-take c.min-asked.result c.reads.piece))
    c.reads.invariant.taken c.reads.invariant.reads c.reads.invariant.stops c.reads.invariant.faults c.in-Err.ensures.read c.in-Err.ensures.once some c.in-Err.ensures.not_judged c.in-Err.ensures.fault c.in-Err.ensures.no_fault
    c.in-Err.ensures.failed c.in-Err.ensures.not_failed c.in-Err.ensures.fault_stops c.in-Err.ensures.no_stop

pub returns : goal.returns
returns g c =
    let full : length c.reads.input.items ≡ suc c.args.most = omega (arith, c.reads-test.false, c.len.ensures, c.reads.invariant.within) in (
      c.reads.input.items,
      record {
        reading = record { few = c.reads.invariant.within; consumed = c.reads.invariant.taken; reads = ReadsFew-most (g.S.Source.shows c.args.source.now) (g.S.Source.shows c.reads.source) (length c.reads.input.items) (suc (length c.reads.input.items)) c.reads.invariant.reads (omega arith) };
        full = full;
        stops = c.reads.invariant.stops;
        faults = c.reads.invariant.faults;
        not_failed = c.reads.invariant.not_failed (omega (arith, full));
      },
    )
