use Rattle.std.proofs.Common.{◌∙◌, ◌<◌, List, rules, arith, sym, ap, slice_get}
use Rattle.std.specs.Option.{option_map_or}
use Rattle.hmc_schedule.proofs.WrittenLemmas.{in_order, some_begun, place_at, same_kept}
use Rattle.hmc_schedule.proofs.RepeatLemmas.{repeated_at}
use Rattle.hmc_schedule.specs.Written.{kept_of}
use Rattle.hmc_schedule.specs.declared.written.Segment.{Segment}
use Rattle.hmc_schedule.proofs.written.Written.find.Goals as goal

pub begun_count-begun-requires : goal.begun_count-begun-requires
begun_count-begun-requires c =
    rw (c.deref.ensures.value) (in_order (kept_of c.self.inside.kept.items c.self.inside.many.items) c.self.inside.segments.items c.self.inside.len c.self.invariant)

pub overflow_sub-begun : goal.overflow_sub-begun
overflow_sub-begun c =
    some_begun (kept_of c.self.inside.kept.items c.self.inside.many.items) c.self.inside.segments.items c.deref.result.now c.self.inside.len c.args.at c.begun_count-begun.result c.args.self.now c.self.invariant c.self.view_is c.requires c.deref.ensures.value c.begun_count-begun.ensures.bound c.begun_count-begun.ensures.point

pub index-segment-requires : goal.index-segment-requires
index-segment-requires c =
    let some = some_begun (kept_of c.self.inside.kept.items c.self.inside.many.items) c.self.inside.segments.items c.deref.result.now c.self.inside.len c.args.at c.begun_count-begun.result c.args.self.now c.self.invariant c.self.view_is c.requires c.deref.ensures.value c.begun_count-begun.ensures.bound c.begun_count-begun.ensures.point in
    search (rules, some)

pub find_in-requires-clause-held : goal.find_in-requires-clause-held
find_in-requires-clause-held c =
    (place_at (kept_of c.self.inside.kept.items c.self.inside.many.items) (kept_of c.deref-3.result.now c.deref-4.result.now) c.self.inside.segments.items c.deref.result.now c.self.inside.len c.args.at c.begun_count-begun.result c.args.self.now c.index-segment.result.now c.self.invariant c.self.view_is c.requires c.deref.ensures.value c.begun_count-begun.ensures.bound c.begun_count-begun.ensures.point c.index-segment.ensures (same_kept c.deref-3.ensures.value c.deref-4.ensures.value)).held

pub find_in-requires-clause-begun : goal.find_in-requires-clause-begun
find_in-requires-clause-begun c =
    (place_at (kept_of c.self.inside.kept.items c.self.inside.many.items) (kept_of c.deref-3.result.now c.deref-4.result.now) c.self.inside.segments.items c.deref.result.now c.self.inside.len c.args.at c.begun_count-begun.result c.args.self.now c.index-segment.result.now c.self.invariant c.self.view_is c.requires c.deref.ensures.value c.begun_count-begun.ensures.bound c.begun_count-begun.ensures.point c.index-segment.ensures (same_kept c.deref-3.ensures.value c.deref-4.ensures.value)).begun

pub find_in-requires-clause-inside : goal.find_in-requires-clause-inside
find_in-requires-clause-inside c =
    (place_at (kept_of c.self.inside.kept.items c.self.inside.many.items) (kept_of c.deref-3.result.now c.deref-4.result.now) c.self.inside.segments.items c.deref.result.now c.self.inside.len c.args.at c.begun_count-begun.result c.args.self.now c.index-segment.result.now c.self.invariant c.self.view_is c.requires c.deref.ensures.value c.begun_count-begun.ensures.bound c.begun_count-begun.ensures.point c.index-segment.ensures (same_kept c.deref-3.ensures.value c.deref-4.ensures.value)).inside

pub returns-clause-step : goal.returns-clause-step
returns-clause-step c =
    (place_at (kept_of c.self.inside.kept.items c.self.inside.many.items) (kept_of c.deref-3.result.now c.deref-4.result.now) c.self.inside.segments.items c.deref.result.now c.self.inside.len c.args.at c.begun_count-begun.result c.args.self.now c.index-segment.result.now c.self.invariant c.self.view_is c.requires c.deref.ensures.value c.begun_count-begun.ensures.bound c.begun_count-begun.ensures.point c.index-segment.ensures (same_kept c.deref-3.ensures.value c.deref-4.ensures.value)).is c.find_in.result.step c.find_in.ensures.step

pub returns-clause-repeats : goal.returns-clause-repeats
returns-clause-repeats c = λ more.
    let some : 0 < c.find_in.result.repeats.until = omega (arith, more) in
    let same = same_kept c.deref-3.ensures.value c.deref-4.ensures.value in
    let ends = c.start_at-until.ensures ∙ ap (λ (l : List Segment). option_map_or (λ (s : Segment). s.start) (slice_get l c.begun_count-begun.result) c.self.inside.len) (c.deref-2.ensures.value ∙ sym c.deref.ensures.value) in
    let place = place_at (kept_of c.self.inside.kept.items c.self.inside.many.items) (kept_of c.deref-3.result.now c.deref-4.result.now) c.self.inside.segments.items c.deref.result.now c.self.inside.len c.args.at c.begun_count-begun.result c.args.self.now c.index-segment.result.now c.self.invariant c.self.view_is c.requires c.deref.ensures.value c.begun_count-begun.ensures.bound c.begun_count-begun.ensures.point c.index-segment.ensures same in
    repeated_at (kept_of c.self.inside.kept.items c.self.inside.many.items) (kept_of c.deref-3.result.now c.deref-4.result.now) c.self.inside.segments.items c.deref.result.now c.self.inside.len c.args.at c.begun_count-begun.result c.start_at-until.result c.args.self.now c.index-segment.result.now c.find_in.result.repeats c.self.invariant c.self.view_is c.requires c.deref.ensures.value c.begun_count-begun.ensures.bound c.begun_count-begun.ensures.point c.index-segment.ensures same ends (c.find_in.ensures.until some) place.begun (c.find_in.ensures.hold some)
