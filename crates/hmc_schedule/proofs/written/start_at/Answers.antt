use Rattle.std.proofs.Common.{◌∙◌, Option, ap, sym}
use Rattle.std.specs.Option.{option_map_or}
use Rattle.std.proofs.lemmas.Option.{slice_get-get_or, slice_get_past}
use Rattle.hmc_schedule.specs.declared.written.Segment.{Segment}
use Rattle.hmc_schedule.proofs.written.start_at.Goals as goal

pub returns-in-Some : goal.returns-in-Some
returns-in-Some c =
    ap (λ (s : Segment). s.start) (c.in-Some.ensures.lookup.3.1 c.in-Some.segment.now)
    ∙ sym (ap (λ (o : Option Segment). option_map_or (λ (s : Segment). s.start) o c.args.len) (slice_get-get_or c.args.segments.now c.args.number c.in-Some.segment.now c.in-Some.ensures.lookup.3.0))

pub returns-in-None : goal.returns-in-None
returns-in-None c =
    sym (ap (λ (o : Option Segment). option_map_or (λ (s : Segment). s.start) o c.args.len) (slice_get_past c.args.segments.now c.args.number c.in-None.ensures.lookup.3))
