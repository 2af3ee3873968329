-- What the calls in words, the values and the units say, computed: also where they say no.
use Rattle.std.proofs.Common.{◌≡◌, true, false, [], ◌∷◌, ◌++◌, ℕ, Some, None, replicate, refl}
use Rattle.std.specs.Prelude.{Err, Ok, codes}
use Rattle.hmc_codes.specs.Bytes.{padded_bytes}
use Rattle.hmc_script.specs.declared.fault.ScriptKind.TheVariants.{Cube}
use Rattle.hmc_schedule.specs.declared.fault.ScheduleKind.TheVariants.{Range}
use Rattle.hmc_case.specs.declared.fault.CaseKind.TheVariants as kinds
use Rattle.hmc_case.specs.declared.fault.Section.TheVariants as sections
use Rattle.hmc_units.specs.Shipped.{reverse_unit, stamp_unit}
use Rattle.hmc_session.specs.declared.refusal.LineNotAsked.TheVariants as lines
use Rattle.hmc_session.specs.declared.refusal.NotAsked.TheVariants as causes
use Rattle.hmc_session.specs.declared.run.Ran.TheVariants.{Tried, Ended, Over}
use Rattle.hmc_c.specs.Faults.{case_fault, request_fault, steps_fault}
use Rattle.hmc_c.specs.Laying.{has_bit, ran_status, stops_of}
use Rattle.hmc_c.specs.Units.{are_units, unit_named}
use Rattle.hmc_c.specs.Values.{block_of, where_below}
use Rattle.hmc_c.specs.Words.{line_status}
use Rattle.hmc_c.specs.declared.units.UnitIn.{UnitIn}

-- a set of kinds: took alone, and none
stops-took : (stops_of 512).took ≡ true
unfolding stops_of
stops-took = refl

stops-idle : (stops_of 512).idle ≡ false
unfolding stops_of
stops-idle = refl

stops-last : (stops_of 32768).idle ≡ true
unfolding stops_of
stops-last = refl

has_bit-no : has_bit 6 8 ≡ false
has_bit-no = refl

ran-tried : ran_status Tried ≡ 0
ran-tried = refl

ran-ended : ran_status Ended ≡ 8
ran-ended = refl

ran-over : ran_status Over ≡ 11
ran-over = refl

-- statuses of texts
line-fault : line_status (lines.Fault 2 Cube) ≡ 6
line-fault = refl

line-finished : line_status (lines.Refused causes.Finished) ≡ 14
line-finished = refl

-- faults, with their words
request-fault : request_fault (Err (lines.Fault 2 Cube))
    ≡ Some (record { line = 2; section = 5; word = codes "cube" ++ replicate 12 0 })
unfolding padded_bytes
request-fault = refl

request-one : request_fault (Err lines.NotOne)
    ≡ Some (record { line = 0; section = 5; word = codes "one" ++ replicate 13 0 })
unfolding padded_bytes
request-one = refl

steps-fault : steps_fault (Err (3, Range))
    ≡ Some (record { line = 3; section = 6; word = codes "range" ++ replicate 11 0 })
unfolding padded_bytes
steps-fault = refl

steps-none : steps_fault (Ok []) ≡ None
steps-none = refl

case-fault : case_fault (Err (record { section = sections.Link; line = 1; kind = kinds.Taken }))
    ≡ Some (record { line = 1; section = 4; word = codes "taken" ++ replicate 11 0 })
unfolding padded_bytes
case-fault = refl

-- units
a_unit : (kind cube code : ℕ) → UnitIn
a_unit kind cube code = record { kind = kind; cube = cube; code = code }

unit-reverse : unit_named (a_unit 0 0 3) ≡ Some (reverse_unit 0 3)
unfolding a_unit
unit-reverse = refl

unit-stamp : unit_named (a_unit 1 7 1) ≡ Some (stamp_unit 7 1 0)
unfolding a_unit
unit-stamp = refl

unit-kind : unit_named (a_unit 2 0 0) ≡ None
unfolding a_unit
unit-kind = refl

unit-cube : unit_named (a_unit 0 8 0) ≡ None
unfolding a_unit
unit-cube = refl

unit-code : unit_named (a_unit 0 0 8) ≡ None
unfolding a_unit
unit-code = refl

units-none : are_units [] ≡ true
units-none = refl

units-one : are_units (a_unit 0 0 0 ∷ a_unit 2 0 0 ∷ []) ≡ false
unfolding a_unit
units-one = refl

units-nine : are_units (replicate 9 (a_unit 0 0 0)) ≡ false
unfolding a_unit
units-nine = refl

-- blocks and parts by number
block-there : block_of (replicate 16 7 ++ replicate 16 9) 16 ≡ Some (replicate 16 9)
block-there = refl

block-between : block_of (replicate 32 7) 8 ≡ None
block-between = refl

block-past : block_of (replicate 32 7) 32 ≡ None
block-past = refl

part-there : where_below {X = ℕ} 1 2 (Some 5) ≡ Some 5
part-there = refl

part-past : where_below {X = ℕ} 2 2 (Some 5) ≡ None
part-past = refl
