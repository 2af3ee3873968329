-- The words of the kinds of faults.
use Rattle.std.specs.Prelude.{ℕ, List, codes}
use Rattle.hmc_schedule.specs.declared.fault.ScheduleKind.{ScheduleKind}
use Rattle.hmc_schedule.specs.declared.fault.ScheduleKind.TheVariants.{Step, Words, Number, Range, Mask, Steps}

-- the word by which a fault is reported
abbrev pub kind_word : ScheduleKind → List ℕ
kind_word Step = codes "step"
kind_word Words = codes "words"
kind_word Number = codes "number"
kind_word Range = codes "range"
kind_word Mask = codes "mask"
kind_word Steps = codes "steps"
