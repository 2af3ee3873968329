-- The words by which faults are reported.
use Rattle.std.specs.Prelude.{ℕ, List, codes}
use Rattle.hmc_case.specs.declared.fault.CaseKind.{CaseKind}
use Rattle.hmc_case.specs.declared.fault.CaseKind.TheVariants as kinds
use Rattle.hmc_case.specs.declared.fault.Section.{Section}
use Rattle.hmc_case.specs.declared.fault.Section.TheVariants as sections
use Rattle.hmc_schedule.specs.Kind.{kind_word as schedule_word}
use Rattle.hmc_script.specs.Kind.{kind_word as script_word}

-- the word of a section
abbrev pub section_word : Section → List ℕ
section_word sections.Toml = codes "toml"
section_word sections.Top = codes "top"
section_word sections.Cube = codes "cube"
section_word sections.Net = codes "net"
section_word sections.Link = codes "link"
section_word sections.Script = codes "script"
section_word sections.Schedule = codes "schedule"

-- the word of a kind; a fault of the script or of the schedule has its own word
abbrev pub kind_word : CaseKind → List ℕ
kind_word kinds.Syntax = codes "syntax"
kind_word kinds.Unknown = codes "unknown"
kind_word kinds.Missing = codes "missing"
kind_word kinds.Kind = codes "kind"
kind_word kinds.Range = codes "range"
kind_word kinds.Capacity = codes "capacity"
kind_word kinds.Endpoint = codes "endpoint"
kind_word kinds.NoCube = codes "nocube"
kind_word kinds.Hosts = codes "hosts"
kind_word kinds.SelfJoined = codes "self"
kind_word kinds.Taken = codes "taken"
kind_word kinds.Parted = codes "parted"
kind_word (kinds.Script kind) = script_word kind
kind_word (kinds.Schedule kind) = schedule_word kind
