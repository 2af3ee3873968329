-- The words of the kinds of faults.
use Rattle.std.specs.Prelude.{ℕ, List, codes}
use Rattle.hmc_log.specs.declared.fault.LogKind.{LogKind}
use Rattle.hmc_log.specs.declared.fault.LogKind.TheVariants as kinds

-- the word by which a fault is reported
abbrev pub kind_word : LogKind → List ℕ
kind_word kinds.Word = codes "word"
kind_word kinds.Words = codes "words"
kind_word kinds.Host = codes "host"
kind_word kinds.Tag = codes "tag"
kind_word kinds.Request = codes "request"
kind_word kinds.Answer = codes "answer"
kind_word kinds.Slot = codes "slot"
kind_word kinds.Memory = codes "memory"
kind_word kinds.Register = codes "register"
kind_word kinds.End = codes "end"
kind_word kinds.TooMany = codes "toomany"
