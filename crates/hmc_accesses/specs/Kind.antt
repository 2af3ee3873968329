-- The words of the kinds of faults.
use Rattle.std.specs.Prelude.{ℕ, List, codes}
use Rattle.hmc_accesses.specs.declared.fault.TraceKind.{TraceKind}
use Rattle.hmc_accesses.specs.declared.fault.TraceKind.TheVariants as kinds

-- the word by which a fault is reported
abbrev pub kind_word : TraceKind → List ℕ
kind_word kinds.Word = codes "word"
kind_word kinds.Words = codes "words"
kind_word kinds.Number = codes "number"
kind_word kinds.Cube = codes "cube"
kind_word kinds.Hex = codes "hex"
kind_word kinds.Length = codes "length"
kind_word kinds.Range = codes "range"
kind_word kinds.Cubes = codes "cubes"
kind_word kinds.Capacity = codes "capacity"
kind_word kinds.TooMany = codes "toomany"
