-- The words of the kinds of faults.
use Rattle.std.specs.Prelude.{ℕ, List, codes}
use Rattle.hmc_script.specs.declared.fault.ScriptKind.{ScriptKind}
use Rattle.hmc_script.specs.declared.fault.ScriptKind.TheVariants.{Host, Words, Command, Cube, Address, Payload, TooMany}

-- the word by which a fault is reported
abbrev pub kind_word : ScriptKind → List ℕ
kind_word Host = codes "host"
kind_word Words = codes "words"
kind_word Command = codes "command"
kind_word Cube = codes "cube"
kind_word Address = codes "address"
kind_word Payload = codes "payload"
kind_word TooMany = codes "toomany"
