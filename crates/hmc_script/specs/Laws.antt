-- What is printed is read again.
use Rattle.std.specs.Prelude.{◌≡◌, ℕ, List, Ok}
use Rattle.std.specs.List.{All}
use Rattle.hmc_script.specs.Items.{ItemFields, IsScript, IsWithin}
use Rattle.hmc_script.specs.Script.{script_of}
use Rattle.hmc_script.specs.Text.{script_text}

-- a printed script is read as the same script, for a case with the hosts and cubes that it names
abbrev pub PrintedIsRead : Type 0
PrintedIsRead = (hosts cubes : ℕ) (items : List ItemFields) → IsScript items
    → All (IsWithin hosts cubes) items → script_of hosts cubes (script_text items) ≡ Ok items
