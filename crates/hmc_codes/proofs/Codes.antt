-- Each command is found by its code, and has the code that it is found by.
use Rattle.std.proofs.Common.{◌≡◌, ◌∙◌, ◌==◌, ℕ, Bool, true, false, eqb, Option, Some, None, List, [], ◌∷◌, find, cond, IfSome, refl, sym, ap, subst}
use Rattle.std.proofs.lemmas.Bool.{eqb-true}
use Rattle.hmc_codes.specs.Table.{table_line}
use Rattle.hmc_codes.specs.Commands.{code_of}
use Rattle.hmc_codes.specs.declared.command.Command.{Command}
use Rattle.hmc_codes.specs.declared.command.Command.TheVariants as commands
use Rattle.hmc_codes.specs.Codes.{all_commands, command_of}

-- each command is the first with its code
pub command_of-code_of : (c : Command) → command_of (code_of c) ≡ Some c
unfolding table_line all_commands command_of
command_of-code_of commands.Null = refl
command_of-code_of commands.Pret = refl
command_of-code_of commands.Tret = refl
command_of-code_of commands.Irtry = refl
command_of-code_of commands.Wr16 = refl
command_of-code_of commands.Wr32 = refl
command_of-code_of commands.Wr48 = refl
command_of-code_of commands.Wr64 = refl
command_of-code_of commands.Wr80 = refl
command_of-code_of commands.Wr96 = refl
command_of-code_of commands.Wr112 = refl
command_of-code_of commands.Wr128 = refl
command_of-code_of commands.Wr256 = refl
command_of-code_of commands.Pwr16 = refl
command_of-code_of commands.Pwr32 = refl
command_of-code_of commands.Pwr48 = refl
command_of-code_of commands.Pwr64 = refl
command_of-code_of commands.Pwr80 = refl
command_of-code_of commands.Pwr96 = refl
command_of-code_of commands.Pwr112 = refl
command_of-code_of commands.Pwr128 = refl
command_of-code_of commands.Pwr256 = refl
command_of-code_of commands.Rd16 = refl
command_of-code_of commands.Rd32 = refl
command_of-code_of commands.Rd48 = refl
command_of-code_of commands.Rd64 = refl
command_of-code_of commands.Rd80 = refl
command_of-code_of commands.Rd96 = refl
command_of-code_of commands.Rd112 = refl
command_of-code_of commands.Rd128 = refl
command_of-code_of commands.Rd256 = refl
command_of-code_of commands.Mdwr = refl
command_of-code_of commands.Mdrd = refl
command_of-code_of commands.Bwr = refl
command_of-code_of commands.TwoAdd8 = refl
command_of-code_of commands.Add16 = refl
command_of-code_of commands.Pbwr = refl
command_of-code_of commands.PtwoAdd8 = refl
command_of-code_of commands.Padd16 = refl
command_of-code_of commands.Bwr8r = refl
command_of-code_of commands.TwoAdds8r = refl
command_of-code_of commands.Adds16r = refl
command_of-code_of commands.Xor16 = refl
command_of-code_of commands.Or16 = refl
command_of-code_of commands.Nor16 = refl
command_of-code_of commands.And16 = refl
command_of-code_of commands.Nand16 = refl
command_of-code_of commands.Inc8 = refl
command_of-code_of commands.Pinc8 = refl
command_of-code_of commands.Casgt8 = refl
command_of-code_of commands.Caslt8 = refl
command_of-code_of commands.Casgt16 = refl
command_of-code_of commands.Caslt16 = refl
command_of-code_of commands.Caseq8 = refl
command_of-code_of commands.Caszero16 = refl
command_of-code_of commands.Eq16 = refl
command_of-code_of commands.Eq8 = refl
command_of-code_of commands.Swap16 = refl
command_of-code_of commands.Unit0 = refl
command_of-code_of commands.Unit1 = refl
command_of-code_of commands.Unit2 = refl
command_of-code_of commands.Unit3 = refl
command_of-code_of commands.Unit4 = refl
command_of-code_of commands.Unit5 = refl
command_of-code_of commands.Unit6 = refl
command_of-code_of commands.Unit7 = refl
command_of-code_of commands.RdRs = refl
command_of-code_of commands.WrRs = refl
command_of-code_of commands.MdRdRs = refl
command_of-code_of commands.MdWrRs = refl
command_of-code_of commands.Error = refl

-- what is found for the code of a command is that command
pub command_of-only : (found : Option Command) (code : ℕ) → found ≡ command_of code → (c : Command) → code_of c ≡ code → found ≡ Some c
command_of-only found code is c has = is ∙ sym (ap command_of has) ∙ command_of-code_of c

found-code : (code : ℕ) (d : Command) (later : Option Command) (c : Command) (b : Bool) → eqb (code_of d) code ≡ b → (later ≡ Some c → code_of c ≡ code) → cond b (Some d) later ≡ Some c → code_of c ≡ code
found-code code d later c true test later_is found =
    let same : d ≡ c = cc in
    subst (λ (e : Command). code_of e ≡ code) same (eqb-true _ _ test)
found-code code d later c false test later_is found = later_is found

find-code : (code : ℕ) (cs : List Command) (c : Command) → find (λ d. code_of d == code) cs ≡ Some c → code_of c ≡ code
find-code code [] c is = absurd cc
find-code code (d ∷ rest) c is =
    found-code code d (find (λ e. code_of e == code) rest) c (eqb (code_of d) code) refl (find-code code rest c) is

-- what is found has the code
pub command_of-code : (code : ℕ) (c : Command) → command_of code ≡ Some c → code_of c ≡ code
unfolding command_of
command_of-code code c is = find-code code all_commands c is

pub command_of-found : (found : Option Command) (code : ℕ) → found ≡ command_of code → IfSome found (λ c. code_of c ≡ code)
command_of-found None code is = tt
command_of-found (Some c) code is = command_of-code code c (sym is)

-- T, and the code is that of none of the commands
abbrev pub AndNone : List Command → ℕ → Type 0 → Type 0
AndNone [] code T = T
AndNone (c ∷ cs) code T = AndNone cs code (T × (code ≡ code_of c → ⊥))

and_none-first : (cs : List Command) (code : ℕ) (T : Type 0) → AndNone cs code T → T
and_none-first [] code T is = is
and_none-first (c ∷ cs) code T is = (and_none-first cs code (T × (code ≡ code_of c → ⊥)) is).0

not_first : (code : ℕ) (c : Command) (later : Option Command) (b : Bool) → eqb (code_of c) code ≡ b → (code ≡ code_of c → ⊥) → None ≡ later → None ≡ cond b (Some c) later
not_first code c later true test other none = absurd (other (sym (eqb-true _ _ test)))
not_first code c later false test other none = none

find-none : (cs : List Command) (code : ℕ) (T : Type 0) → AndNone cs code T → None ≡ find (λ d. code_of d == code) cs
find-none [] code T is = refl
find-none (c ∷ cs) code T is =
    let More = T × (code ≡ code_of c → ⊥) in
    not_first code c (find (λ d. code_of d == code) cs) (eqb (code_of c) code) refl (and_none-first cs code More is).1 (find-none cs code More is)

-- nothing is found for the code of no command
pub command_of-none : (code : ℕ) → AndNone all_commands code (Unit {0}) → None ≡ command_of code
unfolding command_of
command_of-none code is = find-none all_commands code (Unit {0}) is
