-- What the command of a request says of its answer.
use Rattle.std.proofs.Common.{◌≡◌, ℕ, true, false, Option, Some, None, refl, ap, subst}
use Rattle.std.specs.Prelude.{is_none, ◌&&◌}
use Rattle.hmc_codes.specs.Table.{table_line}
use Rattle.hmc_codes.specs.Commands.{family_of, family_of_layout, layout_of, reply_of, is_ask, is_posted}
use Rattle.hmc_codes.specs.declared.family.Family.TheVariants as families
use Rattle.hmc_codes.specs.declared.layout.Layout.{Layout}
use Rattle.hmc_codes.specs.declared.layout.Layout.TheVariants as layouts
use Rattle.hmc_codes.specs.declared.command.Command.{Command}
use Rattle.hmc_codes.specs.declared.command.Command.TheVariants as commands
use Rattle.hmc_atomics.specs.declared.atomic.Atomic.{Atomic}
use Rattle.hmc_atomics.specs.Operations.{atomic_of}
use Rattle.hmc_codes.specs.Answer.{is_returned}
use Rattle.hmc_serial.specs.declared.action.Action.TheVariants.{Read, ReadRegister, WriteRegister, Act, Work}
use Rattle.hmc_serial.specs.Actions.{action_of}

-- every request has an action
pub asks_for_something : (command : Command) → action_of command ≡ None → family_of command ≡ families.Ask → ⊥
unfolding action_of atomic_of table_line
asks_for_something commands.Null is asks = cc
asks_for_something _ is asks = cc

-- a response can carry the data of a read
pub record IsReadOf (command : Command) (size : ℕ) : Type 0 where
  pub answered : is_posted command ≡ false
  pub returned : is_returned size ≡ true

pub read_of : (command : Command) (size : ℕ) → action_of command ≡ Some (Read size) → IsReadOf command size
unfolding action_of atomic_of table_line
read_of commands.Rd16 size is = let same : 16 ≡ size = cc in subst (IsReadOf commands.Rd16) same (record { answered = refl; returned = refl })
read_of commands.Rd32 size is = let same : 32 ≡ size = cc in subst (IsReadOf commands.Rd32) same (record { answered = refl; returned = refl })
read_of commands.Rd48 size is = let same : 48 ≡ size = cc in subst (IsReadOf commands.Rd48) same (record { answered = refl; returned = refl })
read_of commands.Rd64 size is = let same : 64 ≡ size = cc in subst (IsReadOf commands.Rd64) same (record { answered = refl; returned = refl })
read_of commands.Rd80 size is = let same : 80 ≡ size = cc in subst (IsReadOf commands.Rd80) same (record { answered = refl; returned = refl })
read_of commands.Rd96 size is = let same : 96 ≡ size = cc in subst (IsReadOf commands.Rd96) same (record { answered = refl; returned = refl })
read_of commands.Rd112 size is = let same : 112 ≡ size = cc in subst (IsReadOf commands.Rd112) same (record { answered = refl; returned = refl })
read_of commands.Rd128 size is = let same : 128 ≡ size = cc in subst (IsReadOf commands.Rd128) same (record { answered = refl; returned = refl })
read_of commands.Rd256 size is = let same : 256 ≡ size = cc in subst (IsReadOf commands.Rd256) same (record { answered = refl; returned = refl })
read_of _ size is = absurd (cc)

pub read_of_register : (command : Command) → action_of command ≡ Some ReadRegister → is_posted command ≡ false
unfolding action_of atomic_of table_line
read_of_register commands.Mdrd is = refl
read_of_register _ is = absurd (cc)

pub write_of_register : (command : Command) → action_of command ≡ Some WriteRegister → is_posted command ≡ false
unfolding action_of atomic_of table_line
write_of_register commands.Mdwr is = refl
write_of_register _ is = absurd (cc)

-- a request has a request's fields
pub asked_layout : (layout : Layout) → family_of_layout layout ≡ families.Ask → is_ask layout ≡ true
asked_layout layouts.Ask is = refl
asked_layout _ is = absurd (cc)

-- a request is posted where no command answers it
pub posted_is_unanswered : (command : Command) → family_of command ≡ families.Ask → is_posted command ≡ is_none (reply_of command)
posted_is_unanswered command asks = ap (λ b. b && is_none (reply_of command)) (asked_layout (layout_of command) asks)

-- data or the flag is returned, or nothing
abbrev pub IsActedReply : Option Command → Type 0
IsActedReply None = Unit {0}
IsActedReply (Some commands.RdRs) = Unit {0}
IsActedReply (Some commands.WrRs) = Unit {0}
IsActedReply (Some _) = ⊥

pub acted_reply : (command : Command) (op : Atomic) → action_of command ≡ Some (Act op) → IsActedReply (reply_of command)
unfolding action_of atomic_of table_line
acted_reply commands.Bwr op is = tt
acted_reply commands.Pbwr op is = tt
acted_reply commands.Bwr8r op is = tt
acted_reply commands.Inc8 op is = tt
acted_reply commands.Pinc8 op is = tt
acted_reply commands.TwoAdd8 op is = tt
acted_reply commands.PtwoAdd8 op is = tt
acted_reply commands.TwoAdds8r op is = tt
acted_reply commands.Add16 op is = tt
acted_reply commands.Padd16 op is = tt
acted_reply commands.Adds16r op is = tt
acted_reply commands.Xor16 op is = tt
acted_reply commands.Or16 op is = tt
acted_reply commands.Nor16 op is = tt
acted_reply commands.And16 op is = tt
acted_reply commands.Nand16 op is = tt
acted_reply commands.Swap16 op is = tt
acted_reply commands.Caseq8 op is = tt
acted_reply commands.Casgt8 op is = tt
acted_reply commands.Caslt8 op is = tt
acted_reply commands.Casgt16 op is = tt
acted_reply commands.Caslt16 op is = tt
acted_reply commands.Caszero16 op is = tt
acted_reply commands.Eq8 op is = tt
acted_reply commands.Eq16 op is = tt
acted_reply _ op is = absurd (cc)

pub unit_reply : (command : Command) (code : ℕ) → action_of command ≡ Some (Work code) → IsActedReply (reply_of command)
unfolding action_of atomic_of table_line
unit_reply commands.Unit0 code is = tt
unit_reply commands.Unit1 code is = tt
unit_reply commands.Unit2 code is = tt
unit_reply commands.Unit3 code is = tt
unit_reply commands.Unit4 code is = tt
unit_reply commands.Unit5 code is = tt
unit_reply commands.Unit6 code is = tt
unit_reply commands.Unit7 code is = tt
unit_reply _ code is = absurd (cc)
