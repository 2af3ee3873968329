-- The words of a step are words of its line.
use Rattle.std.proofs.Common.{◌∙◌, List, ℕ, [], ◌∷◌, ◌++◌, codes, ap}
use Rattle.std.specs.Fmt.{decimal}
use Rattle.hmc_entries.specs.Lines.{cause_text, lift_text}
use Rattle.hmc_entries.proofs.IdleLines.{pair_flat, three_flat}
use Rattle.hmc_entries.proofs.idle_line.idle_line.Goals as goal

pub returns-in-Give-clause-text : goal.returns-in-Give-clause-text
returns-in-Give-clause-text g c = rw c.in-Give.is c.push_idle.ensures.text

pub returns-in-Send-clause-text : goal.returns-in-Send-clause-text
returns-in-Send-clause-text g c = rw c.in-Send.is c.push_idle-in-Send.ensures.text

pub returns-in-Land-clause-text : goal.returns-in-Land-clause-text
returns-in-Land-clause-text g c = rw c.in-Land.is c.push_idle-in-Land.ensures.text

pub returns-in-Registers-clause-text : goal.returns-in-Registers-clause-text
returns-in-Registers-clause-text g c = rw c.in-Registers.is c.push_idle-in-Registers.ensures.text

pub returns-in-Take-clause-text : goal.returns-in-Take-clause-text
returns-in-Take-clause-text g c = rw c.in-Take.is c.push_idle-in-Take.ensures.text

pub returns-in-Unlock-clause-text : goal.returns-in-Unlock-clause-text
returns-in-Unlock-clause-text g c = rw c.in-Unlock.is c.push_idle-in-Unlock.ensures.text

pub returns-in-Retire-clause-text : goal.returns-in-Retire-clause-text
returns-in-Retire-clause-text g c = rw c.in-Retire.is c.push_idle-in-Retire.ensures.text

pub returns-in-Shift-clause-text : goal.returns-in-Shift-clause-text
returns-in-Shift-clause-text g c =
    rw c.in-Shift.is (c.push_idle_pair.ensures.text ∙ ap (λ (l : List ℕ). c.args.into.now.bytes ++ (codes "idle shift " ++ l)) (pair_flat (decimal c.in-Shift.cube) (decimal c.in-Shift.port) (32 ∷ (cause_text c.args.cause ++ (10 ∷ [])))))

pub returns-in-Spread-clause-text : goal.returns-in-Spread-clause-text
returns-in-Spread-clause-text g c =
    rw c.in-Spread.is (c.push_idle_pair-in-Spread.ensures.text ∙ ap (λ (l : List ℕ). c.args.into.now.bytes ++ (codes "idle spread " ++ l)) (pair_flat (decimal c.in-Spread.cube) (decimal c.in-Spread.vault) (32 ∷ (cause_text c.args.cause ++ (10 ∷ [])))))

pub returns-in-Through-clause-text : goal.returns-in-Through-clause-text
returns-in-Through-clause-text g c =
    rw c.in-Through.is (c.push_idle_pair-in-Through.ensures.text ∙ ap (λ (l : List ℕ). c.args.into.now.bytes ++ (codes "idle through " ++ l)) (pair_flat (decimal c.in-Through.cube) (decimal c.in-Through.port) (32 ∷ (cause_text c.args.cause ++ (10 ∷ [])))))

pub returns-in-Bank-clause-text : goal.returns-in-Bank-clause-text
returns-in-Bank-clause-text g c =
    rw c.in-Bank.is (c.push_idle_bank.ensures.text ∙ ap (λ (l : List ℕ). c.args.into.now.bytes ++ (codes "idle bank " ++ l)) (three_flat (decimal c.in-Bank.cube) (decimal c.in-Bank.vault) (decimal c.in-Bank.bank) (32 ∷ (cause_text c.args.cause ++ (10 ∷ [])))))

pub returns-in-Lift-clause-text : goal.returns-in-Lift-clause-text
returns-in-Lift-clause-text g c =
    rw c.in-Lift.is (c.push_idle_lift.ensures.text ∙ ap (λ (l : List ℕ). c.args.into.now.bytes ++ (codes "idle lift " ++ l)) (pair_flat (decimal c.in-Lift.cube) (lift_text c.in-Lift.from) (32 ∷ (cause_text c.args.cause ++ (10 ∷ [])))))
