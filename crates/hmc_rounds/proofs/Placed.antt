-- Where a queue, if there is one, is among those of the cube, and of both ends of the link.
use Rattle.std.proofs.Common.{◌≡◌, ◌<◌, ℕ, Option, Some, None, refl, ap}
use Rattle.hmc_codes.specs.declared.lift.Lift.{Lift}
use Rattle.hmc_codes.specs.declared.lift.Lift.TheVariants as lifts
use Rattle.hmc_journal.specs.Setup.{Topology}
use Rattle.hmc_journal.specs.Queues.{QueueId, is_at, one_if}
use Rattle.hmc_journal.specs.Queues.QueueId.{Output, Port, Host, Vault, Bank, Registers, Answers}
use Rattle.hmc_journal.proofs.Moves.{same_queue_refl}
use Rattle.hmc_rounds.specs.CubeQueues.{vaults_in, banks_in, queues_of_vaults, queues_of_units, queues_of_answers}
use Rattle.hmc_rounds.proofs.Totals.{count, count_none, vault_once, vault_off, bank_once, unit_off, registers_once, answer_off, answer_vault_once, answer_registers_once}
use Rattle.hmc_rounds.proofs.Single.{Joined}

pub record Placed (t : Topology) (j : Joined t) (there : Option QueueId) (p v u a q h : ℕ) :
    Type 0 where
  pub in_port : one_if (is_at there (Port 0 j.port)) ≡ p
  pub in_vaults : count there (queues_of_vaults t) ≡ v
  pub in_units : count there (queues_of_units t) ≡ u
  pub in_answers : count there (queues_of_answers t) ≡ a
  pub in_out : one_if (is_at there (Output j.back)) ≡ q
  pub in_host : one_if (is_at there (Host 0)) ≡ h

pub at_none : (t : Topology) (j : Joined t) → Placed t j None 0 0 0 0 0 0
at_none t j =
    record {
      in_port = refl;
      in_vaults = count_none (queues_of_vaults t);
      in_units =
          count_none (queues_of_units t);
      in_answers =
          count_none (queues_of_answers t);
      in_out = refl;
      in_host = refl;
    }

pub at_port : (t : Topology) (j : Joined t) → Placed t j (Some (Port 0 j.port)) 1 0 0 0 0 0
at_port t j = record {
  in_port = ap one_if (same_queue_refl (Port 0 j.port));
  in_vaults = vault_off t (Port 0 j.port) (λ v. refl);
  in_units = unit_off t (Port 0 j.port) refl (λ v b. refl);
  in_answers = answer_off t (Port 0 j.port) refl (λ v. refl);
  in_out = refl;
  in_host = refl;
}

pub at_vault : (t : Topology) (j : Joined t) (v : ℕ) → v < vaults_in t →
    Placed t j (Some (Vault 0 v)) 0 1 0 0 0 0
at_vault t j v less = record {
  in_port = refl;
  in_vaults = vault_once t v less;
  in_units = unit_off t (Vault 0 v) refl (λ w b. refl);
  in_answers = answer_off t (Vault 0 v) refl (λ w. refl);
  in_out = refl;
  in_host = refl;
}

pub at_bank : (t : Topology) (j : Joined t) (v b : ℕ) → v < vaults_in t → b < banks_in t →
    Placed t j (Some (Bank 0 v b)) 0 0 1 0 0 0
at_bank t j v b v_less b_less = record {
  in_port = refl;
  in_vaults = vault_off t (Bank 0 v b) (λ w. refl);
  in_units = bank_once t v b v_less b_less;
  in_answers = answer_off t (Bank 0 v b) refl (λ w. refl);
  in_out = refl;
  in_host = refl;
}

pub at_registers : (t : Topology) (j : Joined t) → Placed t j (Some (Registers 0)) 0 0 1 0 0 0
at_registers t j = record {
  in_port = refl;
  in_vaults = vault_off t (Registers 0) (λ w. refl);
  in_units = registers_once t;
  in_answers = answer_off t (Registers 0) refl (λ w. refl);
  in_out = refl;
  in_host = refl;
}

abbrev pub IsLiftThere : Topology → Lift → Type 0
IsLiftThere t (lifts.Vault v) = v < vaults_in t
IsLiftThere t lifts.Registers = Unit {0}

pub at_answers : (t : Topology) (j : Joined t) (from : Lift) → IsLiftThere t from →
    Placed t j (Some (Answers 0 from)) 0 0 0 1 0 0
at_answers t j (lifts.Vault v) less = record {
  in_port = refl;
  in_vaults = vault_off t (Answers 0 (lifts.Vault v)) (λ w. refl);
  in_units = unit_off t (Answers 0 (lifts.Vault v)) refl (λ w b. refl);
  in_answers = answer_vault_once t v less;
  in_out = refl;
  in_host = refl;
}
at_answers t j lifts.Registers less = record {
  in_port = refl;
  in_vaults = vault_off t (Answers 0 lifts.Registers) (λ w. refl);
  in_units = unit_off t (Answers 0 lifts.Registers) refl (λ w b. refl);
  in_answers = answer_registers_once t;
  in_out = refl;
  in_host = refl;
}

pub at_out : (t : Topology) (j : Joined t) → Placed t j (Some (Output j.back)) 0 0 0 0 1 0
at_out t j = record {
  in_port = refl;
  in_vaults = vault_off t (Output j.back) (λ v. refl);
  in_units = unit_off t (Output j.back) refl (λ v b. refl);
  in_answers = answer_off t (Output j.back) refl (λ v. refl);
  in_out = ap one_if (same_queue_refl (Output j.back));
  in_host = refl;
}

pub at_host : (t : Topology) (j : Joined t) → Placed t j (Some (Host 0)) 0 0 0 0 0 1
at_host t j = record {
  in_port = refl;
  in_vaults = vault_off t (Host 0) (λ v. refl);
  in_units = unit_off t (Host 0) refl (λ v b. refl);
  in_answers = answer_off t (Host 0) refl (λ v. refl);
  in_out = refl;
  in_host = ap one_if (same_queue_refl (Host 0));
}
