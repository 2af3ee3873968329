-- The queues of the one cube of a case, without those of its ports.
use Rattle.std.specs.Prelude.{ℕ, ◌^◌, List, ◌∷◌, map, flat_map}
use Rattle.hmc_codes.specs.Numbers.{upto}
use Rattle.hmc_codes.specs.declared.lift.Lift.TheVariants as lifts
use Rattle.hmc_journal.specs.Queues.{QueueId}
use Rattle.hmc_journal.specs.Queues.QueueId.{Vault, Bank, Registers, Answers}
use Rattle.hmc_journal.specs.Setup.{Topology, shape_of}

-- its vaults, and the banks of each
abbrev pub vaults_in : Topology → ℕ
vaults_in topology = 2 ^ (shape_of topology 0).vault_bits

abbrev pub banks_in : Topology → ℕ
banks_in topology = 2 ^ (shape_of topology 0).bank_bits

-- where requests wait for a vault
abbrev pub queues_of_vaults : Topology → List QueueId
queues_of_vaults topology = map (Vault 0) (upto (vaults_in topology))

-- where they wait for a unit: a bank, or the registers
abbrev pub queues_of_units : Topology → List QueueId
queues_of_units topology =
    Registers 0 ∷
    flat_map (λ vault. map (Bank 0 vault) (upto (banks_in topology))) (upto (vaults_in topology))

-- where answers wait to be lifted
abbrev pub queues_of_answers : Topology → List QueueId
queues_of_answers topology =
    Answers 0 lifts.Registers ∷
    map (λ vault. Answers 0 (lifts.Vault vault)) (upto (vaults_in topology))
