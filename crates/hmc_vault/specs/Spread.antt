-- What a spread returns, and what it leaves.
use Rattle.std.specs.Prelude.{ℕ, nat_lt, if◌then◌else◌, List, [], ◌∷◌, ◌++◌, length, take, drop, slice_set}
use Rattle.hmc_codes.specs.Shape.{ShapeFields, bank_of}
use Rattle.hmc_packet.specs.Packet.{PacketFields}
use Rattle.hmc_vault.specs.declared.spread.Spread.{Spread}
use Rattle.hmc_vault.specs.declared.spread.Spread.TheVariants.{Empty, Full, Moved}
use Rattle.hmc_vault.specs.Vault.{VaultFields, bank_at}

-- a packet goes to the queue of a bank if that has room
abbrev pub goes_to : VaultFields → (bank : ℕ) → Spread
goes_to vault bank = (if nat_lt (length (bank_at vault bank)) vault.size then Moved bank else Full)

-- nothing goes from an empty queue; else the front goes to the bank that its address names
abbrev pub front_goes : VaultFields → List PacketFields → ShapeFields → Spread
front_goes vault [] shape = Empty
front_goes vault (front ∷ rest) shape = goes_to vault (bank_of shape front.address)

-- what a spread returns
unfoldable pub spread_says : VaultFields → ShapeFields → Spread
spread_says vault shape = front_goes vault vault.vault_queue shape

-- what it leaves: the front is last in the queue of its bank, or nothing changed
abbrev pub spread_gives : Spread → VaultFields → VaultFields
spread_gives (Moved bank) vault =
    record vault {
      vault_queue = drop 1 vault.vault_queue;
      banks = slice_set vault.banks bank (bank_at vault bank ++ take 1 vault.vault_queue);
    }
spread_gives _ vault = vault
