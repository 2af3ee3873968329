-- The queues inside cubes, in one list a cube.
use Rattle.std.specs.Prelude.{◌≡◌, ◌<◌, ℕ, ◌+◌, ◌*◌, Bool, true, nat_lt, ◌&&◌, if◌then◌else◌, List, [], All, length, replicate, slice_index_or, slice_set}
use Rattle.hmc_codes.specs.declared.lift.Lift.TheVariants as lifts
use Rattle.hmc_packet.specs.Packet.{PacketFields}
use Rattle.hmc_queues.specs.declared.queue_name.QueueName.{QueueName}
use Rattle.hmc_queues.specs.declared.queue_name.QueueName.TheVariants.{Vault, Bank, Registers, Answers}
use Rattle.hmc_queues.specs.declared.queues.QueuesSetup.{QueuesSetup}

-- the numbers of vaults and of banks in each vault, the packets for which each queue has room, and
-- the packets of each queue
pub record CubeQueuesFields : Type 0 where
  pub vaults : ℕ
  pub banks : ℕ
  pub size : ℕ
  pub queues : List (List PacketFields)

-- of each vault its requests, its answers and its banks; after the vaults, the requests and the
-- answers of the registers
abbrev pub seats : (vaults banks : ℕ) → ℕ
seats vaults banks = vaults * (banks + 2) + 2

-- the vault of a queue; the registers come after all vaults
abbrev pub group_of : (vaults : ℕ) → QueueName → ℕ
group_of vaults (Vault vault) = vault
group_of vaults (Bank vault bank) = vault
group_of vaults Registers = vaults
group_of vaults (Answers (lifts.Vault vault)) = vault
group_of vaults (Answers lifts.Registers) = vaults

-- its place there
abbrev pub seat_of : QueueName → ℕ
seat_of (Vault vault) = 0
seat_of (Bank vault bank) = 2 + bank
seat_of Registers = 0
seat_of (Answers from) = 1

-- its place in the list
abbrev pub place_of : CubeQueuesFields → QueueName → ℕ
place_of queues name = group_of queues.vaults name * (queues.banks + 2) + seat_of name

-- there is such a queue
abbrev pub is_there : CubeQueuesFields → QueueName → Bool
is_there queues (Vault vault) = nat_lt vault queues.vaults
is_there queues (Bank vault bank) = nat_lt vault queues.vaults && nat_lt bank queues.banks
is_there queues Registers = true
is_there queues (Answers (lifts.Vault vault)) = nat_lt vault queues.vaults
is_there queues (Answers lifts.Registers) = true

-- in place of a cube that isn't there: one without queues
abbrev pub no_queues : CubeQueuesFields
no_queues = record { vaults = 0; banks = 0; size = 0; queues = [] }

-- the queues of a cube
abbrev pub queues_at : List CubeQueuesFields → (cube : ℕ) → CubeQueuesFields
queues_at cubes cube = slice_index_or cubes cube no_queues

-- the packets for which each queue of a cube has room
abbrev pub size_at : List CubeQueuesFields → (cube : ℕ) → ℕ
size_at cubes cube = (queues_at cubes cube).size

-- the packets in a queue of a cube; none where it isn't there
abbrev pub packets_in : CubeQueuesFields → QueueName → List PacketFields
packets_in queues name =
    if is_there queues name then slice_index_or queues.queues (place_of queues name) [] else []

abbrev pub packets_at : List CubeQueuesFields → (cube : ℕ) → QueueName → List PacketFields
packets_at cubes cube name = packets_in (queues_at cubes cube) name

-- a queue of a cube that is there
pub record IsQueue (cubes : List CubeQueuesFields) (cube : ℕ) (name : QueueName) : Type 0 where
  pub some_cube : cube < length cubes
  pub there : is_there (queues_at cubes cube) name ≡ true

-- the same with these packets in one of the queues
abbrev pub with_packets : (cube : ℕ) → QueueName → List PacketFields → List CubeQueuesFields →
    List CubeQueuesFields
with_packets cube name packets cubes =
    let queues = queues_at cubes cube in
    slice_set cubes cube
    (record queues { queues = slice_set queues.queues (place_of queues name) packets })

-- no packet waits
abbrev pub opening_queues : QueuesSetup → CubeQueuesFields
opening_queues setup = record {
  vaults = setup.vaults;
  banks = setup.banks;
  size = setup.size;
  queues = replicate (seats setup.vaults setup.banks) [];
}

-- no queue of a cube holds a packet
abbrev pub AreEmpty : CubeQueuesFields → Type 0
AreEmpty queues = All (λ queue. queue ≡ []) queues.queues
