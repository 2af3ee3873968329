-- A journal after which no packet is on its way.
use Rattle.std.specs.Prelude.{◌≡◌, ℕ, ◌^◌, Bool, ◌==◌, ◌&&◌, List, [], ◌∷◌, ◌++◌, length, map, flat_map}
use Rattle.std.specs.List.{list_all}
use Rattle.hmc_codes.specs.Numbers.{upto}
use Rattle.hmc_codes.specs.declared.lift.Lift.TheVariants as lifts
use Rattle.hmc_entries.specs.declared.entry.Entry.{Entry}
use Rattle.hmc_journal.specs.Setup.{Topology, shape_of, cubes_in, directions_in}
use Rattle.hmc_journal.specs.Counts.{token_counts}
use Rattle.hmc_journal.specs.Queues.{QueueId, landing_buffer, contents}
use Rattle.hmc_journal.specs.Queues.QueueId.{Output, Vault, Bank, Registers, Answers}

-- no queue holds a packet, and on no direction tokens are with packets under way
pub record IsDrained (topology : Topology) (past : List Entry) : Type 0 where
  pub queues : (queue : QueueId) → contents topology past queue ≡ []
  pub transit : (direction : ℕ) → (token_counts topology past direction).transit ≡ 0

-- the queues of a vault: its own, those of its banks, and that of its answers
abbrev pub vault_queues : Topology → (cube vault : ℕ) → List QueueId
vault_queues topology cube vault =
    Vault cube vault ∷
    map (Bank cube vault) (upto (2 ^ (shape_of topology cube).bank_bits))
    ++ Answers cube (lifts.Vault vault) ∷ []

-- the queues of a cube, except those of its ports
abbrev pub cube_queues : Topology → (cube : ℕ) → List QueueId
cube_queues topology cube =
    Registers cube ∷ Answers cube lifts.Registers ∷
    flat_map (vault_queues topology cube) (upto (2 ^ (shape_of topology cube).vault_bits))

-- the output queue where a direction starts, and the buffer where it ends
abbrev pub direction_queues : Topology → (direction : ℕ) → List QueueId
direction_queues topology direction = Output direction ∷ landing_buffer topology direction ∷ []

-- all directions
abbrev pub directions_of : Topology → List ℕ
directions_of topology = upto (directions_in topology)

-- all queues that there are
abbrev pub queues_of : Topology → List QueueId
queues_of topology =
    flat_map (direction_queues topology) (directions_of topology)
    ++ flat_map (cube_queues topology) (upto (cubes_in topology))

-- the same as a test of the queues and the directions that there are
unfoldable pub is_drained : Topology → List Entry → Bool
is_drained topology past =
    list_all (λ queue. length (contents topology past queue) == 0) (queues_of topology) &&
    list_all (λ direction. (token_counts topology past direction).transit == 0)
    (directions_of topology)
