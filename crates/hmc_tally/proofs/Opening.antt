-- Nothing is counted at first.
use Rattle.std.proofs.Common.{◌≤◌, ℕ, zero, suc, arith}
use Rattle.std.specs.Prelude.{replicate}
use Rattle.std.specs.List.{All}
use Rattle.std.proofs.lemmas.List.Elements.{All-cons}
use Rattle.hmc_journal.specs.Setup.{Topology, cubes_in, hosts_in, directions_in}
use Rattle.hmc_tally.specs.Tally.{no_counters, no_host_steps, no_cube_counts, opening_tally, CountersWithin, HostWithin, CubeWithin, IsWithin}

pub within_copies : {X : Type 0} (P : X → Type 0) (x : X) (n : ℕ) → P x → All P (replicate n x)
within_copies P x zero is = λ k d there. absurd (omega arith)
within_copies P x (suc n) is = All-cons P x (replicate n x) is (within_copies P x n is)

pub opening_within : (topology : Topology) → IsWithin 0 (opening_tally topology)
opening_within topology =
    let none : 0 ≤ 0 = omega arith in
    record {
      directions = within_copies (CountersWithin 0) no_counters (directions_in topology) (record { sent = none; landed = none; changed = none; accepted = none; repeats = none; aborts = none });
      hosts = within_copies (HostWithin 0) no_host_steps (hosts_in topology) (record { given = none; taken = none });
      cubes = within_copies (CubeWithin 0) no_cube_counts (cubes_in topology) (record { executed = none; dropped = none });
    }
