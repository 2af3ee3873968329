-- What is shown at the end.
use Rattle.std.proofs.Common.{◌≡◌, ◌<◌, ◌∙◌, ◌&&◌, ◌↔◌, ℕ, Bool, true, false, if◌then◌else◌, nat_lt, is_none, List, [], length, slice_get, replicate, refl, sym, ap, ap₂}
use Rattle.std.specs.Prelude.{IsTrue}
use Rattle.std.specs.List.{All, list_all}
use Rattle.hmc_packet.specs.Packet.{PacketFields}
use Rattle.hmc_serial.specs.Cube.{CubeState, IsCube}
use Rattle.hmc_serial.specs.Machine.{cube_in, no_cube_state}
use Rattle.hmc_codes.specs.Shape.{capacity_of}
use Rattle.hmc_ends.specs.End.{EndFields, IsQuiet}
use Rattle.hmc_queues.specs.Queues.{CubeQueuesFields, AreEmpty}
use Rattle.hmc_kept.specs.Quiet.{is_quiet_end}
use Rattle.hmc_kept.proofs.Stillness.{same_test, all_of, test_of, no_front_test, end_of, end_test}
use Rattle.hmc_check.specs.Finished.{memory_of, registers_of, are_empty}
use Rattle.hmc_check.proofs.Tests.{lt_is}
use Rattle.hmc_journal.proofs.Packets.{nothing-front}

-- ---- a cube that is there

if_true : {X : Type 0} (test : Bool) (x y : X) → test ≡ true → (if test then x else y) ≡ x
if_true true x y is = refl
if_true false x y is = absurd (cc)

pub memory_there : (cubes : List CubeState) (cube : ℕ) → cube < length cubes → memory_of cubes cube ≡ (cube_in cubes cube).memory
memory_there cubes cube less = if_true (nat_lt cube (length cubes)) (cube_in cubes cube).memory [] (lt_is cube (length cubes) less)

pub registers_there : (cubes : List CubeState) (cube : ℕ) → cube < length cubes → registers_of cubes cube ≡ (cube_in cubes cube).registers
registers_there cubes cube less = if_true (nat_lt cube (length cubes)) (cube_in cubes cube).registers (replicate 16 0) (lt_is cube (length cubes) less)

pub is_cube : (cubes : List CubeState) (cube : ℕ) → All IsCube cubes → cube < length cubes → IsCube (cube_in cubes cube)
is_cube cubes cube all less = all cube no_cube_state less

pub size_there : (cubes : List CubeState) (cube : ℕ) → All IsCube cubes → cube < length cubes → capacity_of (cube_in cubes cube).shape ≡ length (memory_of cubes cube)
size_there cubes cube all less = sym (ap length (memory_there cubes cube less) ∙ (is_cube cubes cube all less).capacity)

-- ---- nothing is on its way

queues_of : (queues : CubeQueuesFields) → are_empty queues ≡ true → AreEmpty queues
queues_of queues is = all_of (λ (l : List PacketFields). l ≡ []) (λ (l : List PacketFields). is_none (slice_get l 0)) nothing-front queues.queues is

cube_is_empty : (queues : CubeQueuesFields) → AreEmpty queues → are_empty queues ≡ true
cube_is_empty queues all = test_of (λ (l : List PacketFields). l ≡ []) (λ (l : List PacketFields). is_none (slice_get l 0)) no_front_test queues.queues all

pub ends_quiet : (ends : List EndFields) → list_all is_quiet_end ends ≡ true → All IsQuiet ends
ends_quiet ends is = all_of IsQuiet is_quiet_end end_of ends is

pub queues_empty : (all : List CubeQueuesFields) → list_all are_empty all ≡ true → All AreEmpty all
queues_empty all is = all_of AreEmpty are_empty queues_of all is

pub quiet_ends : (ends : List EndFields) → All IsQuiet ends → list_all is_quiet_end ends ≡ true
quiet_ends ends all = test_of IsQuiet is_quiet_end end_test ends all

pub empty_queues : (all : List CubeQueuesFields) → All AreEmpty all → list_all are_empty all ≡ true
empty_queues all each = test_of AreEmpty are_empty cube_is_empty all each

-- both tests are those of all ends and all queues
pub still_by : (all : List EndFields) (queues : List CubeQueuesFields) (ends empty both : Bool) → IsTrue ends ↔ All IsQuiet all → IsTrue empty ↔ All AreEmpty queues → both ≡ (ends && empty) → both ≡ (list_all is_quiet_end all && list_all are_empty queues)
still_by all queues ends empty both quiet none is =
    is ∙ ap₂ (λ (a b : Bool). a && b)
    (same_test ends (list_all is_quiet_end all) (λ yes. quiet_ends all (quiet.0 yes)) (λ yes. quiet.1 (ends_quiet all yes)))
    (same_test empty (list_all are_empty queues) (λ yes. empty_queues queues (none.0 yes)) (λ yes. none.1 (queues_empty queues yes)))
