use Rattle.std.proofs.Common.{◌≡◌, ◌+◌, [], ◌++◌, length}
use Rattle.hmc_schedule.specs.Noise.{noisy_if}
use Rattle.hmc_schedule.specs.RoundsLeft.{steps_left, noise_left, rounds_in, AreLeft}
use Rattle.hmc_schedule.specs.Round.{repeated}
use Rattle.hmc_schedule.specs.Written.{kept_of, steps_in}
use Rattle.hmc_schedule.proofs.rounds_left.RoundsLeft.next.Given as goal

abbrev pub invariant-lines : goal.invariant-lines
invariant-lines l =
    AreLeft (kept_of l.self-inside.kept.now l.self-inside.many.now) l.self-inside.segments.now l.self-inside.noise
    × (steps_left l.fn.self [] ≡ noisy_if (noise_left l.self-inside.noise) (repeated l.self-inside.count l.self-inside.round.now) ++ steps_in (kept_of l.self-inside.kept.now l.self-inside.many.now) l.self-inside.segments.now)
    × (l.fn.self.rounds ≡ l.self-inside.count + rounds_in l.self-inside.many.now l.self-inside.segments.now)

abbrev pub decreases-lines : goal.decreases-lines
decreases-lines l = length l.self-inside.segments.now
