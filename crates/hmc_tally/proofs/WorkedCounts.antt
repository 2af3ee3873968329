-- What steps add to counts, computed.
use Rattle.std.proofs.Common.{◌≡◌, true, false, [], ◌∷◌, refl}
use Rattle.std.specs.Prelude.{map}
use Rattle.hmc_codes.specs.Flit.{zero_flit}
use Rattle.hmc_codes.specs.declared.unit.Unit.TheVariants as units
use Rattle.hmc_packet.specs.declared.bad.Bad.TheVariants.{Length}
use Rattle.hmc_packet.specs.declared.outcome.Outcome.TheVariants.{Quiet, Accepted, Poisoned, Repeat, AbortedBad, AbortedOrder}
use Rattle.hmc_schedule.specs.declared.step.Step.TheVariants as steps
use Rattle.hmc_entries.specs.declared.event.Event.TheVariants.{Gave, Sent, Landed, Unlocked, Took, Executed, Dropped, Other}
use Rattle.hmc_tally.specs.Tally.{no_counters, no_host_steps, no_cube_counts, one_landed, directions_after, host_steps_after, cube_counts_after, step_changes}

-- each landing counts once as landed; a poisoned packet is accepted too
landed-each : map (λ outcome. one_landed false outcome no_counters) (Quiet ∷ Accepted ∷ Poisoned ∷ Repeat ∷ AbortedBad Length ∷ AbortedOrder ∷ []) ≡
    record no_counters { landed = 1 } ∷ record no_counters { landed = 1; accepted = 1 } ∷ record no_counters { landed = 1; accepted = 1 } ∷ record no_counters { landed = 1; repeats = 1 }
    ∷ record no_counters { landed = 1; aborts = 1 } ∷ record no_counters { landed = 1; aborts = 1 } ∷ []
landed-each = refl

-- a flit that a mask changed is counted where it landed, and no other direction
changed-one : directions_after true false (Landed 1 Repeat) (no_counters ∷ no_counters ∷ []) ≡ no_counters ∷ record no_counters { landed = 1; changed = 1; repeats = 1 } ∷ []
changed-one = refl

-- an unlock is an abort where the receiver was good, and else nothing
unlocked-good : directions_after false true (Unlocked 0) (no_counters ∷ no_counters ∷ []) ≡ record no_counters { aborts = 1 } ∷ no_counters ∷ []
unlocked-good = refl

unlocked-other : directions_after false false (Unlocked 0) (no_counters ∷ []) ≡ no_counters ∷ []
unlocked-other = refl

-- a step of a direction, host or cube that isn't there counts nothing
sent-each : map (λ event. directions_after false false event (no_counters ∷ [])) (Sent 0 ∷ Sent 1 ∷ Other ∷ []) ≡ (record no_counters { sent = 1 } ∷ []) ∷ (no_counters ∷ []) ∷ (no_counters ∷ []) ∷ []
sent-each = refl

hosts-each : map (λ event. host_steps_after event (no_host_steps ∷ no_host_steps ∷ [])) (Gave 1 ∷ Took 0 ∷ Gave 2 ∷ []) ≡
    (no_host_steps ∷ record no_host_steps { given = 1 } ∷ []) ∷ (record no_host_steps { taken = 1 } ∷ no_host_steps ∷ []) ∷ (no_host_steps ∷ no_host_steps ∷ []) ∷ []
hosts-each = refl

cubes-each : map (λ event. cube_counts_after event (no_cube_counts ∷ no_cube_counts ∷ [])) (Executed (units.Bank 1 2 3) ∷ Executed (units.Registers 0) ∷ Dropped 1 ∷ []) ≡
    (no_cube_counts ∷ record no_cube_counts { executed = 1 } ∷ []) ∷ (record no_cube_counts { executed = 1 } ∷ no_cube_counts ∷ []) ∷ (no_cube_counts ∷ record no_cube_counts { dropped = 1 } ∷ []) ∷ []
cubes-each = refl

-- a mask of no bits changes nothing
changes-each : map step_changes (steps.Land 0 zero_flit ∷ steps.Land 0 (1 ∷ []) ∷ steps.Send 0 ∷ []) ≡ false ∷ true ∷ false ∷ []
unfolding zero_flit
changes-each = refl
