-- The lines of a schedule in turn.
use Rattle.std.proofs.Common.{◌≡◌, ◌∙◌, ◌≤◌, ℕ, ◌+◌, ◌*◌, Option, Some, None, IfSome, option_map, Result, Ok, Err, OnOk, List, [], ◌++◌, length, length-append, arith, sym, subst, ap}
use Rattle.std.specs.Borrow.{Bor}
use Rattle.std.specs.List.{All}
use Rattle.hmc_codes.specs.Flit.{IsFlit}
use Rattle.hmc_text.proofs.InTurnLemmas as turns
use Rattle.hmc_text.proofs.InTurnLemmas.{after_left}
use Rattle.hmc_text.specs.InTurn.{after_lines, at_line, Numbered, IsNextLine, Answers, ReportsBy, fault_of}
use Rattle.hmc_text.specs.Lines.{lines_of}
use Rattle.hmc_text.specs.Reading.{◌>>=◌}
use Rattle.hmc_text.specs.declared.fault.TextFault.{TextFault}
use Rattle.hmc_schedule.specs.declared.fault.ScheduleKind.{ScheduleKind}
use Rattle.hmc_schedule.specs.declared.meaning.Meaning.{Meaning}
use Rattle.hmc_schedule.specs.Meaning.{IsMeaning}
use Rattle.hmc_schedule.specs.Plan.{PlanFields, HasFlit}
use Rattle.std.proofs.Math.Nat.{mul-le-mul_left}
use Rattle.hmc_codes.specs.Limits.{most_steps}
use Rattle.hmc_schedule.specs.declared.noise.Noise.{Noise}
use Rattle.hmc_schedule.specs.declared.step.Step.{Step}
use Rattle.hmc_schedule.specs.declared.written.KeptRound.{KeptRound}
use Rattle.hmc_schedule.specs.declared.written.Rounds.{Rounds}
use Rattle.hmc_schedule.specs.declared.written.Stretch.TheVariants.{Many}
use Rattle.hmc_schedule.specs.Noise.{new_noise, lands_in, counted, noisy_if, IsNoise}
use Rattle.hmc_schedule.specs.Round.{repeated, round_of, rounds_of}
use Rattle.hmc_schedule.specs.Written.{round_at, stretch_of, IsKept}
use Rattle.hmc_schedule.proofs.NoiseLemmas.{noisy_if-length, lands-of, lands-le, lands-repeated}
use Rattle.hmc_schedule.proofs.WrittenLemmas.{length-rounds, length-stretch, length-round_at}
use Rattle.hmc_schedule.specs.Schedule.{Progress, add_steps, add_rounds, after_meaning, after_line, nothing_yet, schedule_of, IsProgress, IsSchedule}
use Rattle.hmc_schedule.proofs.WorkLemmas.{add_steps-ok, still_progress, rounds_masks}

at_line-ok : {A K : Type 0} (number : ℕ) (r : Result A K) (x : A) → at_line number r ≡ Ok x → r ≡ Ok x
at_line-ok number (Ok y) x is = cc (is)
at_line-ok number (Err kind) x is = absurd (cc (is))

-- a good line keeps what the lines before it kept
pub still_good : (plan : PlanFields) (number : ℕ) (progress new : Progress) (meaning : Meaning) (r : Result (Unit {0}) (TextFault ScheduleKind)) → IsProgress plan progress → IsMeaning plan meaning → Answers {X = Unit {0}} (λ _. new) r (at_line number (after_meaning plan progress meaning)) → OnOk r (IsProgress plan new)
still_good plan number progress new meaning (Ok u) is works made =
    still_progress plan progress new meaning is works (at_line-ok number (after_meaning plan progress meaning) new made)
still_good plan number progress new meaning (Err e) is works made = tt

abbrev progress_of : List Step → Option Noise → Progress
progress_of steps noise = record { steps = steps; noise = noise }

-- rounds are appended, and the noise counts their landings
pub rounds_value : (number : ℕ) (progress : Progress) (rounds steps : List Step) (noise : Option Noise) → at_line number (add_steps progress.steps (noisy_if progress.noise rounds)) ≡ Ok steps → noise ≡ option_map (counted (lands_in rounds)) progress.noise → at_line number (add_rounds progress rounds) ≡ Ok (progress_of steps noise)
unfolding add_rounds
rounds_value number progress rounds steps noise made is =
    let after : Option Noise = option_map (counted (lands_in rounds)) progress.noise in
    let added = at_line-ok number (add_steps progress.steps (noisy_if progress.noise rounds)) steps made in
    ap (λ (r : Result (List Step) ScheduleKind). at_line number (r >>= (λ (all : List Step). Ok (progress_of all after)))) added
    ∙ ap (λ (n : Option Noise). Ok (progress_of steps n)) (sym is)

-- noise counts no more landings than a schedule has steps
pub room_to_count : (number : ℕ) (kept : List Step) (round : KeptRound) (count : ℕ) (noise : Option Noise) (old new : List Step) → IsKept kept round → IfSome noise (IsNoise (length old)) → at_line number (add_steps old (stretch_of kept (Many (record { round = round; count = count; noise = noise })))) ≡ Ok new → IfSome noise (λ n. n.count + count * round.lands ≤ most_steps)
room_to_count number kept round count None old new is counts made = tt
room_to_count number kept round count (Some noise) old new is counts made =
    let rounds : Rounds = record { round = round; count = count; noise = Some noise } in
    let added = add_steps-ok old (stretch_of kept (Many rounds)) new (at_line-ok number (add_steps old (stretch_of kept (Many rounds))) new made) in
    let long : length (stretch_of kept (Many rounds)) ≡ count * round.len = length-stretch kept rounds is in
    let few : round.lands ≤ round.len = omega (arith, lands-of (round_at kept round) round.lands is.lands, lands-le (round_at kept round), length-round_at kept round is) in
    let times : count * round.lands ≤ count * round.len = mul-le-mul_left count few in
    omega (arith, counts.few, added.1, long, times)

-- each round has one landing in each direction
pub lands-rounds : (kept : List Step) (round : KeptRound) (count : ℕ) → IsKept kept round → lands_in (repeated count (round_at kept round)) ≡ count * round.lands
lands-rounds kept round count is =
    lands-repeated count (round_at kept round) ∙ ap (λ k. count * k) (lands-of (round_at kept round) round.lands is.lands)

-- a stretch of rounds whose noise counts
pub some_noise : (noise : Option Noise) (n : ℕ) → IfSome noise (IsNoise n) → IfSome noise (λ n. 1 ≤ n.every)
some_noise None n is = tt
some_noise (Some noise) n is = is.some

-- rounds that were appended, where there was room for them
pub few_rounds : (old mid new one round : List Step) (n : ℕ) (noise : Option Noise) → new ≡ mid ++ noisy_if noise (repeated n one) → one ≡ round → mid ≡ old → length old + n * length round ≤ most_steps → length new ≤ most_steps
few_rounds old mid new one round n noise is same before room =
    let more : length (noisy_if noise (repeated n one)) ≡ n * length round = noisy_if-length noise (repeated n one) ∙ length-rounds n one ∙ ap (λ (l : List Step). n * length l) same in
    omega (arith, ap length is ∙ length-append mid (noisy_if noise (repeated n one)), more, ap length before, room)

-- what a schedule keeps, after rounds were appended
pub IsSchedule-rounds : (plan : PlanFields) (noise : Option (ℕ × List ℕ)) (n : ℕ) (old mid new one : List Step) (given : Option Noise) → new ≡ mid ++ noisy_if given (repeated n one) → one ≡ round_of plan → mid ≡ old → given ≡ option_map new_noise noise → IfSome given (λ m. IsFlit m.mask) → length old + n * length (round_of plan) ≤ most_steps → All HasFlit old → IsSchedule new
unfolding rounds_of
IsSchedule-rounds plan noise n old mid new one given is same before counts masks room all =
    let steps : new ≡ old ++ noisy_if (option_map new_noise noise) (rounds_of plan n) =
    is ∙ ap (λ (l : List Step). l ++ noisy_if given (repeated n one)) before ∙ ap (λ (r : List Step). old ++ noisy_if given (repeated n r)) same ∙ ap (λ (o : Option Noise). old ++ noisy_if o (repeated n (round_of plan))) counts in
    record {
      few = few_rounds old mid new one (round_of plan) n given is same before room;
      masks = subst (All HasFlit) (sym steps) (rounds_masks plan noise n old (subst (λ (o : Option Noise). IfSome o (λ m. IsFlit m.mask)) counts masks) all);
    }

-- no line is left
pub schedule_of-ok : (plan : PlanFields) (text : List ℕ) (left : Numbered) (progress : Progress) → left.lines ≡ [] → after_left (after_line plan) progress left ≡ after_lines (after_line plan) 1 nothing_yet (lines_of text) → schedule_of plan text ≡ Ok progress.steps
unfolding schedule_of
schedule_of-ok plan text left progress none is =
    ap (λ (r : Result Progress (ℕ × ScheduleKind)). r >>= (λ q. Ok q.steps)) (sym is ∙ turns.none_left (after_line plan) left progress none)

-- the fault of the next line is that of the schedule, if no line before it has one
pub first_fault : (plan : PlanFields) (text : List ℕ) (left behind : Numbered) (line : ℕ × Bor (List ℕ)) (progress : Progress) (fault : TextFault ScheduleKind) → IsNextLine left (Some line) behind →
    ReportsBy fault_of fault (at_line line.0 (after_line plan progress line.1.now)) → after_left (after_line plan) progress left ≡ after_lines (after_line plan) 1 nothing_yet (lines_of text) → ReportsBy fault_of fault (schedule_of plan text)
unfolding schedule_of
first_fault plan text left behind line progress fault is read so_far =
    turns.fault_made (λ (p : Progress). p.steps) _ fault (turns.first_fault (after_line plan) left behind line progress _ fault is read so_far)
