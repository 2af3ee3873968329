-- The cube's and the host's steps of a whole round are the cube's part of a round by numbers.
use Rattle.std.proofs.Common.{◌≡◌, ◌<◌, ◌+◌, ◌∙◌, ◌⊎◌, inl, inr, ℕ, Bool, true, false, not, ◌||◌, List, [], ◌∷◌, ◌++◌, map, refl, sym, ap, ap₂, subst, arith}
use Rattle.std.specs.List.{flat_map}
use Rattle.hmc_codes.specs.Numbers.{upto}
use Rattle.hmc_codes.specs.declared.lift.Lift.{Lift}
use Rattle.hmc_codes.specs.declared.lift.Lift.TheVariants as lifts
use Rattle.hmc_schedule.specs.declared.step.Step.{Step}
use Rattle.hmc_schedule.specs.declared.step.Step.TheVariants.{Shift, Spread, Bank, Registers, Lift as Lifts, Take}
use Rattle.hmc_schedule.specs.Plan.{vaults_at, banks_at}
use Rattle.hmc_schedule.specs.Round.{shifts_of, spreads_of, banks_of, lifts_of}
use Rattle.hmc_send.specs.LinkEntries.{LinkEntry}
use Rattle.hmc_link_state.specs.Round.{IsIdle, CubeRound}
use Rattle.hmc_link_state.specs.Steps.{Doing}
use Rattle.hmc_entries.specs.declared.entry.Entry.{Entry}
use Rattle.hmc_journal.specs.Next.{next}
use Rattle.hmc_journal.specs.Setup.{Setup, Topology}
use Rattle.hmc_rounds.specs.Counted.{counted, moved_over}
use Rattle.hmc_rounds.specs.CubeQueues.{vaults_in, banks_in}
use Rattle.hmc_rounds.specs.Rounds.{plan_of, journal_after, cube_steps}
use Rattle.hmc_rounds.proofs.EntryMoves.{Scene}
use Rattle.hmc_rounds.proofs.Every.{Every, every_left, every_right, every_append, every_of, every_flat_of, every_at, every_flat_at, every_both}
use Rattle.hmc_rounds.proofs.Idle.{IsCubeStep}
use Rattle.hmc_rounds.proofs.Placed.{IsLiftThere}
use Rattle.hmc_rounds.proofs.Single.{Joined}
use Rattle.hmc_rounds.proofs.Stuck.{AllIdle, stuck}
use Rattle.hmc_rounds.proofs.Tried.{Ready, Same, IsIdleAt, Moved, Rested, tried, idle_same, idle_before, counted_same}

-- ---- the steps

abbrev spread_part : ℕ → List Step
spread_part vaults = map (Spread 0) (upto vaults)

abbrev bank_part : (vaults banks : ℕ) → List Step
bank_part vaults banks = flat_map (λ vault. map (Bank 0 vault) (upto banks)) (upto vaults)

abbrev lift_part : ℕ → List Step
lift_part vaults =
    map (λ vault. Lifts 0 (lifts.Vault vault)) (upto vaults) ++ Lifts 0 lifts.Registers ∷ []

abbrev steps_by : (joined : List ℕ) → (vaults banks : ℕ) → List Step
steps_by joined vaults banks =
    map (Shift 0) joined ++ spread_part vaults ++ bank_part vaults banks ++ Registers 0 ∷ []
    ++ lift_part vaults ++ Take 0 ∷ []

steps_are : (t : Topology) (j : Joined t) →
    cube_steps (plan_of t) ≡ steps_by (j.port ∷ []) (vaults_in t) (banks_in t)
unfolding shifts_of spreads_of banks_of lifts_of
steps_are t j =
    ap (λ (ps : List ℕ). steps_by ps (vaults_at (plan_of t) 0) (banks_at (plan_of t) 0)) j.ports_are
    ∙ ap₂ (λ (n m : ℕ). steps_by (j.port ∷ []) n m) j.vaults_are j.banks_are

below : (i n : ℕ) → i < 0 + n → i < n
below i n h = omega (arith, h)

below_back : (i n : ℕ) → i < n → i < 0 + n
below_back i n h = omega (arith, h)

all_by : (t : Topology) (j : Joined t) →
    Every (IsCubeStep t j) (steps_by (j.port ∷ []) (vaults_in t) (banks_in t))
all_by t j =
    let V = vaults_in t in
    let B = banks_in t in
    let P = IsCubeStep t j in
    let one : List Step = Shift 0 j.port ∷ [] in
    let two : List Step = one ++ spread_part V in
    let three : List Step = two ++ bank_part V B in
    let four : List Step = three ++ Registers 0 ∷ [] in
    let five : List Step = four ++ lift_part V in
    let spreads =
    every_append P one (spread_part V) (refl, tt)
    (every_of P (Spread 0) 0 V (λ i h. below i V h)) in
    let banks =
    every_append P two (bank_part V B) spreads
    (every_flat_of P (λ vault. map (Bank 0 vault) (upto B)) 0 V
    (λ i h. every_of P (Bank 0 i) 0 B (λ k l. (below i V h, below k B l)))) in
    let registers = every_append P three (Registers 0 ∷ []) banks (tt, tt) in
    let lifted =
    every_append P four (lift_part V) registers
    (every_append P (map (λ vault. Lifts 0 (lifts.Vault vault)) (upto V)) (Lifts 0 lifts.Registers
    ∷ []) (every_of P (λ vault. Lifts 0 (lifts.Vault vault)) 0 V (λ i h. below i V h)) (tt, tt)) in
    every_append P five (Take 0 ∷ []) lifted (tt, tt)

pub all_cube : (t : Topology) (j : Joined t) → Every (IsCubeStep t j) (cube_steps (plan_of t))
all_cube t j = subst (Every (IsCubeStep t j)) (sym (steps_are t j)) (all_by t j)

lift_of : (P : Step → Type 0) (t : Topology) →
    Every P (map (λ vault. Lifts 0 (lifts.Vault vault)) (upto (vaults_in t))
    ++ Lifts 0 lifts.Registers ∷ []) → (from : Lift) → IsLiftThere t from → P (Lifts 0 from)
lift_of P t all (lifts.Vault v) less =
    every_at P (λ vault. Lifts 0 (lifts.Vault vault)) 0 (vaults_in t) v
    (every_left P (map (λ vault. Lifts 0 (lifts.Vault vault)) (upto (vaults_in t)))
    (Lifts 0 lifts.Registers ∷ []) all) (omega arith) (below_back v (vaults_in t) less)
lift_of P t all lifts.Registers there =
    (every_right P (map (λ vault. Lifts 0 (lifts.Vault vault)) (upto (vaults_in t)))
    (Lifts 0 lifts.Registers ∷ []) all).0

idle_by : (setup : Setup) (j : Joined setup.topology) (past : List Entry) →
    Every (IsIdleAt setup past)
    (steps_by (j.port ∷ []) (vaults_in setup.topology) (banks_in setup.topology)) →
    AllIdle setup j past
idle_by setup j past all =
    let V = vaults_in setup.topology in
    let B = banks_in setup.topology in
    let P = IsIdleAt setup past in
    let one : List Step = Shift 0 j.port ∷ [] in
    let two : List Step = one ++ spread_part V in
    let three : List Step = two ++ bank_part V B in
    let four : List Step = three ++ Registers 0 ∷ [] in
    let five : List Step = four ++ lift_part V in
    let to_five = every_left P five (Take 0 ∷ []) all in
    let to_four = every_left P four (lift_part V) to_five in
    let to_three = every_left P three (Registers 0 ∷ []) to_four in
    let to_two = every_left P two (bank_part V B) to_three in record {
      shift = (every_left P one (spread_part V) to_two).0;
      spreads =
          λ v less. every_at P (Spread 0) 0 V v (every_right P one (spread_part V) to_two)
          (omega arith) (below_back v V less);
      banks =
          λ v b v_less b_less. every_at P (Bank 0 v) 0 B b
          (every_flat_at P (λ vault. map (Bank 0 vault) (upto B)) 0 V v
          (every_right P two (bank_part V B) to_three) (omega arith) (below_back v V v_less))
          (omega arith) (below_back b B b_less);
      registers = (every_right P three (Registers 0 ∷ []) to_four).0;
      lifts_are =
          λ from there. lift_of P setup.topology (every_right P four (lift_part V) to_five) from
          there;
      take = (every_right P five (Take 0 ∷ []) all).0;
    }

pub all_idle : (setup : Setup) (j : Joined setup.topology) (past : List Entry) →
    Every (IsIdleAt setup past) (cube_steps (plan_of setup.topology)) → AllIdle setup j past
all_idle setup j past all =
    idle_by setup j past (subst (Every (IsIdleAt setup past)) (steps_are setup.topology j) all)

-- ---- where all are idle none moves

pub rests : (setup : Setup) (doings : List LinkEntry → List Doing) (sc : Scene setup doings)
    (steps : List Step) (past : List Entry) → Every (IsCubeStep setup.topology sc.joined) steps →
    Every (IsIdleAt setup past) steps → moved_over setup past steps ≡ false
unfolding moved_over
rests setup doings sc [] past cube idle = refl
rests setup doings sc (step ∷ steps) past cube idle =
    let now = next setup past step ∷ past in
    let same = idle_same setup past (next setup past step) idle.0 in
    ap₂ (λ (x y : Bool). not x || y) idle.0
    (rests setup doings sc steps now cube.1
    (every_both (IsCubeStep setup.topology sc.joined) (IsIdleAt setup past) (IsIdleAt setup now)
    (λ s c i. idle_before setup doings sc now past (λ q. sym (same.queues q)) s c i) steps cube.1
    idle.1))

-- ---- the cube's part

pub record CubeMade (setup : Setup) (doings : List LinkEntry → List Doing) (past : List Entry)
    (rest : List Step) : Type 0 where
  pub ready : Ready setup (journal_after setup past (cube_steps (plan_of setup.topology))) [] rest
  pub round : (b : Bool) →
      CubeRound (counted setup.topology doings past b)
      (counted setup.topology doings
      (journal_after setup past (cube_steps (plan_of setup.topology)))
      (moved_over setup past (cube_steps (plan_of setup.topology))))
  -- where none moved all are idle after them
  pub resting : moved_over setup past (cube_steps (plan_of setup.topology)) ≡ false →
      Every (IsIdleAt setup (journal_after setup past (cube_steps (plan_of setup.topology))))
      (cube_steps (plan_of setup.topology))
  -- where all are idle nothing changes
  pub idle : Every (IsIdleAt setup past) (cube_steps (plan_of setup.topology)) → (b : Bool)
      → IsIdle (counted setup.topology doings past b)
      (counted setup.topology doings
      (journal_after setup past (cube_steps (plan_of setup.topology)))
      (moved_over setup past (cube_steps (plan_of setup.topology))))

idle_state : (setup : Setup) (doings : List LinkEntry → List Doing) (past now : List Entry)
    (m b : Bool) → m ≡ false → Same setup past now →
    IsIdle (counted setup.topology doings past b) (counted setup.topology doings now m)
idle_state setup doings past now m b is same =
    ap (counted setup.topology doings now) is ∙ counted_same setup doings past now same false

no_move : (m : Bool) → m ≡ true → m ≡ false → ⊥
no_move m x y = let clash : true ≡ false = sym x ∙ y in cc

pub cube_made : (setup : Setup) (doings : List LinkEntry → List Doing) (sc : Scene setup doings)
    (past : List Entry) (rest : List Step) →
    Ready setup past (cube_steps (plan_of setup.topology)) rest → CubeMade setup doings past rest
cube_made setup doings sc past rest r = record {
  ready = (made true).0;
  round = λ b. by_round b (made b).1;
  resting = λ none. by_rest none (made true).1;
  idle = λ all b. by_idle b all (made b).1;
}
  where
    steps : List Step
    steps = cube_steps (plan_of setup.topology)

    now : List Entry
    now = journal_after setup past (cube_steps (plan_of setup.topology))

    made : (b : Bool) → Ready setup (journal_after setup past (cube_steps (plan_of setup.topology)))
        [] rest
        × (Moved setup doings past (cube_steps (plan_of setup.topology)) b
        (moved_over setup past (cube_steps (plan_of setup.topology)))
        ⊎ Rested setup past (cube_steps (plan_of setup.topology)))
    made b =
        tried setup doings sc (cube_steps (plan_of setup.topology)) rest past
        (all_cube setup.topology sc.joined) r b
        (moved_over setup past (cube_steps (plan_of setup.topology)))

    by_round : (b : Bool) →
        Moved setup doings past (cube_steps (plan_of setup.topology)) b
        (moved_over setup past (cube_steps (plan_of setup.topology)))
        ⊎ Rested setup past (cube_steps (plan_of setup.topology))
        → CubeRound (counted setup.topology doings past b)
        (counted setup.topology doings
        (journal_after setup past (cube_steps (plan_of setup.topology)))
        (moved_over setup past (cube_steps (plan_of setup.topology))))
    by_round b (inl m) = inl m.1
    by_round b (inr m) =
        inr (
          idle_state setup doings past
              (journal_after setup past (cube_steps (plan_of setup.topology)))
              (moved_over setup past (cube_steps (plan_of setup.topology))) b m.0 m.1,
          stuck setup doings sc past r.lawful (all_idle setup sc.joined past m.2) b,
        )

    by_rest : moved_over setup past (cube_steps (plan_of setup.topology)) ≡ false
        → Moved setup doings past (cube_steps (plan_of setup.topology)) true
        (moved_over setup past (cube_steps (plan_of setup.topology)))
        ⊎ Rested setup past (cube_steps (plan_of setup.topology))
        → Every (IsIdleAt setup (journal_after setup past (cube_steps (plan_of setup.topology))))
        (cube_steps (plan_of setup.topology))
    by_rest none (inl m) =
        absurd (no_move (moved_over setup past (cube_steps (plan_of setup.topology))) m.0 none)
    by_rest none (inr m) =
        every_both (IsCubeStep setup.topology sc.joined) (IsIdleAt setup past)
        (IsIdleAt setup (journal_after setup past (cube_steps (plan_of setup.topology))))
        (λ s c i. idle_before setup doings sc
        (journal_after setup past (cube_steps (plan_of setup.topology))) past
        (λ q. sym (m.1.queues q)) s c i) (cube_steps (plan_of setup.topology))
        (all_cube setup.topology sc.joined) m.2

    by_idle : (b : Bool) → Every (IsIdleAt setup past) (cube_steps (plan_of setup.topology))
        → Moved setup doings past (cube_steps (plan_of setup.topology)) b
        (moved_over setup past (cube_steps (plan_of setup.topology)))
        ⊎ Rested setup past (cube_steps (plan_of setup.topology))
        → IsIdle (counted setup.topology doings past b)
        (counted setup.topology doings
        (journal_after setup past (cube_steps (plan_of setup.topology)))
        (moved_over setup past (cube_steps (plan_of setup.topology))))
    by_idle b all (inl m) =
        absurd (no_move (moved_over setup past (cube_steps (plan_of setup.topology))) m.0
        (rests setup doings sc (cube_steps (plan_of setup.topology)) past
        (all_cube setup.topology sc.joined) all))
    by_idle b all (inr m) =
        idle_state setup doings past
        (journal_after setup past (cube_steps (plan_of setup.topology)))
        (moved_over setup past (cube_steps (plan_of setup.topology))) b m.0 m.1
