-- The cube's and the host's steps of a round: they make a move, or all are idle and nothing
-- changes.
use Rattle.std.proofs.Common.{◌≡◌, ◌∙◌, ◌⊎◌, inl, inr, ℕ, zero, suc, Bool, true, false, not, ◌||◌, Some, List, [], ◌∷◌, ◌++◌, length, drop, slice_get, refl, sym, ap, ap₂, subst, append-nil, zero-add}
use Rattle.std.specs.List.{flat_map}
use Rattle.hmc_packet.specs.Packet.{PacketFields}
use Rattle.hmc_schedule.specs.declared.step.Step.{Step}
use Rattle.hmc_send.specs.LinkEntries.{LinkEntry}
use Rattle.hmc_link_state.specs.State.{State}
use Rattle.hmc_link_state.specs.Round.{Moves}
use Rattle.hmc_link_state.specs.Steps.{Doing, Link}
use Rattle.hmc_link_state.proofs.Tried.{moves_on}
use Rattle.hmc_entries.specs.declared.entry.Entry.{Entry}
use Rattle.hmc_entries.specs.declared.entry.Entry.TheVariants.{Idle}
use Rattle.hmc_entries.specs.Event.{is_passed}
use Rattle.hmc_journal.specs.Lawful.{Lawful, Follows, has_passed}
use Rattle.hmc_journal.specs.Links.{link_entries, entries_on, sizes_on}
use Rattle.hmc_journal.specs.Next.{next}
use Rattle.hmc_journal.specs.Queues.{QueueId, leaves, enters, left, entered, contents}
use Rattle.hmc_journal.specs.Setup.{Setup}
use Rattle.hmc_journal.specs.StepView.{view_of}
use Rattle.hmc_laws.proofs.Wired.{wired}
use Rattle.hmc_rounds.specs.Counted.{counted, is_idle, moved_over}
use Rattle.hmc_rounds.specs.LinkPart.{link_of}
use Rattle.hmc_rounds.specs.CubeQueues.{queues_of_vaults, queues_of_units, queues_of_answers}
use Rattle.hmc_rounds.specs.Rounds.{journal_after}
use Rattle.hmc_journal.specs.UnderWay.{count_in}
use Rattle.hmc_rounds.proofs.EachEntry.{IsMove}
use Rattle.hmc_rounds.proofs.Sides.{numbers_of}
use Rattle.hmc_rounds.proofs.EntryMoves.{Scene}
use Rattle.hmc_rounds.proofs.Every.{Every, every_both}
use Rattle.hmc_rounds.proofs.Idle.{IsCubeStep, step_result, idle_alike}

-- after a lawful journal in which no landing passed the schedule goes on so
pub record Ready (setup : Setup) (past : List Entry) (steps rest : List Step) : Type 0 where
  pub lawful : Lawful setup past
  pub unpassed : has_passed past ≡ false
  pub scheduled : drop (length past) setup.schedule ≡ steps ++ rest

step_at : {X : Type 0} (xs : List X) (n : ℕ) (x : X) (ys : List X) → drop n xs ≡ x ∷ ys →
    (slice_get xs n ≡ Some x) × (drop (suc n) xs ≡ ys)
step_at [] zero x ys is = absurd (cc)
step_at [] (suc n) x ys is = absurd (cc)
step_at (y ∷ xs) zero x ys is = (cc, cc)
step_at (y ∷ xs) (suc n) x ys is = step_at xs n x ys is

pub next_lawful : (setup : Setup) (past : List Entry) (step : Step) (steps rest : List Step) →
    Ready setup past (step ∷ steps) rest → Lawful setup (next setup past step ∷ past)
unfolding Lawful
next_lawful setup past step steps rest r =
    let at = step_at setup.schedule (length past) step (steps ++ rest) r.scheduled in
    (r.unpassed, subst (λ o. Follows setup past o (next setup past step)) (sym at.0) refl, r.lawful)

pub next_ready : (setup : Setup) (past : List Entry) (step : Step) (steps rest : List Step) →
    Ready setup past (step ∷ steps) rest → is_passed (next setup past step) ≡ false →
    Ready setup (next setup past step ∷ past) steps rest
next_ready setup past step steps rest r on = record {
  lawful = next_lawful setup past step steps rest r;
  unpassed = on;
  scheduled = (step_at setup.schedule (length past) step (steps ++ rest) r.scheduled).1;
}

-- ---- an idle entry changes nothing

pub record Same (setup : Setup) (past now : List Entry) : Type 0 where
  pub queues : (queue : QueueId) →
      contents setup.topology now queue ≡ contents setup.topology past queue
  pub links : entries_on setup.topology 0 now ≡ entries_on setup.topology 0 past

pub same_self : (setup : Setup) (past : List Entry) → Same setup past past
same_self setup past = record { queues = λ q. refl; links = refl }

pub same_on : (setup : Setup) (past then now : List Entry) → Same setup past then →
    Same setup then now → Same setup past now
same_on setup past then now a b =
    record { queues = λ q. b.queues q ∙ a.queues q; links = b.links ∙ a.links }

pub idle_same : (setup : Setup) (past : List Entry) (entry : Entry) → is_idle entry ≡ true →
    Same setup past (entry ∷ past)
unfolding contents left entered leaves enters link_entries
idle_same setup past (Idle step cause) is = record {
  queues =
      λ queue. ap₂ (λ (n : ℕ) (ps : List PacketFields). drop n ps) (zero-add (left past queue))
      (append-nil (entered setup.topology past queue));
  links = refl;
}
idle_same setup past _ is = absurd (let clash : false ≡ true = is in cc)

flat_same : {X Y : Type 0} (f g : X → List Y) → ((x : X) → f x ≡ g x) → (xs : List X) →
    flat_map f xs ≡ flat_map g xs
flat_same f g same [] = refl
flat_same f g same (x ∷ xs) = ap₂ (λ a b. a ++ b) (same x) (flat_same f g same xs)

abbrev state_with : Link → (v u a : ℕ) → Bool → State
state_with l v u a b =
    record { forth = l.forth; back = l.back; vaults = v; banks = u; answers = a; can_move = b }

pub counted_same : (setup : Setup) (doings : List LinkEntry → List Doing) (past now : List Entry) →
    Same setup past now → (b : Bool) →
    counted setup.topology doings now b ≡ counted setup.topology doings past b
counted_same setup doings past now same b =
    let t = setup.topology in
    let rooms =
    λ (qs : List QueueId).
    ap length (flat_same (contents t now) (contents t past) same.queues qs) in
    let links : link_of t doings now ≡ link_of t doings past =
    ap (λ (es : List LinkEntry). numbers_of (sizes_on t 0) doings es) same.links in
    ap (λ l. state_with l (count_in t now (queues_of_vaults t)) (count_in t now (queues_of_units t))
    (count_in t now (queues_of_answers t)) b) links
    ∙ ap (λ v. state_with (link_of t doings past) v (count_in t now (queues_of_units t))
    (count_in t now (queues_of_answers t)) b) (rooms (queues_of_vaults t))
    ∙ ap (λ u. state_with (link_of t doings past) (count_in t past (queues_of_vaults t)) u
    (count_in t now (queues_of_answers t)) b) (rooms (queues_of_units t))
    ∙ ap (λ a. state_with (link_of t doings past) (count_in t past (queues_of_vaults t))
    (count_in t past (queues_of_units t)) a b) (rooms (queues_of_answers t))

-- ---- tries

abbrev pub IsIdleAt : Setup → List Entry → Step → Type 0
IsIdleAt setup past step = is_idle (next setup past step) ≡ true

pub idle_before : (setup : Setup) (doings : List LinkEntry → List Doing) (sc : Scene setup doings)
    (past now : List Entry) →
    ((queue : QueueId) → contents setup.topology now queue ≡ contents setup.topology past queue) →
    (step : Step)
    → IsCubeStep setup.topology sc.joined step → IsIdleAt setup now step → IsIdleAt setup past step
unfolding next view_of
idle_before setup doings sc past now same step cube is =
    idle_alike setup.topology sc.joined (wired setup sc.network) (view_of setup past)
    (view_of setup now) (λ queue inner. sym (same queue)) step cube ∙ is

abbrev pub Moved : (setup : Setup) (doings : List LinkEntry → List Doing) → List Entry → List Step →
    (b b' : Bool) → Type 0
Moved setup doings past steps b b' =
    (moved_over setup past steps ≡ true)
    × Moves (counted setup.topology doings past b)
    (counted setup.topology doings (journal_after setup past steps) b')

abbrev pub Rested : (setup : Setup) → List Entry → List Step → Type 0
Rested setup past steps =
    (moved_over setup past steps ≡ false) × Same setup past (journal_after setup past steps)
    × Every (IsIdleAt setup past) steps

pub tried : (setup : Setup) (doings : List LinkEntry → List Doing) (sc : Scene setup doings)
    (steps rest : List Step) (past : List Entry) →
    Every (IsCubeStep setup.topology sc.joined) steps → Ready setup past steps rest → (b b' : Bool)
    → Ready setup (journal_after setup past steps) [] rest
    × (Moved setup doings past steps b b' ⊎ Rested setup past steps)
unfolding journal_after moved_over
tried setup doings sc [] rest past cube r b b' = (r, inr (refl, same_self setup past, tt))
tried setup doings sc (step ∷ steps) rest past cube r b b' =
    let result = step_result setup doings sc past step cube.0 in
    let ready = next_ready setup past step steps rest r result.0 in
    let entry = next setup past step in
    let later = λ (c : Bool). tried setup doings sc steps rest (entry ∷ past) cube.1 ready c b' in (
      (later b).0,
      by_result setup doings sc step steps past cube.1 ready.lawful b b' result.1
          (λ c. (later c).1),
    )
  where
    by_result : (setup : Setup) (doings : List LinkEntry → List Doing) (sc : Scene setup doings)
        (step : Step) (steps : List Step) (past : List Entry) →
        Every (IsCubeStep setup.topology sc.joined) steps →
        Lawful setup (next setup past step ∷ past) → (b b' : Bool)
        → (is_idle (next setup past step) ≡ true)
        ⊎ ((is_idle (next setup past step) ≡ false)
        × (Lawful setup (next setup past step ∷ past) →
        IsMove setup doings (next setup past step) past))
        → ((c : Bool) → Moved setup doings (next setup past step ∷ past) steps c b'
        ⊎ Rested setup (next setup past step ∷ past) steps)
        → Moved setup doings past (step ∷ steps) b b' ⊎ Rested setup past (step ∷ steps)
    by_result setup doings sc step steps past cube lawful b b' (inl idle) later = by_later (later b)
      where
        same : Same setup past (next setup past step ∷ past)
        same = idle_same setup past (next setup past step) idle

        by_later : Moved setup doings (next setup past step ∷ past) steps b b'
            ⊎ Rested setup (next setup past step ∷ past) steps →
            Moved setup doings past (step ∷ steps) b b' ⊎ Rested setup past (step ∷ steps)
        by_later (inl m) =
            inl (
              ap₂ (λ x y. not x || y) idle m.0,
              subst (λ s.
                  Moves s (counted setup.topology doings
                  (journal_after setup (next setup past step ∷ past) steps) b'))
                  (counted_same setup doings past (next setup past step ∷ past) same b) m.1,
            )
        by_later (inr m) = inr (
          ap₂ (λ x y. not x || y) idle m.0,
          same_on setup past (next setup past step ∷ past)
              (journal_after setup (next setup past step ∷ past) steps) same m.1,
          (
            idle,
            every_both (IsCubeStep setup.topology sc.joined)
                (IsIdleAt setup (next setup past step ∷ past)) (IsIdleAt setup past)
                (λ s c i. idle_before setup doings sc past (next setup past step ∷ past) same.queues
                s c
                i) steps cube m.2,
          ),
        )
    by_result setup doings sc step steps past cube lawful b b' (inr made) later = by_later (later b)
      where
        by_later : Moved setup doings (next setup past step ∷ past) steps b b'
            ⊎ Rested setup (next setup past step ∷ past) steps →
            Moved setup doings past (step ∷ steps) b b' ⊎ Rested setup past (step ∷ steps)
        by_later (inl m) = inl (
          ap (λ x. not x || moved_over setup (next setup past step ∷ past) steps) made.0,
          moves_on (counted setup.topology doings past b)
              (counted setup.topology doings (next setup past step ∷ past) b)
              (counted setup.topology doings
              (journal_after setup (next setup past step ∷ past) steps) b') (made.1 lawful b b) m.1,
        )
        by_later (inr m) = inl (
          ap (λ x. not x || moved_over setup (next setup past step ∷ past) steps) made.0,
          subst (Moves (counted setup.topology doings past b))
              (sym (counted_same setup doings (next setup past step ∷ past)
              (journal_after setup (next setup past step ∷ past) steps) m.1 b'))
              (made.1 lawful b b'),
        )
