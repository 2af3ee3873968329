-- A run of laid steps.
use Rattle.std.proofs.Common.{◌≡◌, ◌∙◌, ◌<◌, ◌≤◌, ◌+◌, ◌-◌, ◌++◌, if◌then◌else◌, ℕ, Bool, true, false, List, [], ◌∷◌, length, drop, take, length-append, Option, None, Some, inl, inr, refl, sym, ap, ap₂, subst, arith}
use Rattle.std.specs.Prelude.{Result, Ok, Err, OnOk, OnErr, IfOk, IfErr}
use Rattle.std.proofs.lemmas.List.{append-nil, append_assoc, drop-append-le, drop-drop, length-take-le, take-append-drop, take-append-le}
use Rattle.std.proofs.lemmas.List.Elements.{All-nil, All-cons, All-append}
use Rattle.hmc_schedule.specs.declared.step.Step.{Step}
use Rattle.hmc_entries.specs.declared.entry.Entry.{Entry}
use Rattle.hmc_journal.specs.Next.{next}
use Rattle.hmc_journal.specs.Setup.{Setup}
use Rattle.hmc_growing.specs.Growing.{with_step}
use Rattle.hmc_net.specs.Went.{went_of}
use Rattle.hmc_net.specs.declared.went.Went.{Went}
use Rattle.hmc_session.specs.Ahead.{StepsBy, IsWithoutStep}
use Rattle.hmc_session.specs.Refusals.{step_refusal}
use Rattle.hmc_session.specs.Running.{with_steps, TakenOrWaiting, StopsOnce, EndsTaken, RunsOn, RefusedAfter, RunsBy, TriesAll, TriesBy, ended_by, stopped_at}
use Rattle.hmc_session.specs.Session.{SessionFields, StandsIn, IsWaiting}
use Rattle.hmc_session.specs.Stops.{is_stop}
use Rattle.hmc_session.specs.declared.refusal.NotTaken.{NotTaken}
use Rattle.hmc_session.specs.declared.refusal.NotTaken.TheVariants.{Unknown, Over, Waits}
use Rattle.hmc_session.specs.declared.run.Ran.{Ran}
use Rattle.hmc_session.specs.declared.run.Ran.TheVariants as rans
use Rattle.hmc_session.specs.declared.stops.Stops.{Stops}

-- ---- one step

-- it was taken
pub taken_step : (before now : SessionFields) (laid left : List Step) (result : Result (Option Went) NotTaken) (went : Went) → result ≡ Ok (Some went) → (laid ≡ [] → IsWithoutStep result before now left)
    → ((step : Step) (rest : List Step) → laid ≡ step ∷ rest → (left ≡ rest) × StepsBy before now step result) → (setup : Setup) (past : List Entry) → StandsIn before setup past
    → (step : Step) × (laid ≡ step ∷ left) × StandsIn now (with_step setup step) (next setup past step ∷ past)
taken_step before now [] left result went is none by setup past stands = let nothing = (none refl).none in absurd cc
taken_step before now (step ∷ rest) left result went is none by setup past stands =
    let s = by step rest refl in
    (step, ap (λ (l : List Step). step ∷ l) (sym s.0), subst (λ (r : Result (Option Went) NotTaken). OnOk r (StandsIn now (with_step setup step) (next setup past step ∷ past))) is (s.1.stands setup past stands))

-- it was not taken
pub not_taken_step : (before now : SessionFields) (laid left : List Step) (result : Result (Option Went) NotTaken) (refusal : NotTaken) → result ≡ Err refusal → (laid ≡ [] → IsWithoutStep result before now left)
    → ((step : Step) (rest : List Step) → laid ≡ step ∷ rest → (left ≡ rest) × StepsBy before now step result) → (setup : Setup) (past : List Entry) → StandsIn before setup past
    → (step : Step) × (laid ≡ step ∷ left) × (step_refusal before step ≡ Some refusal) × (now ≡ before) × (refusal ≡ Waits → IsWaiting before.finished setup past step)
not_taken_step before now [] left result refusal is none by setup past stands = let nothing = (none refl).none in absurd cc
not_taken_step before now (step ∷ rest) left result refusal is none by setup past stands =
    let s = by step rest refl in (
      step,
      ap (λ (l : List Step). step ∷ l) (sym s.0),
      subst (λ (r : Result (Option Went) NotTaken). IfErr r (λ cause. step_refusal before step ≡ Some cause)) is s.1.refused,
      subst (λ (r : Result (Option Went) NotTaken). OnErr r (now ≡ before)) is s.1.same,
      λ waits. s.1.waits setup past stands (is ∙ ap Err waits),
    )

-- none was left
pub no_step : (before now : SessionFields) (laid left : List Step) (result : Result (Option Went) NotTaken) → result ≡ Ok None → (laid ≡ [] → IsWithoutStep result before now left)
    → ((step : Step) (rest : List Step) → laid ≡ step ∷ rest → (left ≡ rest) × StepsBy before now step result) → (setup : Setup) (past : List Entry) → StandsIn before setup past
    → (laid ≡ []) × (left ≡ []) × (now ≡ before)
no_step before now [] left result is none by setup past stands = (refl, (none refl).nothing_left, (none refl).same)
no_step before now (step ∷ rest) left result is none by setup past stands =
    let s = by step rest refl in
    let went : None ≡ Some (went_of (next setup past step)) = subst (λ (r : Result (Option Went) NotTaken). IfOk r (λ went. went ≡ Some (went_of (next setup past step)))) is (s.1.went setup past stands) in
    absurd cc

-- ---- so many steps

unstopped : false ≡ true → ⊥
unstopped is = cc

no_more : (setup : Setup) → with_steps setup [] ≡ setup
no_more setup = ap {B = Setup} (λ (l : List Step). record { topology = setup.topology; slots = setup.slots; script = setup.script; schedule = l }) (append-nil setup.schedule)

pub runs_none : (S : Setup → List Entry → Type 0) (finished : List Bool) (setup : Setup) (past : List Entry) (laid left : List Step) (stops : Stops) → S setup past → laid ≡ left → RunsOn S finished setup past laid left stops 0 false
unfolding TakenOrWaiting StopsOnce
runs_none S finished setup past laid left stops stands same = record {
  tried = [];
  taken = [];
  entries = [];
  laid_is = same;
  count_is = refl;
  each = refl;
  stands = subst (λ (t : Setup). S t past) (sym (no_more setup)) stands;
  once = All-nil (λ entry. is_stop stops entry ≡ false);
  ends = λ is. absurd (unstopped is);
}

pub runs_wait : (S : Setup → List Entry → Type 0) (finished : List Bool) (setup : Setup) (past : List Entry) (laid left : List Step) (stops : Stops) (step : Step) → S setup past → laid ≡ step ∷ left → IsWaiting finished setup past step → RunsOn S finished setup past laid left stops 1 false
unfolding TakenOrWaiting StopsOnce
runs_wait S finished setup past laid left stops step stands same waiting = record {
  tried = step ∷ [];
  taken = [];
  entries = [];
  laid_is = same;
  count_is = refl;
  each = (waiting, refl);
  stands = subst (λ (t : Setup). S t past) (sym (no_more setup)) stands;
  once = All-nil (λ entry. is_stop stops entry ≡ false);
  ends = λ is. absurd (unstopped is);
}

stops_one : (stopped : Bool) (stops : Stops) (entry : Entry) → is_stop stops entry ≡ stopped → StopsOnce stopped stops (entry ∷ [])
unfolding StopsOnce
stops_one false stops entry is = All-cons (λ entry. is_stop stops entry ≡ false) entry [] is (All-nil (λ entry. is_stop stops entry ≡ false))
stops_one true stops entry is = (is, All-nil (λ entry. is_stop stops entry ≡ false))

pub runs_step : (S : Setup → List Entry → Type 0) (finished : List Bool) (setup : Setup) (past : List Entry) (laid left : List Step) (stops : Stops) (step : Step) (stopped : Bool) → S (with_step setup step) (next setup past step ∷ past) → laid ≡ step ∷ left
    → is_stop stops (next setup past step) ≡ stopped → RunsOn S finished setup past laid left stops 1 stopped
unfolding TakenOrWaiting
runs_step S finished setup past laid left stops step stopped stands same stop = record {
  tried = step ∷ [];
  taken = step ∷ [];
  entries = next setup past step ∷ [];
  laid_is = same;
  count_is = refl;
  each = inl (refl, refl);
  stands = stands;
  once = stops_one stopped stops (next setup past step) stop;
  ends = λ is. record {
    before = [];
    some = [];
    last = step;
    earlier = past;
    tried_is = refl;
    taken_is = refl;
    journal_is = ap (λ (t : Setup). next t past step ∷ past) (sym (no_more setup));
    each = refl;
  };
}

by_stop : (S : Setup → List Entry → Type 0) (ran : Option Ran) (now : SessionFields) (setup : Setup) (past : List Entry) (laid left : List Step) (stops : Stops) (step : Step) (stopped : Bool) → S (with_step setup step) (next setup past step ∷ past) → laid ≡ step ∷ left
    → is_stop stops (next setup past step) ≡ stopped → ran ≡ (if stopped then Some rans.Stopped else None) → TriesBy S ran now setup past laid left stops
by_stop S ran now setup past laid left stops step false stands same stop is = subst (λ (r : Option Ran). TriesBy S r now setup past laid left stops) (sym is) (runs_step S now.finished setup past laid left stops step false stands same stop)
by_stop S ran now setup past laid left stops step true stands same stop is = subst (λ (r : Option Ran). TriesBy S r now setup past laid left stops) (sym is) (runs_step S now.finished setup past laid left stops step true stands same stop)

-- a step that was taken ends the run where its entry is of a chosen kind
pub tries_taken : (S : Setup → List Entry → Type 0) (ran : Option Ran) (now : SessionFields) (setup : Setup) (past : List Entry) (laid left : List Step) (stops : Stops) (step : Step) → laid ≡ step ∷ left → StandsIn now (with_step setup step) (next setup past step ∷ past)
    → S (with_step setup step) (next setup past step ∷ past) → ran ≡ stopped_at stops now.net.last → TriesBy S ran now setup past laid left stops
tries_taken S ran now setup past laid left stops step same stands more is =
    by_stop S ran now setup past laid left stops step (is_stop stops (next setup past step)) more same refl (is ∙ ap (stopped_at stops) stands.last)

-- one that is refused otherwise than since it waits ends the run
pub tries_refused : (S : Setup → List Entry → Type 0) (refusal : NotTaken) (before now : SessionFields) (setup : Setup) (past : List Entry) (laid left : List Step) (stops : Stops) (step : Step) → S setup past → now ≡ before → laid ≡ step ∷ left → step_refusal before step ≡ Some refusal
    → RefusedAfter S refusal now setup past laid left stops 1
tries_refused S refusal before now setup past laid left stops step stands same laid_is refused = record {
  count = 0;
  few = omega arith;
  step = step;
  runs = runs_none S now.finished setup past laid (step ∷ left) stops stands laid_is;
  refused = ap (λ (s : SessionFields). step_refusal s step) same ∙ refused;
}

-- one that isn't taken ends it unless it waits
pub tries_not_taken : (S : Setup → List Entry → Type 0) (refusal : NotTaken) (before now : SessionFields) (setup : Setup) (past : List Entry) (laid left : List Step) (stops : Stops) (step : Step) → S setup past → now ≡ before → laid ≡ step ∷ left → step_refusal before step ≡ Some refusal
    → (refusal ≡ Waits → IsWaiting before.finished setup past step) → TriesBy S (ended_by refusal) now setup past laid left stops
tries_not_taken S Waits before now setup past laid left stops step stands same laid_is refused waits =
    runs_wait S now.finished setup past laid left stops step stands laid_is (subst (λ (s : SessionFields). IsWaiting s.finished setup past step) (sym same) (waits refl))
tries_not_taken S Unknown before now setup past laid left stops step stands same laid_is refused waits = tries_refused S Unknown before now setup past laid left stops step stands same laid_is refused
tries_not_taken S Over before now setup past laid left stops step stands same laid_is refused waits = tries_refused S Over before now setup past laid left stops step stands same laid_is refused

-- a run ends where no step is left
pub tries_ended : (S : Setup → List Entry → Type 0) (now : SessionFields) (setup : Setup) (past : List Entry) (laid left : List Step) (stops : Stops) → S setup past → laid ≡ [] → left ≡ [] → (left ≡ []) × RunsOn S now.finished setup past laid left stops 0 false
tries_ended S now setup past laid left stops stands laid_is left_is =
    (left_is, runs_none S now.finished setup past laid left stops stands (laid_is ∙ sym left_is))

-- ---- one after another

with_both : (setup : Setup) (some more : List Step) → with_steps (with_steps setup some) more ≡ with_steps setup (some ++ more)
with_both setup some more = ap {B = Setup} (λ (l : List Step). record { topology = setup.topology; slots = setup.slots; script = setup.script; schedule = l }) (append_assoc setup.schedule some more)

pass : (finished : List Bool) (setup : Setup) (past final : List Entry) (step : Step) (tried taken : List Step) → IsWaiting finished setup past step → TakenOrWaiting finished setup past tried taken final → TakenOrWaiting finished setup past (step ∷ tried) taken final
unfolding TakenOrWaiting
pass finished setup past final step tried [] waiting is = (waiting, is)
pass finished setup past final step tried (t ∷ taken) waiting is = inr (waiting, is)

each_append : (finished : List Bool) (setup : Setup) (past mid final : List Entry) (tried taken tried' taken' : List Step) → TakenOrWaiting finished setup past tried taken mid → TakenOrWaiting finished (with_steps setup taken) mid tried' taken' final
    → TakenOrWaiting finished setup past (tried ++ tried') (taken ++ taken') final
unfolding TakenOrWaiting
each_append finished setup past mid final [] [] tried' taken' is more =
    subst (λ (t : Setup). TakenOrWaiting finished t past tried' taken' final) (no_more setup) (subst (λ (p : List Entry). TakenOrWaiting finished (with_steps setup []) p tried' taken' final) is more)
each_append finished setup past mid final [] (t ∷ taken) tried' taken' is more = absurd is
each_append finished setup past mid final (step ∷ tried) [] tried' taken' is more =
    pass finished setup past final step (tried ++ tried') taken' is.0 (each_append finished setup past mid final tried [] tried' taken' is.1 more)
each_append finished setup past mid final (step ∷ tried) (t ∷ taken) tried' taken' (inl is) more =
    let all : with_steps setup (t ∷ taken) ≡ with_steps (with_step setup step) taken = ap (λ (s : Step). with_steps setup (s ∷ taken)) (sym is.0) ∙ sym (with_both setup (step ∷ []) taken) in
    inl (is.0, each_append finished (with_step setup step) (next setup past step ∷ past) mid final tried taken tried' taken' is.1 (subst (λ (s : Setup). TakenOrWaiting finished s mid tried' taken' final) all more))
each_append finished setup past mid final (step ∷ tried) (t ∷ taken) tried' taken' (inr is) more =
    inr (is.0, each_append finished setup past mid final tried (t ∷ taken) tried' taken' is.1 more)

once_append : (stopped : Bool) (stops : Stops) (later earlier : List Entry) → StopsOnce stopped stops later → StopsOnce false stops earlier → StopsOnce stopped stops (later ++ earlier)
unfolding StopsOnce
once_append false stops later earlier is none = All-append (λ entry. is_stop stops entry ≡ false) later earlier is none
once_append true stops [] earlier is none = absurd is
once_append true stops (entry ∷ later) earlier is none = (is.0, All-append (λ entry. is_stop stops entry ≡ false) later earlier is.1 none)

ends_append : (finished : List Bool) (setup : Setup) (past : List Entry) (tried taken : List Step) (some : List Entry) (tried' taken' : List Step) (more : List Entry) → TakenOrWaiting finished setup past tried taken (some ++ past)
    → EndsTaken finished (with_steps setup taken) (some ++ past) tried' taken' (more ++ (some ++ past)) → EndsTaken finished setup past (tried ++ tried') (taken ++ taken') ((more ++ some) ++ past)
ends_append finished setup past tried taken some tried' taken' more each e = record {
  before = tried ++ e.before;
  some = taken ++ e.some;
  last = e.last;
  earlier = e.earlier;
  tried_is = ap (λ (l : List Step). tried ++ l) e.tried_is ∙ sym (append_assoc tried e.before (e.last ∷ []));
  taken_is = ap (λ (l : List Step). taken ++ l) e.taken_is ∙ sym (append_assoc taken e.some (e.last ∷ []));
  journal_is = append_assoc more some past ∙ e.journal_is ∙ ap (λ (t : Setup). next t e.earlier e.last ∷ e.earlier) (with_both setup taken e.some);
  each = each_append finished setup past (some ++ past) e.earlier tried taken e.before e.some each e.each;
}

-- steps that follow others
pub run_on : (T S : Setup → List Entry → Type 0) (finished : List Bool) (setup : Setup) (past : List Entry) (laid left left' : List Step) (stops : Stops) (n m : ℕ) (stopped : Bool) (a : RunsOn T finished setup past laid left stops n false)
    → RunsOn S finished (with_steps setup a.taken) (a.entries ++ past) left left' stops m stopped → RunsOn S finished setup past laid left' stops (n + m) stopped
run_on T S finished setup past laid left left' stops n m stopped a b = record {
  tried = a.tried ++ b.tried;
  taken = a.taken ++ b.taken;
  entries = b.entries ++ a.entries;
  laid_is = a.laid_is ∙ ap (λ (l : List Step). a.tried ++ l) b.laid_is ∙ sym (append_assoc a.tried b.tried left');
  count_is = length-append a.tried b.tried ∙ ap₂ (λ (i j : ℕ). i + j) a.count_is b.count_is;
  each =
      subst (λ (l : List Entry). TakenOrWaiting finished setup past (a.tried ++ b.tried) (a.taken ++ b.taken) l) (sym (append_assoc b.entries a.entries past))
      (each_append finished setup past (a.entries ++ past) (b.entries ++ (a.entries ++ past)) a.tried a.taken b.tried b.taken a.each b.each);
  stands =
      subst (λ (t : Setup). S t ((b.entries ++ a.entries) ++ past)) (with_both setup a.taken b.taken)
      (subst (λ (l : List Entry). S (with_steps (with_steps setup a.taken) b.taken) l) (sym (append_assoc b.entries a.entries past)) b.stands);
  once = once_append stopped stops b.entries a.entries b.once a.once;
  ends = λ is. ends_append finished setup past a.tried a.taken a.entries b.tried b.taken b.entries a.each (b.ends is);
}

-- the same, where nobody was finished meanwhile
pub run_further : (T S : Setup → List Entry → Type 0) (mid now : SessionFields) (setup : Setup) (past : List Entry) (laid left left' : List Step) (stops : Stops) (n m : ℕ) (stopped : Bool) → now.finished ≡ mid.finished → (a : RunsOn T mid.finished setup past laid left stops n false)
    → RunsOn S now.finished (with_steps setup a.taken) (a.entries ++ past) left left' stops m stopped → RunsOn S now.finished setup past laid left' stops (n + m) stopped
run_further T S mid now setup past laid left left' stops n m stopped same a b =
    subst (λ (f : List Bool). RunsOn S f setup past laid left' stops (n + m) stopped) (sym same)
    (run_on T S mid.finished setup past laid left left' stops n m stopped a (subst (λ (f : List Bool). RunsOn S f (with_steps setup a.taken) (a.entries ++ past) left left' stops m stopped) same b))

refused_on : (T S : Setup → List Entry → Type 0) (refusal : NotTaken) (mid now : SessionFields) (setup : Setup) (past : List Entry) (laid left left' : List Step) (stops : Stops) (n m most : ℕ) → now.finished ≡ mid.finished → (a : RunsOn T mid.finished setup past laid left stops n false) → n + m ≤ most
    → RefusedAfter S refusal now (with_steps setup a.taken) (a.entries ++ past) left left' stops m → RefusedAfter S refusal now setup past laid left' stops most
refused_on T S refusal mid now setup past laid left left' stops n m most same a few b = record {
  count = n + b.count;
  few = omega (arith, few, b.few);
  step = b.step;
  runs = run_further T S mid now setup past laid left (b.step ∷ left') stops n b.count false same a b.runs;
  refused = b.refused;
}

-- the run ends with one of the steps, or since none is left
pub run_ended : (T S : Setup → List Entry → Type 0) (ran : Ran) (mid now : SessionFields) (setup : Setup) (past : List Entry) (laid left left' : List Step) (stops : Stops) (n m most : ℕ) → now.finished ≡ mid.finished → (a : RunsOn T mid.finished setup past laid left stops n false) → n + m ≤ most
    → TriesAll S (Some ran) now (with_steps setup a.taken) (a.entries ++ past) left left' stops m → RunsBy S ran now setup past laid left' stops most
run_ended T S rans.Stopped mid now setup past laid left left' stops n m most same a few b = (n + b.1.0, omega (arith, few, b.1.1), run_further T S mid now setup past laid left left' stops n b.1.0 true same a b.1.2)
run_ended T S rans.Tried mid now setup past laid left left' stops n m most same a few b = absurd (b.0 refl)
run_ended T S rans.Ended mid now setup past laid left left' stops n m most same a few b = (n + b.1.0, omega (arith, few, b.1.1), b.1.2, run_further T S mid now setup past laid left left' stops n b.1.0 false same a b.1.3)
run_ended T S rans.Unknown mid now setup past laid left left' stops n m most same a few b = refused_on T S Unknown mid now setup past laid left left' stops n m most same a few b.1
run_ended T S rans.Over mid now setup past laid left left' stops n m most same a few b = refused_on T S Over mid now setup past laid left left' stops n m most same a few b.1

-- one step is one of several
pub tries_one : (S : Setup → List Entry → Type 0) (ran : Option Ran) (now : SessionFields) (setup : Setup) (past : List Entry) (laid left : List Step) (stops : Stops) → TriesBy S ran now setup past laid left stops → TriesAll S ran now setup past laid left stops 1
tries_one S None now setup past laid left stops is = is
tries_one S (Some rans.Stopped) now setup past laid left stops is = ((λ no. absurd cc), (1, omega arith, is))
tries_one S (Some rans.Tried) now setup past laid left stops is = absurd is
tries_one S (Some rans.Ended) now setup past laid left stops is = ((λ no. absurd cc), (0, omega arith, is.0, is.1))
tries_one S (Some rans.Unknown) now setup past laid left stops is = ((λ no. absurd cc), is)
tries_one S (Some rans.Over) now setup past laid left stops is = ((λ no. absurd cc), is)

-- so the run ends with a step that follows others
pub run_ends : (T S : Setup → List Entry → Type 0) (ran : Ran) (mid now : SessionFields) (setup : Setup) (past : List Entry) (laid left left' : List Step) (stops : Stops) (n most : ℕ) → now.finished ≡ mid.finished → (a : RunsOn T mid.finished setup past laid left stops n false) → n < most
    → TriesBy S (Some ran) now (with_steps setup a.taken) (a.entries ++ past) left left' stops → RunsBy S ran now setup past laid left' stops most
run_ends T S ran mid now setup past laid left left' stops n most same a few b =
    run_ended T S ran mid now setup past laid left left' stops n 1 most same a (omega (arith, few)) (tries_one S (Some ran) now (with_steps setup a.taken) (a.entries ++ past) left left' stops b)

-- and several that follow others are more of them
pub tries_more : (T S : Setup → List Entry → Type 0) (ran : Ran) (mid now : SessionFields) (setup : Setup) (past : List Entry) (laid left left' : List Step) (stops : Stops) (n : ℕ) → now.finished ≡ mid.finished → (a : RunsOn T mid.finished setup past laid left stops n false)
    → TriesBy S (Some ran) now (with_steps setup a.taken) (a.entries ++ past) left left' stops → TriesAll S (Some ran) now setup past laid left' stops (n + 1)
tries_more T S ran mid now setup past laid left left' stops n same a b =
    let one = tries_one S (Some ran) now (with_steps setup a.taken) (a.entries ++ past) left left' stops b in
    (one.0, run_ends T S ran mid now setup past laid left left' stops n (n + 1) same a (omega arith) b)

-- ---- steps of a list

-- what is left after the first one is what is left of the whole
pub after_first : (steps rest more : List Step) (step : Step) → rest ≡ step ∷ more → length rest ≤ length steps → drop (length steps - length rest) steps ≡ rest → drop (length steps - length more) steps ≡ more
after_first steps rest more step is few same =
    let one : length rest ≡ length more + 1 = ap length is ∙ omega arith in
    let further : length steps - length more ≡ (length steps - length rest) + 1 = omega (arith, few, one) in
    ap (λ (n : ℕ). drop n steps) further ∙ sym (drop-drop 1 (length steps - length rest) steps) ∙ ap (drop 1) (same ∙ is)

-- some of the first steps of a list, and those after them
first_and_after : (hand laid : List Step) (many : ℕ) → take (length hand) laid ≡ hand → many ≤ length hand → take many hand ++ drop many laid ≡ laid
first_and_after hand laid many is few =
    let all : hand ++ drop (length hand) laid ≡ laid = ap (λ (l : List Step). l ++ drop (length hand) laid) (sym is) ∙ take-append-drop (length hand) laid in
    ap (λ (l : List Step). l ++ drop many laid) (sym (take-append-le many hand (drop (length hand) laid) few) ∙ ap (take many) all) ∙ take-append-drop many laid

-- what came of them came of the list
pub tries_first : (S : Setup → List Entry → Type 0) (ran : Option Ran) (now : SessionFields) (setup : Setup) (past : List Entry) (hand laid left : List Step) (stops : Stops) (many over most : ℕ) → take (length hand) laid ≡ hand → many ≤ length hand → many ≤ most → over ≤ many → left ≡ drop (many - over) laid
    → ((after : List Step) → TriesAll S ran now setup past (take many hand ++ after) (drop (length (take many hand) - over) (take many hand) ++ after) stops (length (take many hand) - over)) → TriesAll S ran now setup past laid left stops (most - (most - (many - over)))
tries_first S ran now setup past hand laid left stops many over most is few fits some left_is tries =
    let steps = take many hand in
    let after = drop many laid in
    let len : length steps ≡ many = length-take-le many hand few in
    let n = length steps - over in
    let whole : steps ++ after ≡ laid = first_and_after hand laid many is few in
    let count : n ≡ most - (most - (many - over)) = omega (arith, len, fits, some) in
    let same : many - over ≡ n = omega (arith, len) in
    let further : drop n steps ++ after ≡ left = sym (drop-append-le n steps after (omega arith)) ∙ ap (drop n) whole ∙ ap (λ (k : ℕ). drop k laid) (sym same) ∙ sym left_is in
    subst (λ (k : ℕ). TriesAll S ran now setup past laid left stops k) count
    (subst (λ (l : List Step). TriesAll S ran now setup past laid l stops n) further
    (subst (λ (l : List Step). TriesAll S ran now setup past l (drop n steps ++ after) stops n) whole (tries after)))
