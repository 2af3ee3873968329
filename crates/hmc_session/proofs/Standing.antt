-- What a session stands for after a step, after a request, and after a host is finished.
use Rattle.std.proofs.Common.{◌≡◌, ◌∙◌, ◌<◌, ◌+◌, ◌^◌, ◌==◌, ◌&&◌, ◌||◌, if◌then◌else◌, ℕ, suc, Bool, true, false, not, List, [], ◌∷◌, length, length-append, length-set, Option, None, Some, refl, sym, ap, ap₂, subst, arith}
use Rattle.std.specs.Prelude.{slice_index_or, slice_set, is_none, nat_le}
use Rattle.std.proofs.lemmas.Bool.{and_parts, leb-false, ltb-true, not-true}
use Rattle.hmc_codes.specs.Limits.{most_taken}
use Rattle.hmc_script.specs.Items.{ItemFields}
use Rattle.hmc_schedule.specs.declared.step.Step.{Step}
use Rattle.hmc_schedule.specs.declared.step.Step.TheVariants as steps
use Rattle.hmc_schedule.specs.Plan.{PlanFields, IsStepOf, HasFlit}
use Rattle.hmc_host.specs.Give.{is_at_end, next_item}
use Rattle.hmc_entries.specs.declared.entry.Entry.{Entry}
use Rattle.hmc_entries.specs.Event.{is_passed}
use Rattle.hmc_journal.specs.Hosts.{host_of}
use Rattle.hmc_journal.specs.Next.{next}
use Rattle.hmc_journal.specs.Setup.{Setup, Topology, hosts_in, cubes_in}
use Rattle.hmc_growing.specs.Growing.{with_step, with_item, is_end_of, IsOpen}
use Rattle.hmc_growing.proofs.AddedStep.{same_entry}
use Rattle.hmc_growing.proofs.HostEnds.{end_is_give}
use Rattle.hmc_kept.specs.Hosts.{host_in}
use Rattle.hmc_kept.proofs.Elements.{changed_at}
use Rattle.hmc_wiring.specs.Ready.{IsStepFor}
use Rattle.hmc_net.specs.Stands.{StandsFor, IsNext}
use Rattle.hmc_net.proofs.Growing.{next_with_step}
use Rattle.hmc_session.specs.declared.refusal.NotTaken.{NotTaken}
use Rattle.hmc_session.specs.declared.refusal.NotTaken.TheVariants.{Unknown, Over, Waits}
use Rattle.hmc_session.specs.Refusals.{has_step, refusal_in, step_refusal}
use Rattle.hmc_session.specs.Session.{SessionFields, StandsIn, IsSession, IsLast, IsWaiting, MayAsk, is_finished, waits}

-- ---- a step

-- what a step of the session asks of it
pub record MayTake (s : SessionFields) (step : Step) : Type 0 where
  pub within : IsStepOf s.plan step
  pub mask : HasFlit step
  pub goes_on : s.passed ≡ false
  pub due : waits s step ≡ false
  pub few : s.taken < most_taken

neither : (a b : Bool) → (a || b) ≡ false → (a ≡ false) × (b ≡ false)
neither false false is = (refl, refl)
neither false true is = absurd cc
neither true b is = absurd cc

by_refusal : (known over wait : Bool) → (if not known then Some Unknown else if over then Some Over else if wait then Some Waits else None) ≡ None → (over ≡ false) × (wait ≡ false)
by_refusal false over wait free = absurd cc
by_refusal true true wait free = absurd cc
by_refusal true false true free = absurd cc
by_refusal true false false free = (refl, refl)

-- what refuses a step where one may follow refuses it
due_refuses : (known over wait : Bool) (due : Option NotTaken) (refusal : NotTaken) → over ≡ false → due ≡ (if not known then Some Unknown else if wait then Some Waits else None) → due ≡ Some refusal → (if not known then Some Unknown else if over then Some Over else if wait then Some Waits else None) ≡ Some refusal
due_refuses known true wait due refusal on is refused = absurd cc
due_refuses false false wait due refusal on is refused = cc
due_refuses true false wait due refusal on is refused = cc

pub refused_now : (s : SessionFields) (step : Step) (over : Bool) (due : Option NotTaken) (refusal : NotTaken) → over ≡ (s.passed || nat_le most_taken s.taken) → over ≡ false → due ≡ refusal_in s.plan s.finished s.net.hosts step → due ≡ Some refusal → step_refusal s step ≡ Some refusal
refused_now s step over due refusal is on value refused =
    due_refuses (has_step s.plan step) (s.passed || nat_le most_taken s.taken) (waits s step) due refusal (sym is ∙ on) value refused

none_refuses : (known over wait : Bool) (due : Option NotTaken) → over ≡ false → due ≡ (if not known then Some Unknown else if wait then Some Waits else None) → due ≡ None → (if not known then Some Unknown else if over then Some Over else if wait then Some Waits else None) ≡ None
none_refuses known true wait due on is none = absurd cc
none_refuses false false wait due on is none = absurd cc
none_refuses true false wait due on is none = cc

-- where nothing refuses it then, nothing does
pub free_now : (s : SessionFields) (step : Step) (over : Bool) (due : Option NotTaken) → over ≡ (s.passed || nat_le most_taken s.taken) → over ≡ false → due ≡ refusal_in s.plan s.finished s.net.hosts step → due ≡ None → step_refusal s step ≡ None
free_now s step over due is on value none =
    none_refuses (has_step s.plan step) (s.passed || nat_le most_taken s.taken) (waits s step) due (sym is ∙ on) value none

-- a step may be taken that nothing refuses
pub may_take : (s : SessionFields) (step : Step) → IsStepOf s.plan step → HasFlit step → step_refusal s step ≡ None → MayTake s step
may_take s step within mask free =
    let none = by_refusal (has_step s.plan step) (s.passed || nat_le most_taken s.taken) (waits s step) free in
    let on = neither s.passed (nat_le most_taken s.taken) none.0 in
    record { within = within; mask = mask; goes_on = on.0; due = none.1; few = leb-false most_taken s.taken on.1 }

step_for : (s : SessionFields) (setup : Setup) (past : List Entry) (step : Step) → IsSession s → StandsIn s setup past → IsStepOf s.plan step → HasFlit step → IsStepFor setup.topology step
step_for s setup past step keeps is within mask = subst (λ (t : Topology). IsStepFor t step) is.stands.topology (keeps.parts step within mask)

-- ---- a step that waits

by_wait : (known over wait : Bool) → (if not known then Some Unknown else if over then Some Over else if wait then Some Waits else None) ≡ Some Waits → (known ≡ true) × (wait ≡ true)
by_wait false over wait is = absurd cc
by_wait true true wait is = absurd cc
by_wait true false true is = (refl, refl)
by_wait true false false is = absurd cc

none_left : (item : Option ItemFields) → is_none item ≡ true → item ≡ None
none_left None is = refl
none_left (Some item) is = absurd cc

-- a give of a host that isn't finished, and has no request left
waiting_give : (s : SessionFields) (setup : Setup) (past : List Entry) (host : ℕ) → IsSession s → StandsIn s setup past → host < s.plan.hosts → (not (is_finished s host) && is_at_end (host_in s.net.hosts host)) ≡ true → IsWaiting s.finished setup past (steps.Give host)
waiting_give s setup past host keeps is there waiting =
    let both = and_parts (not (is_finished s host)) (is_at_end (host_in s.net.hosts host)) waiting in
    let in_net : host < hosts_in s.net.topology = keeps.parts (steps.Give host) there tt in
    let inside : host < length s.net.hosts = subst (λ (n : ℕ). host < n) (sym is.stands.sized.hosts) in_net in
    record {
      host = host;
      free = not-true (is_finished s host) both.0;
      ends = record {
        gives = refl;
        none_left = none_left (next_item (host_of setup past host)) (sym (ap is_at_end (is.stands.hosts host inside)) ∙ both.1);
      };
    }

-- a step that is refused since it waits is one
waiting_step : (s : SessionFields) (setup : Setup) (past : List Entry) (step : Step) → IsSession s → StandsIn s setup past → has_step s.plan step ≡ true → waits s step ≡ true → IsWaiting s.finished setup past step
waiting_step s setup past (steps.Give host) keeps is known waiting = waiting_give s setup past host keeps is (ltb-true host s.plan.hosts known) waiting
waiting_step s setup past (steps.Send d) keeps is known waiting = absurd cc
waiting_step s setup past (steps.Land d m) keeps is known waiting = absurd cc
waiting_step s setup past (steps.Shift c p) keeps is known waiting = absurd cc
waiting_step s setup past (steps.Spread c v) keeps is known waiting = absurd cc
waiting_step s setup past (steps.Bank c v b) keeps is known waiting = absurd cc
waiting_step s setup past (steps.Registers c) keeps is known waiting = absurd cc
waiting_step s setup past (steps.Lift c f) keeps is known waiting = absurd cc
waiting_step s setup past (steps.Take h) keeps is known waiting = absurd cc
waiting_step s setup past (steps.Through c p) keeps is known waiting = absurd cc
waiting_step s setup past (steps.Unlock d) keeps is known waiting = absurd cc
waiting_step s setup past (steps.Retire n) keeps is known waiting = absurd cc

pub is_waiting : (s : SessionFields) (setup : Setup) (past : List Entry) (step : Step) → IsSession s → StandsIn s setup past → step_refusal s step ≡ Some Waits → IsWaiting s.finished setup past step
is_waiting s setup past step keeps is refused =
    let by = by_wait (has_step s.plan step) (s.passed || nat_le most_taken s.taken) (waits s step) refused in
    waiting_step s setup past step keeps is by.0 by.1

-- ---- what a step leaves

-- any step of its plan may come next
pub next_is : (s : SessionFields) (setup : Setup) (past : List Entry) (step : Step) → IsSession s → MayTake s step → StandsIn s setup past → IsNext s.net (with_step setup step) past step
next_is s setup past step keeps may is =
    let few : length setup.schedule + 1 < 2 ^ 32 = omega (arith, may.few, is.taken, is.all) in
    next_with_step s.net setup past step is.stands (sym is.passed ∙ may.goes_on) is.all few (step_for s setup past step keeps is may.within may.mask) may.mask

pub some_next : (s : SessionFields) (step : Step) → IsSession s → MayTake s step → (setup : Setup) × (past : List Entry) × IsNext s.net setup past step
some_next s step keeps may = (with_step keeps.case step, keeps.journal, next_is s keeps.case keeps.journal step keeps may keeps.stands)

-- a host that isn't finished isn't found at its end
not_ended : (s : SessionFields) (setup : Setup) (past : List Entry) (step : Step) (host : ℕ) (ends : Bool) → IsSession s → MayTake s step → StandsIn s setup past → is_finished s host ≡ false
    → is_end_of host (next setup past step) ≡ ends → is_end_of host (next setup past step) ≡ false
not_ended s setup past step host false keeps may is free ends = ends
not_ended s setup past step host true keeps may is free ends =
    let end = end_is_give setup past step host ends in
    let within : host < hosts_in setup.topology = subst (λ (t : Step). IsStepFor setup.topology t) end.gives (step_for s setup past step keeps is may.within may.mask) in
    let there : host < length s.net.hosts = subst (λ (n : ℕ). host < n) (sym (is.stands.sized.hosts ∙ ap hosts_in is.stands.topology)) within in
    let at_end : is_at_end (host_in s.net.hosts host) ≡ true = ap is_at_end (is.stands.hosts host there) ∙ ap is_none end.none_left in
    let waiting : waits s (steps.Give host) ≡ true = ap₂ (λ (f e : Bool). not f && e) free at_end in
    let isnt : waits s (steps.Give host) ≡ false = subst (λ (t : Step). waits s t ≡ false) end.gives may.due in
    absurd (cc)

one_more : (n : ℕ) → suc n ≡ n + 1
one_more n = omega arith

-- the session after a step stands for the case with it
pub stands_next : (s now : SessionFields) (setup : Setup) (past : List Entry) (step : Step) → IsSession s → MayTake s step → StandsIn s setup past
    → StandsFor now.net (with_step setup step) (next (with_step setup step) past step ∷ past) → now.taken ≡ s.taken + 1 → now.passed ≡ is_passed (next (with_step setup step) past step) → now.finished ≡ s.finished → now.net.last ≡ next (with_step setup step) past step
    → StandsIn now (with_step setup step) (next setup past step ∷ past)
unfolding IsOpen
stands_next s now setup past step keeps may is stands taken passed finished last =
    let same = same_entry setup past step step in
    record {
      stands = subst (λ (e : Entry). StandsFor now.net (with_step setup step) (e ∷ past)) same stands;
      all = one_more (length past) ∙ ap (λ (n : ℕ). n + 1) is.all ∙ sym (length-append setup.schedule (step ∷ []));
      taken = taken ∙ ap (λ (n : ℕ). n + 1) is.taken ∙ sym (one_more (length past));
      passed = passed ∙ ap is_passed same;
      last = last ∙ same;
      free = λ host free.
          let before : is_finished s host ≡ false = subst (λ (l : List Bool). slice_index_or l host true ≡ false) finished free in
          (not_ended s setup past step host (is_end_of host (next setup past step)) keeps may is before refl, is.free host before);
    }

-- it keeps what every session keeps
pub keeps_with : (s now : SessionFields) (setup setup' : Setup) (past past' : List Entry) → IsSession s → StandsIn s setup past → StandsIn now setup' past' → setup'.topology ≡ setup.topology → now.plan ≡ s.plan → length now.finished ≡ length s.finished → IsSession now
keeps_with s now setup setup' past past' keeps before is topology plan long = record {
  sized = long ∙ keeps.sized;
  parts = λ step within mask.
      subst (λ (t : Topology). IsStepFor t step) (before.stands.topology ∙ sym topology ∙ sym is.stands.topology) (keeps.parts step (subst (λ (p : PlanFields). IsStepOf p step) plan within) mask);
  case = setup';
  journal = past';
  stands = is;
}

-- ---- a request

-- the session after a request stands for the case with it, and the same journal
pub stands_asked : (s now : SessionFields) (setup : Setup) (past : List Entry) (item : ItemFields) → StandsIn s setup past → StandsFor now.net (with_item setup item) past → now.taken ≡ s.taken → now.passed ≡ s.passed → now.finished ≡ s.finished → now.net.last ≡ s.net.last → StandsIn now (with_item setup item) past
stands_asked s now setup past item is stands taken passed finished last = record {
  last = subst (λ (e : Entry). IsLast e past) (sym last) is.last;
  stands = stands;
  all = is.all;
  taken = taken ∙ is.taken;
  passed = passed ∙ is.passed;
  free = λ host free. is.free host (subst (λ (l : List Bool). slice_index_or l host true ≡ false) finished free);
}

pub may_from : (s t : SessionFields) (host cube : ℕ) → s ≡ t → MayAsk t host cube → MayAsk s host cube
may_from s t host cube same may = subst (λ (x : SessionFields). MayAsk x host cube) (sym same) may

-- the hosts and cubes of the plan are there
pub host_there : (s : SessionFields) (host : ℕ) → IsSession s → host < s.plan.hosts → host < length s.net.hosts
host_there s host keeps there =
    let in_net : host < hosts_in s.net.topology = keeps.parts (steps.Give host) there tt in
    subst (λ (n : ℕ). host < n) (sym keeps.stands.stands.sized.hosts) in_net

pub cube_there : (s : SessionFields) (setup : Setup) (past : List Entry) (cube : ℕ) → IsSession s → StandsIn s setup past → cube < length s.plan.cubes → cube < cubes_in setup.topology
cube_there s setup past cube keeps is there = step_for s setup past (steps.Registers cube) keeps is there tt

-- ---- a finished host

-- a host that isn't finished then wasn't before
still_free : (finished : List Bool) (host k : ℕ) (test : Bool) → (host == k) ≡ test → host < length finished → slice_index_or (slice_set finished host true) k true ≡ false → slice_index_or finished k true ≡ false
still_free finished host k true is inside free = let now : slice_index_or (slice_set finished host true) k true ≡ true = changed_at finished host k true true true is inside in absurd (cc)
still_free finished host k false is inside free = sym (changed_at finished host k true true false is inside) ∙ free

pub stands_finished : (s : SessionFields) (setup : Setup) (past : List Entry) (host : ℕ) → StandsIn s setup past → host < length s.finished → StandsIn (record s { finished = slice_set s.finished host true }) setup past
stands_finished s setup past host is inside = record {
  last = is.last;
  stands = is.stands;
  all = is.all;
  taken = is.taken;
  passed = is.passed;
  free = λ k free. is.free k (still_free s.finished host k (host == k) refl inside free);
}

pub keeps_finished : (s : SessionFields) (host : ℕ) → IsSession s → host < length s.finished → IsSession (record s { finished = slice_set s.finished host true })
keeps_finished s host keeps inside = record {
  sized = length-set s.finished host true ∙ keeps.sized;
  parts = keeps.parts;
  case = keeps.case;
  journal = keeps.journal;
  stands = stands_finished s keeps.case keeps.journal host keeps.stands inside;
}
