-- A step is added to the schedule of a case.
use Rattle.std.proofs.Common.{◌≡◌, ◌∙◌, ◌<◌, ◌≤◌, ◌+◌, ◌++◌, Option, Some, None, ap, arith, length-append, ℕ, false, List, [], ◌∷◌, length, refl, sym, subst, slice_get}
use Rattle.std.proofs.lemmas.List.Elements.{All-nil, All-cons, All-append}
use Rattle.std.proofs.lemmas.List.{get_or_append_left}
use Rattle.std.proofs.Math.Seq.{get_or-append_seam}
use Rattle.std.proofs.lemmas.Option.{slice_get-get_or}
use Rattle.hmc_schedule.specs.declared.step.Step.{Step}
use Rattle.hmc_schedule.specs.Plan.{HasFlit}
use Rattle.hmc_entries.specs.declared.entry.Entry.{Entry}
use Rattle.hmc_journal.specs.Hosts.{host_of}
use Rattle.hmc_journal.specs.Lawful.{Lawful, Follows, has_passed}
use Rattle.hmc_journal.specs.Network.{IsNetwork}
use Rattle.hmc_journal.specs.Next.{next}
use Rattle.hmc_journal.specs.Setup.{Setup}
use Rattle.hmc_journal.specs.StepView.{state_of, view_of}
use Rattle.hmc_growing.specs.Growing.{with_step}

pub more_long : (xs : List Step) (x : Step) → length (xs ++ x ∷ []) ≡ length xs + 1
more_long xs x = length-append xs (x ∷ [])

-- the earlier steps stay where they are, and the new one is the last
front : (xs : List Step) (x : Step) (k : ℕ) → k < length xs → slice_get (xs ++ x ∷ []) k ≡ slice_get xs k
front xs x k below =
    let within : k < length (xs ++ x ∷ []) = subst (λ n. k < n) (sym (more_long xs x)) (omega arith) in
    slice_get-get_or (xs ++ x ∷ []) k x within ∙ ap Some (get_or_append_left xs (x ∷ []) x k below) ∙ sym (slice_get-get_or xs k x below)

pub at_end : (xs : List Step) (x : Step) → slice_get (xs ++ x ∷ []) (length xs) ≡ Some x
at_end xs x =
    let within : length xs < length (xs ++ x ∷ []) = subst (λ n. length xs < n) (sym (more_long xs x)) (omega arith) in
    slice_get-get_or (xs ++ x ∷ []) (length xs) x within ∙ ap Some (get_or-append_seam xs x [] x)

-- no entry sees the schedule
pub same_entry : (setup : Setup) (past : List Entry) (step more : Step) → next (with_step setup more) past step ≡ next setup past step
unfolding next view_of state_of host_of
same_entry setup past step more = refl

follows : (setup : Setup) (more : Step) (past : List Entry) (o : Option Step) (entry : Entry) → Follows setup past o entry → Follows (with_step setup more) past o entry
follows setup more past None entry never = never
follows setup more past (Some step) entry is = is ∙ sym (same_entry setup past step more)

pub lawful_with : (setup : Setup) (past : List Entry) (more : Step) → length past ≤ length setup.schedule → Lawful setup past → Lawful (with_step setup more) past
unfolding Lawful
lawful_with setup [] more few lawful = tt
lawful_with setup (entry ∷ past) more few lawful =
    let below : length past < length setup.schedule = omega arith in
    (lawful.0, subst (λ (o : Option Step). Follows (with_step setup more) past o entry) (sym (front setup.schedule more (length past) below)) (follows setup more past _ entry lawful.1), lawful_with setup past more (omega arith) lawful.2)

pub goes_on_with : (setup : Setup) (past : List Entry) (more : Step) → length past ≡ length setup.schedule → Lawful setup past → has_passed past ≡ false → Lawful (with_step setup more) (next setup past more ∷ past)
unfolding Lawful
goes_on_with setup past more all lawful on =
    let is_last : slice_get (setup.schedule ++ more ∷ []) (length past) ≡ Some more = ap (slice_get (setup.schedule ++ more ∷ [])) all ∙ at_end setup.schedule more in
    (on, subst (λ (o : Option Step). Follows (with_step setup more) past o (next setup past more)) (sym is_last) (sym (same_entry setup past more more)), lawful_with setup past more (omega (arith, all)) lawful)

pub network_with : (setup : Setup) (more : Step) → IsNetwork setup → HasFlit more → IsNetwork (with_step setup more)
network_with setup more is flit = record {
  some_hosts = is.some_hosts;
  few_hosts = is.few_hosts;
  few_links = is.few_links;
  graph = is.graph;
  one_part = is.one_part;
  hosts = is.hosts;
  cubes = is.cubes;
  sizes = is.sizes;
  items = is.items;
  masks = All-append HasFlit setup.schedule (more ∷ []) is.masks (All-cons HasFlit more [] flit (All-nil HasFlit));
}
