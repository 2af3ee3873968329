-- The drain bound on journals.
use Rattle.std.proofs.Common.{◌≡◌, ◌≤◌, ◌<◌, ◌+◌, ◌*◌, ◌∙◌, ℕ, zero, suc, Bool, true, false, List, [], ◌∷◌, ◌++◌, All, refl, sym, ap, ap₂, subst, arith, append_assoc}
use Rattle.std.specs.Prelude.{slice_index_or}
use Rattle.std.proofs.lemmas.List.Elements.{All-head}
use Rattle.hmc_codes.specs.Link.{IsLinkSetup}
use Rattle.hmc_codes.specs.declared.profile.Profile.{Profile}
use Rattle.hmc_codes.specs.declared.profile.Profile.TheVariants as profiles
use Rattle.hmc_case.specs.declared.setup.LinkRow.{LinkRow}
use Rattle.hmc_schedule.specs.declared.step.Step.{Step}
use Rattle.hmc_schedule.specs.declared.step.Step.TheVariants.{Give}
use Rattle.hmc_schedule.specs.Round.{rounds_of}
use Rattle.hmc_send.specs.LinkEntries.{LinkEntry}
use Rattle.hmc_codes.specs.Profile.{window_of as window}
use Rattle.hmc_link_state.specs.EachRound.{IsFit}
use Rattle.hmc_link_state.specs.Round.{Rounds}
use Rattle.hmc_link_state.specs.State as drain
use Rattle.hmc_link_state.specs.State.{State}
use Rattle.hmc_link_state.specs.Steps.{Doing, Link}
use Rattle.hmc_drain.specs.Drains.{DrainsAfter}
use Rattle.hmc_entries.specs.declared.entry.Entry.{Entry}
use Rattle.hmc_journal.specs.Hosts.{given_count}
use Rattle.hmc_journal.specs.Links.{sizes_on, entries_on}
use Rattle.hmc_journal.specs.Network.{IsNetwork}
use Rattle.hmc_journal.specs.Next.{next}
use Rattle.hmc_journal.specs.Setup.{Setup, Topology, no_link}
use Rattle.hmc_rounds.specs.Counted.{counted}
use Rattle.hmc_rounds.specs.LinkPart.{LinkRounds, link_of, sizes_by}
use Rattle.hmc_rounds.specs.Rounds.{plan_of, journal_after, link_steps, cube_steps}
use Rattle.hmc_journal.specs.UnderWay.{under_way}
use Rattle.hmc_rounds.proofs.EntryMoves.{Scene, kept_entries}
use Rattle.hmc_rounds.proofs.Journals.{IsFine, journal_after-append, fine_earlier, ready_after, given_later}
use Rattle.hmc_rounds.proofs.RoundMade.{post, RoundFits, IdleFrom, flag_after, round_made}
use Rattle.hmc_rounds.proofs.Single.{Joined}
use Rattle.hmc_rounds.proofs.Tried.{Ready}
use Rattle.hmc_rounds.proofs.UnderWays.{under_ways}

-- ---- rounds one after another

abbrev pub turns : Setup → List Entry → ℕ → List Entry
turns setup past zero = past
turns setup past (suc n) = post setup (turns setup past n)

turns_shift : (setup : Setup) (past : List Entry) (n : ℕ) →
    turns setup (post setup past) n ≡ post setup (turns setup past n)
turns_shift setup past zero = refl
turns_shift setup past (suc n) = ap (post setup) (turns_shift setup past n)

abbrev round_steps : Topology → List Step
round_steps t = Give 0 ∷ link_steps ++ cube_steps (plan_of t)

one_post : (setup : Setup) (past : List Entry) →
    journal_after setup past (round_steps setup.topology) ≡ post setup past
unfolding journal_after
one_post setup past =
    journal_after-append setup (next setup past (Give 0) ∷ past) link_steps
    (cube_steps (plan_of setup.topology))

-- n rounds by their steps
abbrev pub many_steps : Topology → ℕ → List Step
many_steps t zero = []
many_steps t (suc n) = round_steps t ++ many_steps t n

pub rounds_are : (t : Topology) (j : Joined t) (n : ℕ) → rounds_of (plan_of t) n ≡ many_steps t n
unfolding rounds_of
rounds_are t j zero = refl
rounds_are t j (suc n) = ap₂ (λ (xs ys : List Step). xs ++ ys) j.round_is (rounds_are t j n)

first_round : (setup : Setup) (past : List Entry) (n : ℕ) →
    journal_after setup past (many_steps setup.topology (suc n)) ≡ journal_after setup
    (post setup past) (many_steps setup.topology n)
first_round setup past n =
    journal_after-append setup past (round_steps setup.topology) (many_steps setup.topology n)
    ∙ ap (λ (p : List Entry). journal_after setup p (many_steps setup.topology n))
    (one_post setup past)

pub rounds_post : (setup : Setup) (past : List Entry) (n : ℕ) →
    journal_after setup past (many_steps setup.topology n) ≡ turns setup past n
unfolding journal_after
rounds_post setup past zero = refl
rounds_post setup past (suc n) =
    first_round setup past n ∙ rounds_post setup (post setup past) n ∙ turns_shift setup past n

-- what n rounds after a journal are
pub record RoundsFit (setup : Setup) (past : List Entry) (n : ℕ) (rest : List Step) : Type 0 where
  pub ready : Ready setup past (many_steps setup.topology n) rest
  pub fine : IsFine setup (journal_after setup past (many_steps setup.topology n))
  pub given : given_count 0 (journal_after setup past (many_steps setup.topology n)) ≡ given_count 0
      past

between : (a b c : ℕ) → a ≤ b → b ≤ c → c ≡ a → (b ≡ a) × (c ≡ b)
between a b c x y e = (omega arith, omega arith)

first_fits : (setup : Setup) (past : List Entry) (n : ℕ) (rest : List Step) →
    RoundsFit setup past (suc n) rest → RoundFits setup past (many_steps setup.topology n ++ rest)
    × RoundsFit setup (post setup past) n rest
first_fits setup past n rest fits =
    let t = setup.topology in
    let R = round_steps t in
    let more = many_steps t n in
    let ends = first_round setup past n in
    let fine : IsFine setup (journal_after setup (post setup past) more) =
    subst (IsFine setup) ends fits.fine in
    let fine_post : IsFine setup (post setup past) =
    fine_earlier setup (post setup past) more fine in
    let given : given_count 0 (journal_after setup (post setup past) more) ≡ given_count 0 past =
    sym (ap (given_count 0) ends) ∙ fits.given in
    let least : given_count 0 past ≤ given_count 0 (post setup past) =
    subst (λ (p : List Entry). given_count 0 past ≤ given_count 0 p) (one_post setup past)
    (given_later setup 0 past R) in
    let both =
    between (given_count 0 past) (given_count 0 (post setup past))
    (given_count 0 (journal_after setup (post setup past) more)) least
    (given_later setup 0 (post setup past) more) given in
    let ready : Ready setup past R (more ++ rest) =
    record {
      lawful = fits.ready.lawful;
      unpassed = fits.ready.unpassed;
      scheduled = fits.ready.scheduled ∙ append_assoc R more rest;
    } in
    let fine_round : IsFine setup (journal_after setup past R) =
    subst (IsFine setup) (sym (one_post setup past)) fine_post in
    let after : Ready setup (journal_after setup past R) [] (more ++ rest) =
    ready_after setup past R (more ++ rest) ready fine_round in
    let after_post : Ready setup (post setup past) [] (more ++ rest) =
    subst (λ (p : List Entry). Ready setup p [] (more ++ rest)) (one_post setup past) after in (
      record { ready = ready; fine = fine_post; given = both.0 },
      record {
        ready = record {
          lawful = after_post.lawful;
          unpassed = after_post.unpassed;
          scheduled = after_post.scheduled;
        };
        fine = fine;
        given = both.1;
      },
    )

pub nth_fits : (setup : Setup) (past : List Entry) (n : ℕ) (rest : List Step) →
    RoundsFit setup past n rest → (i : ℕ) → i < n → (later : List Step)
    × RoundFits setup (turns setup past i) later
nth_fits setup past zero rest fits i less = absurd (omega (arith, less))
nth_fits setup past (suc n) rest fits zero less =
    (many_steps setup.topology n ++ rest, (first_fits setup past n rest fits).0)
nth_fits setup past (suc n) rest fits (suc i) less =
    let found =
    nth_fits setup (post setup past) n rest (first_fits setup past n rest fits).1 i
    (omega (arith, less)) in (
      found.0,
      subst (λ (p : List Entry). RoundFits setup p found.0) (turns_shift setup past i)
          found.1,
    )

-- ---- the run by numbers

abbrev pub flag : Setup → List Entry → ℕ → Bool
flag setup past zero = true
flag setup past (suc i) = flag_after setup (turns setup past i)

abbrev pub run_of : (setup : Setup) (doings : List LinkEntry → List Doing) → List Entry → ℕ → State
run_of setup doings past i = counted setup.topology doings (turns setup past i) (flag setup past i)

rest_from : (setup : Setup) (doings : List LinkEntry → List Doing) (sc : Scene setup doings) →
    LinkRounds setup doings → (past : List Entry) (n : ℕ) (rest : List Step) →
    RoundsFit setup past n rest → (i : ℕ) → i ≤ n →
    IdleFrom setup (turns setup past i) (flag setup past i)
rest_from setup doings sc links past n rest fits zero less =
    λ off. absurd (let clash : true ≡ false = off in cc)
rest_from setup doings sc links past n rest fits (suc i) less =
    let at = nth_fits setup past n rest fits i (omega (arith, less)) in
    (round_made setup doings sc links (turns setup past i) at.0 (flag setup past i) at.1
    (rest_from setup doings sc links past n rest fits i (omega (arith, less)))).resting

pub rounds_made : (setup : Setup) (doings : List LinkEntry → List Doing) (sc : Scene setup doings) →
    LinkRounds setup doings → (past : List Entry) (n : ℕ) (rest : List Step) →
    RoundsFit setup past n rest →
    Rounds (sizes_by (sizes_on setup.topology 0)) (run_of setup doings past) n
rounds_made setup doings sc links past n rest fits = λ i less.
    (let at = nth_fits setup past n rest fits i less in
    (round_made setup doings sc links (turns setup past i) at.0 (flag setup past i) at.1
    (rest_from setup doings sc links past n rest fits i (omega (arith, less)))).round)

-- ---- the sizes

small_window : (p : Profile) (n : ℕ) → n ≤ window p → n ≤ 1024
small_window profiles.One n h = omega (arith, h)
small_window profiles.Two n h = omega (arith, h)

pub fit : (setup : Setup) (j : Joined setup.topology) → IsNetwork setup →
    IsFit (sizes_on setup.topology 0).profile (sizes_by (sizes_on setup.topology 0))
fit setup j network =
    let is : sizes_on setup.topology 0 ≡ j.link.setup =
    ap (λ (ls : List LinkRow). (slice_index_or ls 0 no_link).setup) j.one_link in
    let sizes : IsLinkSetup j.link.setup =
    All-head (λ (link : LinkRow). IsLinkSetup link.setup) j.link []
    (subst (All (λ (link : LinkRow). IsLinkSetup link.setup)) j.one_link network.sizes) in
    let x : IsLinkSetup (sizes_on setup.topology 0) = subst IsLinkSetup (sym is) sizes in
    record {
      line = (x.some_line, x.line);
      tokens = (x.some_tokens, x.tokens);
      retry = (
        x.some_retry,
        x.retry,
        small_window (sizes_on setup.topology 0).profile (sizes_on setup.topology 0).retry x.retry,
      );
    }

-- ---- the number under way comes down to 0

pub falls : (setup : Setup) (doings : List LinkEntry → List Doing) (sc : Scene setup doings) →
    LinkRounds setup doings → (more : ℕ) (P : Link → Type 0) →
    DrainsAfter (sizes_on setup.topology 0).profile (sizes_by (sizes_on setup.topology 0)) more P
    → (past : List Entry) (n : ℕ) (rest : List Step) → RoundsFit setup past n rest →
    P (link_of setup.topology doings past) → more + 2000 * (under_way setup.topology past + 1) ≤ n →
    under_way setup.topology (turns setup past n) ≡ 0
falls setup doings sc links more P drains past n rest fits holds many =
    let t = setup.topology in
    let begin : drain.under_way (counted t doings past true) ≡ under_way t past =
    under_ways setup doings sc past fits.ready.lawful true in
    let fine_end : IsFine setup (turns setup past n) =
    subst (IsFine setup) (rounds_post setup past n) fits.fine in
    let enough : more + 2000 * (drain.under_way (counted t doings past true) + 1) ≤ n =
    subst (λ (k : ℕ). more + 2000 * (k + 1) ≤ n) (sym begin) many in
    sym (under_ways setup doings sc (turns setup past n) fine_end.lawful (flag setup past n))
    ∙ drains (fit setup sc.joined sc.network) (doings (entries_on t 0 past))
    (sc.part.may (entries_on t 0 past)
    (kept_entries setup past sc.network sc.joined fits.ready.lawful)) holds
    (run_of setup doings past) n
    (rounds_made setup doings sc links past n rest fits) refl refl enough
