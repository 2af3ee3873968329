-- The drain bound.
use Rattle.std.proofs.Common.{◌≡◌, ℕ, ◌∙◌, ◌≤◌, List, [], ◌∷◌, length, sym, ap, ap₂, subst}
use Rattle.hmc_codes.specs.Flit.{zero_flit}
use Rattle.hmc_schedule.specs.declared.step.Step.TheVariants as steps
use Rattle.hmc_send.specs.declared.toward.Toward.{Toward}
use Rattle.hmc_send.specs.declared.toward.Toward.TheVariants.{Forth, Back}
use Rattle.hmc_numbers.specs.Direction.{Item}
use Rattle.hmc_numbers.specs.Events.{Reading}
use Rattle.hmc_link_state.specs.Round.{sent, landed_other}
use Rattle.hmc_link_state.specs.State.{Side, State, wire}
use Rattle.hmc_link_state.specs.Steps.{Link}
use Rattle.hmc_link_state.proofs.Lines.{sent_fits, lands_other}
use Rattle.hmc_steps.specs.SideIn.{setup_of}
use Rattle.hmc_entries.specs.declared.entry.Entry.{Entry}
use Rattle.hmc_journal.specs.Links.{sizes_on, entries_on}
use Rattle.hmc_journal.specs.Network.{IsNetwork}
use Rattle.hmc_journal.specs.Next.{next}
use Rattle.hmc_journal.specs.Setup.{Setup}
use Rattle.hmc_rounds.specs.LinkPart.{LinkRounds, link_of, requests_of}
use Rattle.hmc_rounds.specs.Rounds.{journal_after, link_steps}
use Rattle.hmc_rounds.proofs.Assembly.{fit}
use Rattle.hmc_rounds.proofs.Final.{drains_over}
use Rattle.hmc_rounds.proofs.Journals.{IsFine, fine_earlier}
use Rattle.hmc_rounds.proofs.Single.{Joined, joined}
use Rattle.hmc_bound.specs.Bound.{Drains}
use Rattle.hmc_bound.specs.Regular.{regulars, doings_for}
use Rattle.hmc_bound.proofs.OneRound.{LinkRound, FourSteps, in-order, other-order}
use Rattle.hmc_bound.proofs.Part.{swapped, turn-after, link_part}
use Rattle.hmc_bound.proofs.Steps.{link_at, both, send-forth, send-back, lands-forth, lands-back}

-- a landing of the other direction leaves a line
long_after : (x y y' : Side) (look : Reading) → y' ≡ landed_other x y look →
    1 ≤ length (wire y).line → 1 ≤ length (wire y').line
long_after x y y' look is some =
    subst (λ (z : Side). 1 ≤ length (wire z).line) (sym is)
    (subst (λ (n : ℕ). 1 ≤ n) (sym (ap (λ (l : List Item). length l) (lands_other x y look)))
    some)

-- the four steps of a journal, the first direction's first
four : (setup : Setup) → IsNetwork setup → Joined setup.topology → (past : List Entry) →
    IsFine setup (journal_after setup past link_steps) →
    FourSteps (setup_of (sizes_on setup.topology 0)) (link_at setup.topology past).forth
    (link_at setup.topology past).back
    (link_at setup.topology (journal_after setup past link_steps)).forth
    (link_at setup.topology (journal_after setup past link_steps)).back
unfolding journal_after
four setup network j past fine =
    let t = setup.topology in
    let c = setup_of (sizes_on t 0) in
    let one : List Entry = next setup past (steps.Send 0) ∷ past in
    let two : List Entry = next setup one (steps.Send 1) ∷ one in
    let three : List Entry = next setup two (steps.Land 0 zero_flit) ∷ two in
    let f3 : IsFine setup three = fine_earlier setup three (steps.Land 1 zero_flit ∷ []) fine in
    let f2 : IsFine setup two = fine_earlier setup two (steps.Land 0 zero_flit ∷ []) f3 in
    let f1 : IsFine setup one = fine_earlier setup one (steps.Send 1 ∷ []) f2 in
    let f0 : IsFine setup past = fine_earlier setup past (steps.Send 0 ∷ []) f1 in
    let l0 = link_at t past in
    let l1 = link_at t one in
    let l2 = link_at t two in
    let l3 = link_at t three in
    let some = (fit setup j network).line.0 in
    let sf = send-forth setup past network j f0.lawful in
    let sb = send-back setup one network j f1.lawful in
    let forth_is : l2.forth ≡ sent c l0.forth l0.back = sb.other_is ∙ sf.own in
    let lf = lands-forth setup two network j f2.lawful f3.lawful f3.unpassed
    (subst (λ (x : Side). 1 ≤ length (wire x).line) (sym forth_is)
    (sent_fits c l0.forth l0.back (both setup network j past f0.lawful).0.short some).1) in
    let long_back : 1 ≤ length (wire l2.back).line =
    subst (λ (x : Side). 1 ≤ length (wire x).line) (sym sb.own)
    (sent_fits c l1.back l1.forth (both setup network j one f1.lawful).1.short some).1 in
    let lb =
    lands-back setup three network j f3.lawful fine.lawful fine.unpassed
    (long_after l2.forth l2.back l3.back lf.0 lf.1.other_is long_back) in
    record {
      f1 = l2.forth;
      b2 = l2.back;
      f3 = l3.forth;
      b3 = l3.back;
      first = lf.0;
      second = lb.0;
      sent_forth = forth_is;
      sent_back = sb.own ∙ ap₂ (λ (x y : Side). sent c x y) sf.other_is (sym sb.other_is);
      land_forth = lf.1;
      land_back = lb.1;
    }

round_for : (setup : Setup) → IsNetwork setup → Joined setup.topology →
    (requests : Toward) (past : List Entry) (s : State) →
    IsFine setup (journal_after setup past link_steps) →
    s.forth ≡ (link_of setup.topology (doings_for requests (sizes_on setup.topology 0))
    past).forth →
    s.back ≡ (link_of setup.topology (doings_for requests (sizes_on setup.topology 0)) past).back →
    LinkRound (setup_of (sizes_on setup.topology 0)) s
    (link_of setup.topology (doings_for requests (sizes_on setup.topology 0))
    (journal_after setup past link_steps)).forth
    (link_of setup.topology (doings_for requests (sizes_on setup.topology 0))
    (journal_after setup past link_steps)).back
round_for setup network j Forth past s fine f b =
    let c = setup_of (sizes_on setup.topology 0) in
    let k = link_at setup.topology (journal_after setup past link_steps) in
    in-order c s k.forth k.back
    (subst (λ (x : Side). FourSteps c x s.back k.forth k.back) (sym f)
    (subst (λ (y : Side). FourSteps c (link_at setup.topology past).forth y k.forth k.back) (sym b)
    (four setup network j past fine)))
round_for setup network j Back past s fine f b =
    let t = setup.topology in
    let link = sizes_on t 0 in
    let c = setup_of link in
    let l = link_at t past in
    let k = link_at t (journal_after setup past link_steps) in
    let sides = both setup network j past (fine_earlier setup past link_steps fine).lawful in
    let other : FourSteps c l.back l.forth k.back k.forth =
    other-order c l.forth l.back k.forth k.back sides.0.joined.order.accepted
    sides.1.joined.order.accepted (four setup network j past fine) in
    let f_is : s.forth ≡ l.back =
    f ∙ ap (λ (x : Link). x.forth) (turn-after c (regulars link (entries_on t 0 past))) in
    let b_is : s.back ≡ l.forth =
    b ∙ ap (λ (x : Link). x.back) (turn-after c (regulars link (entries_on t 0 past))) in
    let made : LinkRound c s k.back k.forth =
    in-order c s k.back k.forth
    (subst (λ (x : Side). FourSteps c x s.back k.back k.forth) (sym f_is)
    (subst (λ (y : Side). FourSteps c l.back y k.back k.forth) (sym b_is) other)) in
    let ends : Link = link_of t (doings_for Back link) (journal_after setup past link_steps) in
    let end_is : swapped k ≡ ends =
    sym (turn-after c (regulars link (entries_on t 0 (journal_after setup past link_steps)))) in
    subst (λ (x : Link). LinkRound c s x.forth x.back) end_is made

link_rounds : (setup : Setup) → IsNetwork setup → Joined setup.topology → (requests : Toward) →
    LinkRounds setup (doings_for requests (sizes_on setup.topology 0))
link_rounds setup network j requests = record {
  round = λ past rest s lawful scheduled after off f b.
      (let made = round_for setup network j requests past s
      (record { lawful = after; unpassed = off }) f b in
      (made.first, made.second, made.reads_first, made.reads_second, made.forth, made.back));
}

pub drains : (setup : Setup) → Drains setup
drains setup network single =
    let link = sizes_on setup.topology 0 in
    let way = requests_of setup.topology in
    drains_over setup (doings_for way link) network single (link_part way link)
    (link_rounds setup network (joined setup network single) way)
