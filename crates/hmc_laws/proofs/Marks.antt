-- Which of the packets that were begun on a direction came from its output queue.
use Rattle.std.proofs.Common.{◌≡◌, ◌∙◌, ◌/◌, ◌==◌, ◌&&◌, ℕ, zero, suc, Bool, true, false, List, [], ◌∷◌, ◌++◌, Option, Some, None, refl, sym, ap, subst, eqb-true, eq-eqb, arith}
use Rattle.std.specs.Prelude.{if◌then◌else◌, is_none, is_some}
use Rattle.hmc_packet.specs.declared.what.What.{What}
use Rattle.hmc_packet.specs.declared.what.What.TheVariants as what
use Rattle.hmc_packet.specs.Parts.{lng_of}
use Rattle.hmc_send.specs.Entries.{SenderEntry, Given, Part, unfinished}
use Rattle.hmc_send.specs.LinkEntries.{LinkEntry, push_if}
use Rattle.hmc_send.specs.LinkSenders.{sender_entries}
use Rattle.hmc_send.proofs.LinkProjections.{sender-through}
use Rattle.hmc_wire.specs.LinkLaws.{IsKept}
use Rattle.hmc_journal.specs.Choice.{append_if}
use Rattle.hmc_entries.specs.declared.entry.Entry.{Entry}
use Rattle.hmc_entries.specs.declared.entry.Entry.TheVariants.{Sent, Through}
use Rattle.hmc_journal.specs.Setup.{Topology}
use Rattle.hmc_journal.specs.Carried.{begun_here}
use Rattle.hmc_journal.specs.Directions.{unsent, awaits_first}
use Rattle.hmc_journal.specs.Queues.{begins}
use Rattle.hmc_journal.specs.Links.{toward, link_entries, sizes_on, entries_on}
use Rattle.hmc_laws.proofs.LinkHanded.{IsSentAs, new_left, own_marks}
use Rattle.hmc_laws.proofs.KeptPast.{kept_past}
use Rattle.hmc_journal.proofs.Projections.{came_at}
use Rattle.hmc_laws.proofs.NoSends.{IsOfSends, IsNoSend, IsSome, of_sends, no-send, by_sending, sent-elsewhere, through-elsewhere, through-here}
use Rattle.hmc_laws.proofs.UnsentFlits.{waits, left_begun, UnsentIs, SendFacts, new_left-some, is_sending, AreGathered, gathered_past, unsent_is}

pub of_sends-marks : IsOfSends own_marks
unfolding own_marks
of_sends-marks = record { acknowledged = λ past n. refl; ran = λ past. refl }

abbrev marks_on : Topology → ℕ → List LinkEntry → List Bool
marks_on topology d past = of_sends own_marks topology d past

-- a flit begins a packet of the queue exactly where none is under way
begins_new : (d : ℕ) (waiting : Bool) (n : ℕ) (u : Option Part) (given : Given) (flit : List ℕ) → n ≡ left_begun u → waiting ≡ waits u → IsSentAs what.New u given → SendFacts what.New flit u → is_some (begins waiting n d) ≡ is_none u
begins_new d true n None given flit left awaits sends facts = absurd (let clash : true ≡ false = awaits in cc)
begins_new d true n (Some part) given flit left awaits sends facts = refl
begins_new d false zero None given flit left awaits sends facts = refl
begins_new d false (suc n) None given flit left awaits sends facts = absurd (omega arith)
begins_new d false zero (Some part) given flit left awaits sends facts =
    let more = facts.more part refl in
    let now = new_left-some part sends in
    let same : left_begun (Some part) ≡ new_left (Some part) = ap (λ (b : Bool). if b then 0 else new_left (Some part)) (sym awaits) in absurd (omega arith)
begins_new d false (suc n) (Some part) given flit left awaits sends facts = refl

-- the marks after a send
marks_after : (d : ℕ) (as_what : What) (flit : List ℕ) (past : List Entry) (T : List SenderEntry) (given : Given) → UnsentIs d past (unfinished T) → IsSentAs as_what (unfinished T) given → SendFacts as_what flit (unfinished T)
    → begun_here d past ≡ own_marks T → begun_here d (Sent d as_what flit ∷ past) ≡ own_marks (SenderEntry.sent given as_what flit ∷ T)
unfolding begun_here own_marks
marks_after d what.New flit past T given unsent_now sends facts is =
    let here : (d == d) ≡ true = eq-eqb d d refl in
    ap (λ (b : Bool). append_if (b && is_some (begins (awaits_first d past) (unsent d past) d)) (true ∷ []) (begun_here d past)) here
    ∙ ap (λ (b : Bool). append_if b (true ∷ []) (begun_here d past)) (begins_new d (awaits_first d past) (unsent d past) (unfinished T) given flit unsent_now.left unsent_now.awaits sends facts)
    ∙ ap (append_if (is_none (unfinished T)) (true ∷ [])) is ∙ same_push (is_none (unfinished T)) (own_marks T)
  where
    same_push : (b : Bool) (marks : List Bool) → append_if b (true ∷ []) marks ≡ push_if b true marks
    same_push true marks = refl
    same_push false marks = refl
marks_after d what.Tret flit past T given unsent_now sends facts is =
    ap (λ (b : Bool). append_if b (true ∷ []) (begun_here d past)) (eq-eqb d d refl) ∙ ap (λ (m : List Bool). m ++ true ∷ []) is
marks_after d what.Again flit past T given unsent_now sends facts is = is
marks_after d what.Train flit past T given unsent_now sends facts is = is
marks_after d what.Clear flit past T given unsent_now sends facts is = is
marks_after d what.Start flit past T given unsent_now sends facts is = is
marks_after d what.Null flit past T given unsent_now sends facts is = is
marks_after d what.Pret flit past T given unsent_now sends facts is = is

marks_off : (d direction : ℕ) (as_what : What) (flit : List ℕ) (past : List Entry) → (direction == d) ≡ false → begun_here d (Sent direction as_what flit ∷ past) ≡ begun_here d past
unfolding begun_here
marks_off d direction what.New flit past off = ap (λ (b : Bool). append_if (b && is_some (begins (awaits_first d past) (unsent d past) d)) (true ∷ []) (begun_here d past)) off
marks_off d direction what.Tret flit past off = ap (λ (b : Bool). append_if b (true ∷ []) (begun_here d past)) off
marks_off d direction what.Again flit past off = refl
marks_off d direction what.Train flit past off = refl
marks_off d direction what.Clear flit past off = refl
marks_off d direction what.Start flit past off = refl
marks_off d direction what.Null flit past off = refl
marks_off d direction what.Pret flit past off = refl

sent_marks : (topology : Topology) (d direction : ℕ) (as_what : What) (flit : List ℕ) (past : List Entry) (here : Bool) → (direction == d) ≡ here → AreGathered topology past → IsKept (sizes_on topology d) (entries_on topology d (Sent direction as_what flit ∷ past))
    → begun_here d past ≡ marks_on topology d (entries_on topology d past) → begun_here d (Sent direction as_what flit ∷ past) ≡ marks_on topology d (entries_on topology d (Sent direction as_what flit ∷ past))
sent_marks topology d direction as_what flit past true here gathered kept is =
    let one : direction ≡ d = eqb-true direction d here in
    subst (λ (e : ℕ). begun_here d (Sent e as_what flit ∷ past) ≡ marks_on topology d (entries_on topology d (Sent e as_what flit ∷ past))) (sym one)
    (here_now (subst (λ (e : ℕ). IsKept (sizes_on topology d) (entries_on topology d (Sent e as_what flit ∷ past))) one kept))
  where
    here_now : IsKept (sizes_on topology d) (entries_on topology d (Sent d as_what flit ∷ past)) → begun_here d (Sent d as_what flit ∷ past) ≡ marks_on topology d (entries_on topology d (Sent d as_what flit ∷ past))
    here_now now =
        let sending = is_sending topology d as_what flit past now in
        let before = kept_past (sizes_on topology d) topology (d / 2) (Sent d as_what flit) past now in
        let T = sender_entries (sizes_on topology d) (toward d) (entries_on topology d past) in
        marks_after d as_what flit past T sending.given (unsent_is topology d past gathered before) sending.sent sending.facts is ∙ sym (ap own_marks sending.after)
sent_marks topology d direction as_what flit past false here gathered kept is = marks_off d direction as_what flit past here ∙ is ∙ sym (sent-elsewhere own_marks topology d direction as_what flit past here)

through_marks : (head : List ℕ) (flits due : ℕ) (T : List SenderEntry) → own_marks (SenderEntry.through head flits due ∷ T) ≡ own_marks T ++ false ∷ []
unfolding own_marks
through_marks head flits due T = refl

begun_here-through : (d cube port direction : ℕ) (past : List Entry) → begun_here d (Through cube port direction ∷ past) ≡ append_if (direction == d) (false ∷ []) (begun_here d past)
unfolding begun_here
begun_here-through d cube port direction past = refl

forwarded_marks : (topology : Topology) (d cube port direction : ℕ) (past : List Entry) (here : Bool) → (direction == d) ≡ here → IsSome (came_at topology cube port past)
    → begun_here d past ≡ marks_on topology d (entries_on topology d past) → begun_here d (Through cube port direction ∷ past) ≡ marks_on topology d (entries_on topology d (Through cube port direction ∷ past))
forwarded_marks topology d cube port direction past false here some is =
    begun_here-through d cube port direction past ∙ ap (λ (b : Bool). append_if b (false ∷ []) (begun_here d past)) here ∙ is ∙ sym (through-elsewhere own_marks topology d cube port direction past here)
forwarded_marks topology d cube port direction past true here some is =
    let one : direction ≡ d = eqb-true direction d here in
    begun_here-through d cube port direction past ∙ ap (λ (b : Bool). append_if b (false ∷ []) (begun_here d past)) here ∙ ap (λ (m : List Bool). m ++ false ∷ []) is
    ∙ sym (ap (λ (e : ℕ). marks_on topology d (entries_on topology d (Through cube port e ∷ past))) one ∙ by_came (came_at topology cube port past) refl some)
  where
    by_came : (came : List (List ℕ)) → came_at topology cube port past ≡ came → IsSome came → marks_on topology d (entries_on topology d (Through cube port d ∷ past)) ≡ marks_on topology d (entries_on topology d past) ++ false ∷ []
    by_came [] at there = absurd there
    by_came (head ∷ rest) at there =
        ap (λ l. own_marks (sender_entries (sizes_on topology d) (toward d) l)) (through-here topology d cube port head rest past at)
        ∙ ap own_marks (sender-through (sizes_on topology d) (toward d) head (lng_of head) (entries_on topology d past)) ∙ through_marks head (lng_of head) _ _

begun_here-same : (d : ℕ) (entry : Entry) (past : List Entry) → IsNoSend entry → begun_here d (entry ∷ past) ≡ begun_here d past
unfolding begun_here
begun_here-same d (Sent direction what flit) past quiet = absurd quiet
begun_here-same d (Through cube port direction) past quiet = absurd quiet
begun_here-same d _ past quiet = refl

quiet_marks : (topology : Topology) (d : ℕ) (entry : Entry) (past : List Entry) → IsNoSend entry → begun_here d past ≡ marks_on topology d (entries_on topology d past) → begun_here d (entry ∷ past) ≡ marks_on topology d (entries_on topology d (entry ∷ past))
quiet_marks topology d entry past quiet is = begun_here-same d entry past quiet ∙ is ∙ sym (no-send own_marks of_sends-marks topology d entry past quiet)

marks-step : (topology : Topology) (d : ℕ) (entry : Entry) (past : List Entry) → AreGathered topology (entry ∷ past) → IsKept (sizes_on topology d) (entries_on topology d (entry ∷ past)) → begun_here d past ≡ marks_on topology d (entries_on topology d past)
    → begun_here d (entry ∷ past) ≡ marks_on topology d (entries_on topology d (entry ∷ past))
marks-step topology d entry past gathered kept is =
    by_sending (λ (e : Entry). AreGathered topology (e ∷ past) → IsKept (sizes_on topology d) (entries_on topology d (e ∷ past)) → begun_here d (e ∷ past) ≡ marks_on topology d (entries_on topology d (e ∷ past)))
    (λ direction as_what flit gathers keeps. sent_marks topology d direction as_what flit past (direction == d) refl gathers keeps is)
    (λ cube port direction gathers keeps. forwarded_marks topology d cube port direction past (direction == d) refl gathers.0 is)
    (λ e quiet gathers keeps. quiet_marks topology d e past quiet is)
    entry gathered kept

-- they are those of the sender
pub marks_are : (topology : Topology) (d : ℕ) (past : List Entry) → AreGathered topology past → IsKept (sizes_on topology d) (entries_on topology d past) → begun_here d past ≡ marks_on topology d (entries_on topology d past)
unfolding begun_here link_entries sender_entries own_marks
marks_are topology d [] gathered kept = refl
marks_are topology d (entry ∷ past) gathered kept =
    marks-step topology d entry past gathered kept (marks_are topology d past (gathered_past topology entry past gathered) (kept_past (sizes_on topology d) topology (d / 2) entry past kept))
