-- The packets that left an output queue are those that its link's sender began.
use Rattle.std.proofs.Common.{◌≡◌, ◌∙◌, ◌+◌, ◌/◌, ◌==◌, ℕ, zero, suc, Bool, true, false, if◌then◌else◌, List, [], ◌∷◌, Option, Some, None, refl, sym, ap, ap₂, subst, arith, eqb-true, eq-eqb, zero-add}
use Rattle.std.specs.Prelude.{is_none}
use Rattle.hmc_codes.specs.declared.unit.Unit.TheVariants as units
use Rattle.hmc_packet.specs.declared.what.What.{What}
use Rattle.hmc_packet.specs.declared.what.What.TheVariants as what
use Rattle.hmc_packet.specs.Parts.{lng_of}
use Rattle.hmc_send.specs.Entries.{SenderEntry, Given, Part, unfinished, taken_fronts}
use Rattle.hmc_send.specs.LinkEntries.{LinkEntry}
use Rattle.hmc_send.specs.LinkSenders.{sender_entries}
use Rattle.hmc_send.proofs.LinkProjections.{sender-through}
use Rattle.hmc_wire.specs.LinkLaws.{IsKept}
use Rattle.hmc_entries.specs.declared.entry.Entry.{Entry}
use Rattle.hmc_entries.specs.declared.entry.Entry.TheVariants.{Sent, Executed, Through}
use Rattle.hmc_journal.specs.Setup.{Topology}
use Rattle.hmc_journal.specs.Directions.{unsent, awaits_first}
use Rattle.hmc_journal.specs.Queues.{begins, is_at, leaves, one_if, left}
use Rattle.hmc_journal.specs.Queues.QueueId.{Output}
use Rattle.hmc_journal.specs.Links.{toward, link_entries, sizes_on, entries_on}
use Rattle.hmc_laws.proofs.LinkHanded.{IsSentAs, new_left}
use Rattle.hmc_laws.proofs.KeptPast.{kept_past}
use Rattle.hmc_laws.proofs.NoSends.{IsOfSends, IsNoSend, IsSome, of_sends, no-send, by_sending, sent-elsewhere, through-elsewhere, through-here}
use Rattle.hmc_journal.proofs.Projections.{came_at}
use Rattle.hmc_laws.proofs.UnsentFlits.{waits, left_begun, UnsentIs, SendFacts, new_left-some, is_sending, AreGathered, gathered_past, unsent_is}

of_sends-fronts : IsOfSends taken_fronts
unfolding taken_fronts
of_sends-fronts = record { acknowledged = λ past n. refl; ran = λ past. refl }

abbrev fronts_on : Topology → ℕ → List LinkEntry → ℕ
fronts_on topology d past = of_sends taken_fronts topology d past

-- whether a flit begins a packet of the queue
begins_one : What → Option Part → ℕ
begins_one what.New u = if is_none u then 1 else 0
begins_one _ u = 0

begins_here : (d : ℕ) (waiting : Bool) (n : ℕ) (u : Option Part) (given : Given) (flit : List ℕ) → n ≡ left_begun u → waiting ≡ waits u → IsSentAs what.New u given → SendFacts what.New flit u
    → one_if (is_at (begins waiting n d) (Output d)) ≡ (if is_none u then 1 else 0)
begins_here d true n None given flit left awaits sends facts = absurd (let clash : true ≡ false = awaits in cc)
begins_here d true n (Some part) given flit left awaits sends facts = refl
begins_here d false zero None given flit left awaits sends facts = ap one_if (eq-eqb d d refl)
begins_here d false (suc n) None given flit left awaits sends facts = absurd (omega arith)
begins_here d false zero (Some part) given flit left awaits sends facts =
    let more = facts.more part refl in
    let now = new_left-some part sends in
    let same : left_begun (Some part) ≡ new_left (Some part) = ap (λ (b : Bool). if b then 0 else new_left (Some part)) (sym awaits) in absurd (omega arith)
begins_here d false (suc n) (Some part) given flit left awaits sends facts = refl

begins_off_here : (d direction : ℕ) (waiting : Bool) (n : ℕ) → (direction == d) ≡ false → is_at (begins waiting n direction) (Output d) ≡ false
begins_off_here d direction true n off = refl
begins_off_here d direction false zero off = off
begins_off_here d direction false (suc n) off = refl

fronts_after : (as_what : What) (T : List SenderEntry) (given : Given) (flit : List ℕ) → taken_fronts (SenderEntry.sent given as_what flit ∷ T) ≡ begins_one as_what (unfinished T) + taken_fronts T
unfolding taken_fronts begins_one
fronts_after what.New T given flit = refl
fronts_after what.Again T given flit = sym (zero-add (taken_fronts T))
fronts_after what.Train T given flit = sym (zero-add (taken_fronts T))
fronts_after what.Clear T given flit = sym (zero-add (taken_fronts T))
fronts_after what.Start T given flit = sym (zero-add (taken_fronts T))
fronts_after what.Null T given flit = sym (zero-add (taken_fronts T))
fronts_after what.Pret T given flit = sym (zero-add (taken_fronts T))
fronts_after what.Tret T given flit = sym (zero-add (taken_fronts T))

leaves_here : (d : ℕ) (as_what : What) (flit : List ℕ) (past : List Entry) (u : Option Part) (given : Given) → UnsentIs d past u → IsSentAs as_what u given → SendFacts as_what flit u
    → one_if (is_at (leaves past (Sent d as_what flit)) (Output d)) ≡ begins_one as_what u
unfolding leaves begins_one
leaves_here d what.New flit past u given is sends facts = begins_here d (awaits_first d past) (unsent d past) u given flit is.left is.awaits sends facts
leaves_here d what.Again flit past u given is sends facts = refl
leaves_here d what.Train flit past u given is sends facts = refl
leaves_here d what.Clear flit past u given is sends facts = refl
leaves_here d what.Start flit past u given is sends facts = refl
leaves_here d what.Null flit past u given is sends facts = refl
leaves_here d what.Pret flit past u given is sends facts = refl
leaves_here d what.Tret flit past u given is sends facts = refl

leaves_off : (d direction : ℕ) (as_what : What) (flit : List ℕ) (past : List Entry) → (direction == d) ≡ false → is_at (leaves past (Sent direction as_what flit)) (Output d) ≡ false
unfolding leaves
leaves_off d direction what.New flit past off = begins_off_here d direction (awaits_first direction past) (unsent direction past) off
leaves_off d direction what.Again flit past off = refl
leaves_off d direction what.Train flit past off = refl
leaves_off d direction what.Clear flit past off = refl
leaves_off d direction what.Start flit past off = refl
leaves_off d direction what.Null flit past off = refl
leaves_off d direction what.Pret flit past off = refl
leaves_off d direction what.Tret flit past off = refl

begun-here : (topology : Topology) (d : ℕ) (as_what : What) (flit : List ℕ) (past : List Entry) → AreGathered topology past → IsKept (sizes_on topology d) (entries_on topology d (Sent d as_what flit ∷ past)) → left past (Output d) ≡ fronts_on topology d (entries_on topology d past)
    → one_if (is_at (leaves past (Sent d as_what flit)) (Output d)) + left past (Output d) ≡ fronts_on topology d (entries_on topology d (Sent d as_what flit ∷ past))
begun-here topology d as_what flit past gathered kept is =
    let sending = is_sending topology d as_what flit past kept in
    let before = kept_past (sizes_on topology d) topology (d / 2) (Sent d as_what flit) past kept in
    let T = sender_entries (sizes_on topology d) (toward d) (entries_on topology d past) in
    ap₂ (λ n m. n + m)
    (leaves_here d as_what flit past (unfinished T) sending.given (unsent_is topology d past gathered before) sending.sent sending.facts) is
    ∙ sym (ap taken_fronts sending.after ∙ fronts_after as_what T sending.given flit)

sent-begun : (topology : Topology) (d direction : ℕ) (as_what : What) (flit : List ℕ) (past : List Entry) (here : Bool) → (direction == d) ≡ here → AreGathered topology past → IsKept (sizes_on topology d) (entries_on topology d (Sent direction as_what flit ∷ past))
    → left past (Output d) ≡ fronts_on topology d (entries_on topology d past)
    → one_if (is_at (leaves past (Sent direction as_what flit)) (Output d)) + left past (Output d) ≡ fronts_on topology d (entries_on topology d (Sent direction as_what flit ∷ past))
sent-begun topology d direction as_what flit past true here gathered kept is =
    let one : direction ≡ d = eqb-true direction d here in
    ap (λ (e : ℕ). one_if (is_at (leaves past (Sent e as_what flit)) (Output d)) + left past (Output d)) one
    ∙ begun-here topology d as_what flit past gathered (subst (λ (e : ℕ). IsKept (sizes_on topology d) (entries_on topology d (Sent e as_what flit ∷ past))) one kept) is
    ∙ ap (λ (e : ℕ). fronts_on topology d (entries_on topology d (Sent e as_what flit ∷ past))) (sym one)
sent-begun topology d direction as_what flit past false here gathered kept is =
    ap (λ (b : Bool). one_if b + left past (Output d)) (leaves_off d direction as_what flit past here) ∙ zero-add (left past (Output d)) ∙ is
    ∙ sym (sent-elsewhere taken_fronts topology d direction as_what flit past here)

left_same : (d : ℕ) (entry : Entry) (past : List Entry) → IsNoSend entry → left (entry ∷ past) (Output d) ≡ left past (Output d)
unfolding left leaves
left_same d (Sent direction what flit) past quiet = absurd quiet
left_same d (Executed (units.Bank cube vault bank) host tag request answer) past quiet = zero-add _
left_same d (Executed (units.Registers cube) host tag request answer) past quiet = zero-add _
left_same d _ past quiet = zero-add _

quiet_begun : (topology : Topology) (d : ℕ) (entry : Entry) (past : List Entry) → IsNoSend entry → left past (Output d) ≡ fronts_on topology d (entries_on topology d past) → left (entry ∷ past) (Output d) ≡ fronts_on topology d (entries_on topology d (entry ∷ past))
quiet_begun topology d entry past quiet is = left_same d entry past quiet ∙ is ∙ sym (no-send taken_fronts of_sends-fronts topology d entry past quiet)

-- a cut-through takes no front
fronts_through : (head : List ℕ) (flits due : ℕ) (T : List SenderEntry) → taken_fronts (SenderEntry.through head flits due ∷ T) ≡ taken_fronts T
unfolding taken_fronts
fronts_through head flits due T = refl

left_through : (d cube port direction : ℕ) (past : List Entry) → left (Through cube port direction ∷ past) (Output d) ≡ left past (Output d)
unfolding left leaves
left_through d cube port direction past = zero-add _

through_begun : (topology : Topology) (d cube port direction : ℕ) (past : List Entry) (here : Bool) → (direction == d) ≡ here → IsSome (came_at topology cube port past)
    → fronts_on topology d (entries_on topology d (Through cube port direction ∷ past)) ≡ fronts_on topology d (entries_on topology d past)
through_begun topology d cube port direction past false here some = through-elsewhere taken_fronts topology d cube port direction past here
through_begun topology d cube port direction past true here some =
    let one : direction ≡ d = eqb-true direction d here in
    ap (λ (e : ℕ). fronts_on topology d (entries_on topology d (Through cube port e ∷ past))) one ∙ by_came (came_at topology cube port past) refl some
  where
    by_came : (came : List (List ℕ)) → came_at topology cube port past ≡ came → IsSome came → fronts_on topology d (entries_on topology d (Through cube port d ∷ past)) ≡ fronts_on topology d (entries_on topology d past)
    by_came [] at there = absurd there
    by_came (head ∷ rest) at there =
        ap (λ l. taken_fronts (sender_entries (sizes_on topology d) (toward d) l)) (through-here topology d cube port head rest past at)
        ∙ ap taken_fronts (sender-through (sizes_on topology d) (toward d) head (lng_of head) (entries_on topology d past)) ∙ fronts_through head (lng_of head) _ _

begun-step : (topology : Topology) (d : ℕ) (entry : Entry) (past : List Entry) → AreGathered topology (entry ∷ past) → IsKept (sizes_on topology d) (entries_on topology d (entry ∷ past)) → left past (Output d) ≡ fronts_on topology d (entries_on topology d past)
    → left (entry ∷ past) (Output d) ≡ fronts_on topology d (entries_on topology d (entry ∷ past))
unfolding left
begun-step topology d entry past gathered kept is =
    by_sending (λ (e : Entry). AreGathered topology (e ∷ past) → IsKept (sizes_on topology d) (entries_on topology d (e ∷ past)) → left (e ∷ past) (Output d) ≡ fronts_on topology d (entries_on topology d (e ∷ past)))
    (λ direction as_what flit gathers keeps. sent-begun topology d direction as_what flit past (direction == d) refl gathers keeps is)
    (λ cube port direction gathers keeps. left_through d cube port direction past ∙ is ∙ sym (through_begun topology d cube port direction past (direction == d) refl gathers.0))
    (λ e quiet gathers keeps. quiet_begun topology d e past quiet is)
    entry gathered kept

pub begun_are : (topology : Topology) (d : ℕ) (past : List Entry) → AreGathered topology past → IsKept (sizes_on topology d) (entries_on topology d past) → left past (Output d) ≡ fronts_on topology d (entries_on topology d past)
unfolding left link_entries sender_entries taken_fronts
begun_are topology d [] gathered kept = refl
begun_are topology d (entry ∷ past) gathered kept =
    begun-step topology d entry past gathered kept (begun_are topology d past (gathered_past topology entry past gathered) (kept_past (sizes_on topology d) topology (d / 2) entry past kept))
