-- The flits of a packet that a journal counts as unsent are those that its link's sender has left.
use Rattle.std.proofs.Common.{◌≡◌, ◌≤◌, ◌∙◌, ◌<◌, ◌-◌, ◌/◌, ◌==◌, ℕ, zero, suc, Bool, true, false, if◌then◌else◌, List, [], ◌∷◌, ◌++◌, Option, Some, None, length, refl, sym, ap, subst, arith, eqb-true, eq-eqb, ne_eqb, length-append}
use Rattle.hmc_codes.specs.Link.{LinkFields}
use Rattle.hmc_packet.specs.declared.feed.Feed.{Feed}
use Rattle.hmc_packet.specs.declared.what.What.{What}
use Rattle.hmc_packet.specs.declared.what.What.TheVariants as what
use Rattle.hmc_packet.specs.Parts.{lng_of}
use Rattle.hmc_send.specs.declared.toward.Toward.{Toward}
use Rattle.hmc_send.specs.Entries.{SenderEntry, Given, Part, part_with, part_after, unfinished}
use Rattle.hmc_send.specs.LinkEntries.{LinkEntry}
use Rattle.hmc_send.specs.LinkSenders.{sender_entries, given_in}
use Rattle.hmc_send.proofs.LinkLawful.{lawful-sent}
use Rattle.hmc_send.proofs.LinkProjections.{sender-sent, sender-through}
use Rattle.hmc_wire.specs.LinkLaws.{IsKept}
use Rattle.hmc_journal.specs.Choice.{choose}
use Rattle.hmc_entries.specs.declared.entry.Entry.{Entry}
use Rattle.hmc_entries.specs.declared.entry.Entry.TheVariants.{Gave, Sent, Landed, Shifted, Dropped, Spread, Executed, Lifted, Took, Discarded, Through, Unlocked, Retired, Passed, Idle}
use Rattle.hmc_journal.specs.Setup.{Topology}
use Rattle.hmc_journal.specs.Directions.{one_sent, unsent, awaits_first}
use Rattle.hmc_journal.specs.Links.{toward, link_entries, sizes_on, entries_on}
use Rattle.hmc_laws.proofs.LinkHanded.{IsSentAs, sent_as, new_left, new_grown, left-again, parts-fit}
use Rattle.hmc_laws.proofs.OpenParts.{again_some, first_named, through_free}
use Rattle.hmc_journal.proofs.Projections.{feed_in, came_at}
use Rattle.hmc_laws.proofs.KeptPast.{kept_past}
use Rattle.hmc_laws.proofs.NoSends.{IsOfSends, IsNoSend, IsSome, of_sends, no-send, by_sending, sent-elsewhere, sent-here, through-elsewhere, through-here}
use Rattle.hmc_wire.proofs.EntryTurns.{kept-before}

of_sends-unfinished : IsOfSends unfinished
unfolding unfinished
of_sends-unfinished = record { acknowledged = λ past n. refl; ran = λ past. refl }

abbrev pub under_on : Topology → ℕ → List LinkEntry → Option Part
under_on topology d past = of_sends unfinished topology d past

-- a cut-through was begun, and none of its flits was sent
abbrev pub waits : Option Part → Bool
waits None = false
waits (Some part) = length part.sent == 0

-- the flits left of a packet of which one was sent
abbrev pub left_begun : Option Part → ℕ
left_begun u = if waits u then 0 else new_left u

-- what a journal says of the packet under way
pub record UnsentIs (d : ℕ) (past : List Entry) (u : Option Part) : Type 0 where
  pub left : unsent d past ≡ left_begun u
  pub awaits : awaits_first d past ≡ waits u

one_more : (lng n m : ℕ) → 1 ≤ n → m ≡ n - 1 → one_sent lng n ≡ m
one_more lng zero m some is = absurd (omega arith)
one_more lng (suc n) m some is = omega arith

pub new_left-some : (part : Part) → part.again ≡ false → new_left (Some part) ≡ part.flits - length part.sent
new_left-some part new = ap (λ (b : Bool). if b then 0 else part.flits - length part.sent) new

-- once a flit was sent nothing waits
waits-grown : (part : Part) (flit : List ℕ) → waits (part_with part flit) ≡ false
waits-grown part flit = by_whole (suc (length part.sent) == part.flits)
  where
    by_whole : (whole : Bool) → waits (if whole then None else Some (record part { sent = part.sent ++ flit ∷ [] })) ≡ false
    by_whole true = refl
    by_whole false = let long = length-append part.sent (flit ∷ []) in ne_eqb (length (part.sent ++ flit ∷ [])) 0 (λ e. omega arith)

waits-after : (again : Bool) (flit : List ℕ) (u : Option Part) → waits (part_after again flit u) ≡ false
waits-after again flit None = waits-grown (record { again = again; flits = lng_of flit; sent = [] }) flit
waits-after again flit (Some part) = waits-grown part flit

grown_left : (again : Bool) (flit : List ℕ) (u : Option Part) → left_begun (part_after again flit u) ≡ new_left (part_after again flit u)
grown_left again flit u = ap (λ (b : Bool). if b then 0 else new_left (part_after again flit u)) (waits-after again flit u)

-- what is known of a send of a packet under way
pub record SendFacts (as_what : What) (flit : List ℕ) (u : Option Part) : Type 0 where
  pub more : (p : Part) → u ≡ Some p → length p.sent < p.flits
  pub named : (p : Part) → u ≡ Some p → as_what ≡ what.New → length p.sent ≡ 0 → lng_of flit ≡ p.flits
  pub some : (p : Part) → u ≡ Some p → p.again ≡ true → 1 ≤ length p.sent

left_new : (u : Option Part) (given : Given) (flit : List ℕ) → IsSentAs what.New u given → SendFacts what.New flit u → one_sent (lng_of flit) (left_begun u) ≡ left_begun (part_after false flit u)
left_new None given flit is facts =
    let part : Part = record { again = false; flits = lng_of flit; sent = [] } in
    let grown = new_grown part flit refl in
    let now : left_begun (part_with part flit) ≡ new_left (part_with part flit) = grown_left false flit None in omega arith
left_new (Some part) given flit new facts = by_wait (length part.sent == 0) refl
  where
    now : left_begun (part_with part flit) ≡ new_left (part_with part flit)
    now = grown_left false flit (Some part)

    by_wait : (waiting : Bool) → (length part.sent == 0) ≡ waiting → one_sent (lng_of flit) (if waiting then 0 else new_left (Some part)) ≡ left_begun (part_with part flit)
    by_wait true at =
        let none = eqb-true (length part.sent) 0 at in
        let named = facts.named part refl refl none in
        let grown = new_grown part flit new in
        let after : left_begun (part_with part flit) ≡ new_left (part_with part flit) = now in omega arith
    by_wait false at =
        let more = facts.more part refl in
        let before = new_left-some part new in
        let grown = new_grown part flit new in
        let after : left_begun (part_with part flit) ≡ new_left (part_with part flit) = now in
        one_more (lng_of flit) (new_left (Some part)) (left_begun (part_with part flit)) (omega arith) (omega arith)

again_none : (u : Option Part) (given : Given) → IsSentAs what.Again u given → left_begun u ≡ new_left u
again_none None given is = refl
again_none (Some part) given again =
    let none : new_left (Some part) ≡ 0 = ap (λ (b : Bool). if b then 0 else part.flits - length part.sent) again in
    either (length part.sent == 0) none
  where
    either : (b : Bool) → new_left (Some part) ≡ 0 → (if b then 0 else new_left (Some part)) ≡ new_left (Some part)
    either true none = sym none
    either false none = refl

-- the flits after a send, and whether a cut-through still waits
unsent_after : What → (flit : List ℕ) → ℕ → ℕ
unsent_after what.New flit left = one_sent (lng_of flit) left
unsent_after _ flit left = left

awaits_after : What → Bool → Bool
awaits_after what.New waiting = false
awaits_after _ waiting = waiting

left_sent : (as_what : What) (T : List SenderEntry) (given : Given) (flit : List ℕ) → IsSentAs as_what (unfinished T) given → SendFacts as_what flit (unfinished T)
    → unsent_after as_what flit (left_begun (unfinished T)) ≡ left_begun (unfinished (SenderEntry.sent given as_what flit ∷ T))
unfolding unfinished unsent_after
left_sent what.New T given flit is facts = left_new (unfinished T) given flit is facts
left_sent what.Again T given flit is facts = again_none (unfinished T) given is ∙ sym (left-again (unfinished T) given flit is) ∙ sym (grown_left true flit (unfinished T))
left_sent what.Train T given flit is facts = refl
left_sent what.Clear T given flit is facts = refl
left_sent what.Start T given flit is facts = refl
left_sent what.Null T given flit is facts = refl
left_sent what.Pret T given flit is facts = refl
left_sent what.Tret T given flit is facts = refl

again_waits : (u : Option Part) (given : Given) (flit : List ℕ) → IsSentAs what.Again u given → SendFacts what.Again flit u → waits u ≡ false
again_waits None given flit is facts = refl
again_waits (Some part) given flit again facts = let some = facts.some part refl again in ne_eqb (length part.sent) 0 (λ e. omega arith)

awaits_sent : (as_what : What) (T : List SenderEntry) (given : Given) (flit : List ℕ) → IsSentAs as_what (unfinished T) given → SendFacts as_what flit (unfinished T)
    → awaits_after as_what (waits (unfinished T)) ≡ waits (unfinished (SenderEntry.sent given as_what flit ∷ T))
unfolding unfinished awaits_after
awaits_sent what.New T given flit is facts = sym (waits-after false flit (unfinished T))
awaits_sent what.Again T given flit is facts = again_waits (unfinished T) given flit is facts ∙ sym (waits-after true flit (unfinished T))
awaits_sent what.Train T given flit is facts = refl
awaits_sent what.Clear T given flit is facts = refl
awaits_sent what.Start T given flit is facts = refl
awaits_sent what.Null T given flit is facts = refl
awaits_sent what.Pret T given flit is facts = refl
awaits_sent what.Tret T given flit is facts = refl

pub same_choice : {X : Type 0} (test : Bool) (x : X) → x ≡ choose test x x
same_choice true x = refl
same_choice false x = refl

-- what a send makes of both, on this direction or another
send_is : (d direction : ℕ) (as_what : What) (flit : List ℕ) (past : List Entry)
    → (unsent d (Sent direction as_what flit ∷ past) ≡ choose (direction == d) (unsent_after as_what flit (unsent d past)) (unsent d past))
    × (awaits_first d (Sent direction as_what flit ∷ past) ≡ choose (direction == d) (awaits_after as_what (awaits_first d past)) (awaits_first d past))
unfolding unsent unsent_after awaits_first awaits_after
send_is d direction what.New flit past = (refl, refl)
send_is d direction what.Again flit past = (same_choice (direction == d) (unsent d past), same_choice (direction == d) (awaits_first d past))
send_is d direction what.Train flit past = (same_choice (direction == d) (unsent d past), same_choice (direction == d) (awaits_first d past))
send_is d direction what.Clear flit past = (same_choice (direction == d) (unsent d past), same_choice (direction == d) (awaits_first d past))
send_is d direction what.Start flit past = (same_choice (direction == d) (unsent d past), same_choice (direction == d) (awaits_first d past))
send_is d direction what.Null flit past = (same_choice (direction == d) (unsent d past), same_choice (direction == d) (awaits_first d past))
send_is d direction what.Pret flit past = (same_choice (direction == d) (unsent d past), same_choice (direction == d) (awaits_first d past))
send_is d direction what.Tret flit past = (same_choice (direction == d) (unsent d past), same_choice (direction == d) (awaits_first d past))

-- what a send on this direction was given, and what it leaves under way
pub record IsSending (topology : Topology) (d : ℕ) (as_what : What) (flit : List ℕ) (past : List Entry) : Type 0 where
  pub given : Given
  pub is : given ≡ given_in (sizes_on topology d) (toward d) (entries_on topology d past) (feed_in topology (d / 2) d past (toward d))
  pub after : sender_entries (sizes_on topology d) (toward d) (entries_on topology d (Sent d as_what flit ∷ past))
      ≡ SenderEntry.sent given as_what flit ∷ sender_entries (sizes_on topology d) (toward d) (entries_on topology d past)
  pub sent : IsSentAs as_what (under_on topology d (entries_on topology d past)) given
  pub facts : SendFacts as_what flit (under_on topology d (entries_on topology d past))

pub send_facts : (link : LinkFields) (d : Toward) (feed : Feed) (as_what : What) (flit : List ℕ) (past : List LinkEntry) → IsKept link (LinkEntry.sent d feed as_what flit ∷ past) → SendFacts as_what flit (unfinished (sender_entries link d past))
send_facts link d feed as_what flit past kept =
    let before = kept-before link (LinkEntry.sent d feed as_what flit) past kept in record {
      more = λ p is. (parts-fit link d past before p is).more;
      named = λ p is new none. first_named link d feed flit past (subst (λ (w : What). IsKept link (LinkEntry.sent d feed w flit ∷ past)) new kept) p is none;
      some = λ p is again. again_some link d past before p is again;
    }

pub is_sending : (topology : Topology) (d : ℕ) (as_what : What) (flit : List ℕ) (past : List Entry) → IsKept (sizes_on topology d) (entries_on topology d (Sent d as_what flit ∷ past)) → IsSending topology d as_what flit past
is_sending topology d as_what flit past kept =
    let before = entries_on topology d past in
    let sizes = sizes_on topology d in
    let feed = feed_in topology (d / 2) d past (toward d) in
    let now : IsKept sizes (LinkEntry.sent (toward d) feed as_what flit ∷ before) = subst (IsKept sizes) (sent-here topology d as_what flit past) kept in record {
      given = given_in sizes (toward d) before feed;
      is = refl;
      after = ap (sender_entries sizes (toward d)) (sent-here topology d as_what flit past) ∙ sender-sent sizes (toward d) feed as_what flit before;
      sent = sent_as sizes before (toward d) feed as_what flit (lawful-sent sizes before (toward d) feed as_what flit now.lawful);
      facts = send_facts sizes (toward d) feed as_what flit before now;
    }

sent_step-here : (topology : Topology) (d : ℕ) (as_what : What) (flit : List ℕ) (past : List Entry) → IsKept (sizes_on topology d) (entries_on topology d (Sent d as_what flit ∷ past)) → UnsentIs d past (under_on topology d (entries_on topology d past))
    → UnsentIs d (Sent d as_what flit ∷ past) (under_on topology d (entries_on topology d (Sent d as_what flit ∷ past)))
sent_step-here topology d as_what flit past kept is =
    let sending = is_sending topology d as_what flit past kept in
    let T = sender_entries (sizes_on topology d) (toward d) (entries_on topology d past) in
    let here : (d == d) ≡ true = eq-eqb d d refl in record {
      left = (send_is d d as_what flit past).0 ∙ ap (λ (b : Bool). choose b (unsent_after as_what flit (unsent d past)) (unsent d past)) here
          ∙ ap (unsent_after as_what flit) is.left ∙ left_sent as_what T sending.given flit sending.sent sending.facts ∙ sym (ap (λ l. left_begun (unfinished l)) sending.after);
      awaits = (send_is d d as_what flit past).1 ∙ ap (λ (b : Bool). choose b (awaits_after as_what (awaits_first d past)) (awaits_first d past)) here
          ∙ ap (awaits_after as_what) is.awaits ∙ awaits_sent as_what T sending.given flit sending.sent sending.facts ∙ sym (ap (λ l. waits (unfinished l)) sending.after);
    }

sent_step : (topology : Topology) (d direction : ℕ) (as_what : What) (flit : List ℕ) (past : List Entry) (here : Bool) → (direction == d) ≡ here → IsKept (sizes_on topology d) (entries_on topology d (Sent direction as_what flit ∷ past))
    → UnsentIs d past (under_on topology d (entries_on topology d past)) → UnsentIs d (Sent direction as_what flit ∷ past) (under_on topology d (entries_on topology d (Sent direction as_what flit ∷ past)))
sent_step topology d direction as_what flit past true here kept is =
    let one : direction ≡ d = eqb-true direction d here in
    subst (λ (e : ℕ). UnsentIs d (Sent e as_what flit ∷ past) (under_on topology d (entries_on topology d (Sent e as_what flit ∷ past)))) (sym one)
    (sent_step-here topology d as_what flit past (subst (λ (e : ℕ). IsKept (sizes_on topology d) (entries_on topology d (Sent e as_what flit ∷ past))) one kept) is)
sent_step topology d direction as_what flit past false here kept is = record {
  left = (send_is d direction as_what flit past).0 ∙ ap (λ (b : Bool). choose b (unsent_after as_what flit (unsent d past)) (unsent d past)) here
      ∙ is.left ∙ sym (ap left_begun (sent-elsewhere unfinished topology d direction as_what flit past here));
  awaits = (send_is d direction as_what flit past).1 ∙ ap (λ (b : Bool). choose b (awaits_after as_what (awaits_first d past)) (awaits_first d past)) here
      ∙ is.awaits ∙ sym (ap waits (sent-elsewhere unfinished topology d direction as_what flit past here));
}

-- a packet is forwarded
unsent-through : (d cube port direction : ℕ) (past : List Entry) → unsent d (Through cube port direction ∷ past) ≡ unsent d past
unfolding unsent
unsent-through d cube port direction past = refl

awaits-through : (d cube port direction : ℕ) (past : List Entry) → awaits_first d (Through cube port direction ∷ past) ≡ choose (direction == d) true (awaits_first d past)
unfolding awaits_first
awaits-through d cube port direction past = refl

under-through : (given_head : List ℕ) (flits due : ℕ) (T : List SenderEntry) → unfinished (SenderEntry.through given_head flits due ∷ T) ≡ Some (record { again = false; flits = flits; sent = [] })
unfolding unfinished
under-through given_head flits due T = refl

through_step-here : (topology : Topology) (d cube port : ℕ) (head : List ℕ) (rest : List (List ℕ)) (past : List Entry) → came_at topology cube port past ≡ head ∷ rest → IsKept (sizes_on topology d) (entries_on topology d (Through cube port d ∷ past))
    → UnsentIs d past (under_on topology d (entries_on topology d past)) → UnsentIs d (Through cube port d ∷ past) (under_on topology d (entries_on topology d (Through cube port d ∷ past)))
through_step-here topology d cube port head rest past came kept is =
    let sizes = sizes_on topology d in
    let before = entries_on topology d past in
    let at = through-here topology d cube port head rest past came in
    let now : IsKept sizes (LinkEntry.through (toward d) head (lng_of head) ∷ before) = subst (IsKept sizes) at kept in
    let free : unfinished (sender_entries sizes (toward d) before) ≡ None = through_free sizes (toward d) head (lng_of head) before now in
    let after : under_on topology d (entries_on topology d (Through cube port d ∷ past)) ≡ Some (record { again = false; flits = lng_of head; sent = [] }) =
    ap (λ l. unfinished (sender_entries sizes (toward d) l)) at ∙ ap unfinished (sender-through sizes (toward d) head (lng_of head) before) ∙ under-through head (lng_of head) _ _ in
    let here : (d == d) ≡ true = eq-eqb d d refl in record {
      left = unsent-through d cube port d past ∙ is.left ∙ ap left_begun free ∙ sym (ap left_begun after);
      awaits = awaits-through d cube port d past ∙ ap (λ (b : Bool). choose b true (awaits_first d past)) here ∙ sym (ap waits after);
    }

through_step : (topology : Topology) (d cube port direction : ℕ) (past : List Entry) (here : Bool) → (direction == d) ≡ here → IsSome (came_at topology cube port past) → IsKept (sizes_on topology d) (entries_on topology d (Through cube port direction ∷ past))
    → UnsentIs d past (under_on topology d (entries_on topology d past)) → UnsentIs d (Through cube port direction ∷ past) (under_on topology d (entries_on topology d (Through cube port direction ∷ past)))
through_step topology d cube port direction past true here some kept is =
    let one : direction ≡ d = eqb-true direction d here in
    subst (λ (e : ℕ). UnsentIs d (Through cube port e ∷ past) (under_on topology d (entries_on topology d (Through cube port e ∷ past)))) (sym one)
    (by_came (came_at topology cube port past) refl some (subst (λ (e : ℕ). IsKept (sizes_on topology d) (entries_on topology d (Through cube port e ∷ past))) one kept))
  where
    by_came : (came : List (List ℕ)) → came_at topology cube port past ≡ came → IsSome came → IsKept (sizes_on topology d) (entries_on topology d (Through cube port d ∷ past))
        → UnsentIs d (Through cube port d ∷ past) (under_on topology d (entries_on topology d (Through cube port d ∷ past)))
    by_came [] at there now = absurd there
    by_came (head ∷ rest) at there now = through_step-here topology d cube port head rest past at now is
through_step topology d cube port direction past false here some kept is = record {
  left = unsent-through d cube port direction past ∙ is.left ∙ sym (ap left_begun (through-elsewhere unfinished topology d cube port direction past here));
  awaits = awaits-through d cube port direction past ∙ ap (λ (b : Bool). choose b true (awaits_first d past)) here ∙ is.awaits ∙ sym (ap waits (through-elsewhere unfinished topology d cube port direction past here));
}

-- each packet that was forwarded was being gathered
abbrev pub AreGathered : Topology → List Entry → Type 0
AreGathered topology [] = Unit {0}
AreGathered topology (Through cube port direction ∷ past) = IsSome (came_at topology cube port past) × AreGathered topology past
AreGathered topology (_ ∷ past) = AreGathered topology past

unsent_same : (d : ℕ) (entry : Entry) (past : List Entry) → IsNoSend entry → unsent d (entry ∷ past) ≡ unsent d past
unfolding unsent
unsent_same d (Sent direction what flit) past quiet = absurd quiet
unsent_same d _ past quiet = refl

awaits_same : (d : ℕ) (entry : Entry) (past : List Entry) → IsNoSend entry → awaits_first d (entry ∷ past) ≡ awaits_first d past
unfolding awaits_first
awaits_same d (Sent direction what flit) past quiet = absurd quiet
awaits_same d (Through cube port direction) past quiet = absurd quiet
awaits_same d _ past quiet = refl

quiet-step : (topology : Topology) (d : ℕ) (entry : Entry) (past : List Entry) → IsNoSend entry → UnsentIs d past (under_on topology d (entries_on topology d past)) → UnsentIs d (entry ∷ past) (under_on topology d (entries_on topology d (entry ∷ past)))
quiet-step topology d entry past quiet is = record {
  left = unsent_same d entry past quiet ∙ is.left ∙ sym (ap left_begun (no-send unfinished of_sends-unfinished topology d entry past quiet));
  awaits = awaits_same d entry past quiet ∙ is.awaits ∙ sym (ap waits (no-send unfinished of_sends-unfinished topology d entry past quiet));
}

unsent-step : (topology : Topology) (d : ℕ) (entry : Entry) (past : List Entry) → AreGathered topology (entry ∷ past) → IsKept (sizes_on topology d) (entries_on topology d (entry ∷ past)) → UnsentIs d past (under_on topology d (entries_on topology d past))
    → UnsentIs d (entry ∷ past) (under_on topology d (entries_on topology d (entry ∷ past)))
unsent-step topology d entry past gathered kept is =
    by_sending (λ (e : Entry). AreGathered topology (e ∷ past) → IsKept (sizes_on topology d) (entries_on topology d (e ∷ past)) → UnsentIs d (e ∷ past) (under_on topology d (entries_on topology d (e ∷ past))))
    (λ direction as_what flit gathers keeps. sent_step topology d direction as_what flit past (direction == d) refl keeps is)
    (λ cube port direction gathers keeps. through_step topology d cube port direction past (direction == d) refl gathers.0 keeps is)
    (λ e quiet gathers keeps. quiet-step topology d e past quiet is)
    entry gathered kept

pub gathered_past : (topology : Topology) (entry : Entry) (past : List Entry) → AreGathered topology (entry ∷ past) → AreGathered topology past
gathered_past topology (Through cube port direction) past gathered = gathered.1
gathered_past topology (Gave host tag poisoned request) past gathered = gathered
gathered_past topology (Landed direction flit outcome) past gathered = gathered
gathered_past topology (Shifted cube port goal) past gathered = gathered
gathered_past topology (Dropped cube port) past gathered = gathered
gathered_past topology (Spread cube vault bank) past gathered = gathered
gathered_past topology (Executed unit host tag request answer) past gathered = gathered
gathered_past topology (Lifted cube from port) past gathered = gathered
gathered_past topology (Took host tag answer) past gathered = gathered
gathered_past topology (Discarded host) past gathered = gathered
gathered_past topology (Unlocked direction) past gathered = gathered
gathered_past topology (Retired slot) past gathered = gathered
gathered_past topology (Passed direction flit) past gathered = gathered
gathered_past topology (Idle step cause) past gathered = gathered
gathered_past topology (Sent direction what flit) past gathered = gathered

pub unsent_is : (topology : Topology) (d : ℕ) (past : List Entry) → AreGathered topology past → IsKept (sizes_on topology d) (entries_on topology d past) → UnsentIs d past (under_on topology d (entries_on topology d past))
unfolding unsent awaits_first link_entries sender_entries unfinished
unsent_is topology d [] gathered kept = record { left = refl; awaits = refl }
unsent_is topology d (entry ∷ past) gathered kept =
    unsent-step topology d entry past gathered kept (unsent_is topology d past (gathered_past topology entry past gathered) (kept_past (sizes_on topology d) topology (d / 2) entry past kept))
