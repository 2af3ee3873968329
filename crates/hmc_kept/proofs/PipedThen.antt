-- The packets that are forwarded after one more entry of the journal.
use Rattle.std.proofs.Common.{◌≡◌, ◌<◌, ◌==◌, ◌∙◌, ℕ, zero, suc, Bool, true, false, Option, Some, None, List, [], ◌∷◌, length, refl, sym, ap, ap₂, subst, arith, eqb-true, eq-eqb}
use Rattle.std.specs.Prelude.{option_map, slice_index_or, slice_set}
use Rattle.hmc_codes.specs.Places.{same_place}
use Rattle.hmc_codes.specs.declared.place.Place.{Place}
use Rattle.hmc_codes.specs.declared.place.Place.TheVariants as places
use Rattle.hmc_case.specs.declared.setup.LinkRow.{LinkRow}
use Rattle.hmc_packet.specs.Landings.{pending}
use Rattle.hmc_through.specs.Pipe.{PipeFields}
use Rattle.hmc_routes.specs.Directions as routes
use Rattle.hmc_routes.specs.WellFormed.{are_distinct, ends_of}
use Rattle.hmc_send.specs.LinkEntries.{receiver_entries}
use Rattle.hmc_journal.specs.Choice.{choose}
use Rattle.hmc_entries.specs.declared.entry.Entry.{Entry}
use Rattle.hmc_entries.specs.declared.entry.Entry.TheVariants.{Landed, Through, Unlocked}
use Rattle.hmc_journal.specs.Directions.{receiver_of}
use Rattle.hmc_journal.specs.Links.{toward, entries_on}
use Rattle.hmc_journal.specs.Network.{IsNetwork}
use Rattle.hmc_journal.specs.Piped.{PipeFrom, lands_at, forwarded_onto, pipe_onto, pipe_of, while_gathered, while_gathering, with_landing, with_unlock}
use Rattle.hmc_journal.specs.Setup.{Topology, Setup, joins_of, directions_in, direction_to, end_of}
use Rattle.hmc_journal.specs.StepView.{view_of}
use Rattle.hmc_journal.proofs.EntryRule.{EntryRule}
use Rattle.hmc_journal.proofs.Joins.{end_is_start, other_other, other_inside, from_start}
use Rattle.hmc_kept.specs.After.{begun_from, pipes_after}
use Rattle.hmc_kept.specs.Pipes.{PipesHeld, AreCounted, forwarded_at, pipe_at, changed_pipe, after_begin, after_change}
use Rattle.hmc_journal.proofs.DirectionEnds.{ends_at, starts_there}
use Rattle.hmc_kept.proofs.Elements.{changed_at}
use Rattle.hmc_kept.proofs.PipeLemmas.{change_counted, begin_counted, none_gathered, while_here, while_apart, same_pipe}
use Rattle.std.proofs.lemmas.List.{length-map}
use Rattle.hmc_routes.proofs.Joined.{same_place-true, same_place-refl}

-- what a network keeps of the packets that are forwarded, after a journal
pub record ArePiped (topology : Topology) (past : List Entry) (held : PipesHeld) : Type 0 where
  pub counted : AreCounted (directions_in topology) held
  pub forwarded : (d : ℕ) → d < directions_in topology → forwarded_at held d ≡ forwarded_onto topology d past
  pub pipes : (d : ℕ) → d < directions_in topology → pipe_at held d ≡ pipe_onto topology d past

-- ---- where a direction lands

lands_there : (topology : Topology) (place : Place) (d : ℕ) → are_distinct (ends_of (joins_of topology)) ≡ true → d < directions_in topology → end_of topology d ≡ place → direction_to topology place ≡ Some d
lands_there topology place d once there ends =
    let joins = joins_of topology in
    let long : length joins ≡ length topology.links = length-map topology.links (λ (link : LinkRow). link.join) in
    let starts : routes.start_of joins (routes.other d) ≡ place = sym (end_is_start joins d) ∙ ends in
    ap (option_map routes.other) (ap (routes.direction_from joins) (sym starts) ∙ from_start joins (routes.other d) once (other_inside d (length joins) (omega arith)))
    ∙ ap (λ (n : ℕ). Some n) (other_other d)

lands_by : (topology : Topology) (d from cube port : ℕ) → are_distinct (ends_of (joins_of topology)) ≡ true → d < directions_in topology → direction_to topology (places.Port cube port) ≡ Some from → lands_at topology d cube port ≡ (from == d)
lands_by topology d from cube port once there to = by_test (from == d) refl (lands_at topology d cube port) refl
  where
    by_test : (same : Bool) → (from == d) ≡ same → (here : Bool) → lands_at topology d cube port ≡ here → lands_at topology d cube port ≡ (from == d)
    by_test true same here is =
        ap (λ (p : Place). same_place p (places.Port cube port)) (ap (end_of topology) (sym (eqb-true from d same)) ∙ (ends_at topology (places.Port cube port) from to).ends)
        ∙ same_place-refl (places.Port cube port) ∙ sym same
    by_test false same false is = is ∙ sym same
    by_test false same true is =
        let at : direction_to topology (places.Port cube port) ≡ Some d = lands_there topology (places.Port cube port) d once there (same_place-true (end_of topology d) (places.Port cube port) is) in
        let twice : Some from ≡ Some d = sym to ∙ at in
        let equal : from ≡ d = cc in
        absurd (let clash : true ≡ false = sym (eq-eqb from d equal) ∙ same in cc)

-- ---- a change at the end of a direction

untouched : (held : PipesHeld) (direction d : ℕ) (goes : Option ℕ → Option ℕ) → goes None ≡ None → forwarded_at held direction ≡ None → forwarded_at held d ≡ choose (direction == d) (goes (forwarded_at held d)) (forwarded_at held d)
untouched held direction d goes none is = by_test (direction == d) refl
  where
    by_test : (test : Bool) → (direction == d) ≡ test → forwarded_at held d ≡ choose (direction == d) (goes (forwarded_at held d)) (forwarded_at held d)
    by_test true same =
        let gone : forwarded_at held d ≡ None = ap (forwarded_at held) (sym (eqb-true direction d same)) ∙ is in
        gone ∙ sym none ∙ ap goes (sym gone) ∙ ap (λ (t : Bool). choose t (goes (forwarded_at held d)) (forwarded_at held d)) (sym same)
    by_test false same = ap (λ (t : Bool). choose t (goes (forwarded_at held d)) (forwarded_at held d)) (sym same)

forwarded_changed : (held : PipesHeld) (n direction d : ℕ) (goes : Option ℕ → Option ℕ) (changed : PipeFields → PipeFields) (onto : Option ℕ) → AreCounted n held → direction < n → forwarded_at held direction ≡ onto → goes None ≡ None
    → forwarded_at (after_change onto goes changed direction held) d ≡ choose (direction == d) (goes (forwarded_at held d)) (forwarded_at held d)
forwarded_changed held n direction d goes changed (Some onto) counted there is none = by_test (direction == d) refl
  where
    by_test : (test : Bool) → (direction == d) ≡ test → forwarded_at (after_change (Some onto) goes changed direction held) d ≡ choose (direction == d) (goes (forwarded_at held d)) (forwarded_at held d)
    by_test test same =
        changed_at held.forwarded direction d (goes (Some onto)) None test same (omega (arith, counted.forwarded)) ∙ by_same test same ∙ ap (λ (t : Bool). choose t (goes (forwarded_at held d)) (forwarded_at held d)) (sym same)
      where
        by_same : (test : Bool) → (direction == d) ≡ test → choose test (goes (Some onto)) (forwarded_at held d) ≡ choose test (goes (forwarded_at held d)) (forwarded_at held d)
        by_same true same = ap goes (sym is ∙ ap (forwarded_at held) (eqb-true direction d same))
        by_same false same = refl
forwarded_changed held n direction d goes changed None counted there is none = untouched held direction d goes none is

-- the pipe of the packet that is gathered there changes, and no other one
pipes_changed : (held : PipesHeld) (n direction d : ℕ) (goes : Option ℕ → Option ℕ) (changed : PipeFields → PipeFields) (onto : Option ℕ) → AreCounted n held → forwarded_at held direction ≡ onto
    → ((to : ℕ) → onto ≡ Some to → to < n)
    → ((to : ℕ) (p : PipeFrom) → onto ≡ Some to → pipe_at held to ≡ Some p → (p.from ≡ direction) × (p.pipe.good ≡ None))
    → ((p : PipeFrom) → pipe_at held d ≡ Some p → p.pipe.good ≡ None → p.from ≡ direction → onto ≡ Some d)
    → pipe_at (after_change onto goes changed direction held) d ≡ option_map (while_gathering direction changed) (pipe_at held d)
pipes_changed held n direction d goes changed None counted is inside own source = by_pipe (pipe_at held d) refl
  where
    by_pipe : (found : Option PipeFrom) → pipe_at held d ≡ found → pipe_at held d ≡ option_map (while_gathering direction changed) (pipe_at held d)
    by_pipe None found = found ∙ ap (option_map (while_gathering direction changed)) (sym found)
    by_pipe (Some p) found =
        found ∙ ap (λ (q : PipeFrom). Some q) (sym (while_apart direction changed p (λ from unended. absurd (let clash : None ≡ Some d = source p found unended from in cc)))) ∙ ap (option_map (while_gathering direction changed)) (sym found)
pipes_changed held n direction d goes changed (Some to) counted is inside own source = by_test (to == d) refl
  where
    next : Option PipeFrom
    next = option_map (changed_pipe changed) (pipe_at held to)

    by_here : (found : Option PipeFrom) → pipe_at held to ≡ found → next ≡ option_map (while_gathering direction changed) (pipe_at held to)
    by_here None found = ap (option_map (changed_pipe changed)) found ∙ ap (option_map (while_gathering direction changed)) (sym found)
    by_here (Some p) found =
        ap (option_map (changed_pipe changed)) found
        ∙ ap (λ (q : PipeFrom). Some q) (sym (while_here direction changed p (own to p refl found).0 (own to p refl found).1))
        ∙ ap (option_map (while_gathering direction changed)) (sym found)

    by_other : (found : Option PipeFrom) → pipe_at held d ≡ found → (to == d) ≡ false → pipe_at held d ≡ option_map (while_gathering direction changed) (pipe_at held d)
    by_other None found other = found ∙ ap (option_map (while_gathering direction changed)) (sym found)
    by_other (Some p) found other =
        found
        ∙ ap (λ (q : PipeFrom). Some q) (sym (while_apart direction changed p (λ from unended. absurd (let same : Some to ≡ Some d = source p found unended from in let equal : to ≡ d = cc in let clash : true ≡ false = sym (eq-eqb to d equal) ∙ other in cc))))
        ∙ ap (option_map (while_gathering direction changed)) (sym found)

    by_test : (test : Bool) → (to == d) ≡ test → slice_index_or (slice_set held.pipes to next) d None ≡ option_map (while_gathering direction changed) (pipe_at held d)
    by_test true same =
        let less = inside to refl in
        changed_at held.pipes to d next None true same (omega (arith, counted.pipes)) ∙ by_here (pipe_at held to) refl ∙ ap (λ (k : ℕ). option_map (while_gathering direction changed) (pipe_at held k)) (eqb-true to d same)
    by_test false same =
        let less = inside to refl in
        changed_at held.pipes to d next None false same (omega (arith, counted.pipes)) ∙ by_other (pipe_at held d) refl same

-- ---- the entries

some_inside : {X : Type 0} (xs : List (Option X)) (i : ℕ) (x : X) → slice_index_or xs i None ≡ Some x → i < length xs
some_inside [] i x is = absurd (cc)
some_inside (y ∷ xs) zero x is = omega arith
some_inside (y ∷ xs) (suc i) x is = (let less = some_inside xs i x is in omega arith)

-- what the steps of links know of the packets that are forwarded
pub record AreLawful (topology : Topology) (past : List Entry) : Type 0 where
  pub there : (d onto : ℕ) → d < directions_in topology → forwarded_onto topology d past ≡ Some onto → onto < directions_in topology
  pub pipe : (d onto : ℕ) → d < directions_in topology → forwarded_onto topology d past ≡ Some onto → pipe_onto topology onto past ≡ Some (pipe_of topology d (pending (receiver_of d past)))
  pub source : (d : ℕ) (p : PipeFrom) → d < directions_in topology → pipe_onto topology d past ≡ Some p → p.pipe.good ≡ None → (p.from < directions_in topology) × (forwarded_onto topology p.from past ≡ Some d)

changed_then : (topology : Topology) (past : List Entry) (held : PipesHeld) (direction : ℕ) (goes : Option ℕ → Option ℕ) (changed : PipeFields → PipeFields) → goes None ≡ None → AreLawful topology past → ArePiped topology past held
    → (d : ℕ) → d < directions_in topology
    → (forwarded_at (after_change (forwarded_at held direction) goes changed direction held) d ≡ choose (direction == d) (goes (forwarded_onto topology d past)) (forwarded_onto topology d past))
    × (pipe_at (after_change (forwarded_at held direction) goes changed direction held) d ≡ option_map (while_gathering direction changed) (pipe_onto topology d past))
changed_then topology past held direction goes changed none law is d there = (
  by_forwarded (forwarded_at held direction) refl ∙ ap (λ (o : Option ℕ). choose (direction == d) (goes o) o) (is.forwarded d there),
  pipes_changed held n direction d goes changed (forwarded_at held direction) is.counted refl
      (λ to at. law.there direction to (inside to at) (sym (is.forwarded direction (inside to at)) ∙ at))
      (λ to p at found.
      (let less = inside to at in
      let onto = sym (is.forwarded direction less) ∙ at in
      let own : p ≡ pipe_of topology direction (pending (receiver_of direction past)) = same_pipe p _ (sym found ∙ is.pipes to (law.there direction to less onto) ∙ law.pipe direction to less onto) in (
        ap (λ (q : PipeFrom). q.from) own,
        ap (λ (q : PipeFrom). q.pipe.good) own,
      )))
      (λ p found unended from.
      (let source = law.source d p there (sym (is.pipes d there) ∙ found) unended in
      ap (forwarded_at held) (sym from) ∙ is.forwarded p.from source.0 ∙ source.1))
      ∙ ap (option_map (while_gathering direction changed)) (is.pipes d there),
)
  where
    n : ℕ
    n = directions_in topology

    inside : (to : ℕ) → forwarded_at held direction ≡ Some to → direction < n
    inside to at = (let less = some_inside held.forwarded direction to at in omega (arith, is.counted.forwarded))

    by_forwarded : (onto : Option ℕ) → forwarded_at held direction ≡ onto → forwarded_at (after_change (forwarded_at held direction) goes changed direction held) d ≡ choose (direction == d) (goes (forwarded_at held d)) (forwarded_at held d)
    by_forwarded None at = ap (λ (o : Option ℕ). forwarded_at (after_change o goes changed direction held) d) at ∙ untouched held direction d goes none at
    by_forwarded (Some to) at =
        ap (λ (o : Option ℕ). forwarded_at (after_change o goes changed direction held) d) at ∙ forwarded_changed held n direction d goes changed (Some to) is.counted (inside to at) at none

-- a packet begins to be forwarded
begun_then : (topology : Topology) (past : List Entry) (held : PipesHeld) (from onto cube port : ℕ) (came : List (List ℕ)) → are_distinct (ends_of (joins_of topology)) ≡ true → direction_to topology (places.Port cube port) ≡ Some from → from < directions_in topology → onto < directions_in topology → ArePiped topology past held
    → (d : ℕ) → d < directions_in topology
    → (forwarded_at (after_begin onto (pipe_of topology from came) held) d ≡ choose (lands_at topology d cube port) (Some onto) (forwarded_onto topology d past))
    × (pipe_at (after_begin onto (pipe_of topology from came) held) d ≡ choose (onto == d) (Some (pipe_of topology from came)) (pipe_onto topology d past))
begun_then topology past held from onto cube port came once to from_there onto_there is d there = (
  changed_at held.forwarded from d (Some onto) None (from == d) refl (omega (arith, is.counted.forwarded))
      ∙ ap₂ (λ (t : Bool) (o : Option ℕ). choose t (Some onto) o) (sym (lands_by topology d from cube port once there to)) (is.forwarded d there),
  changed_at held.pipes onto d (Some (pipe_of topology from came)) None (onto == d) refl (omega (arith, is.counted.pipes))
      ∙ ap (λ (o : Option PipeFrom). choose (onto == d) (Some (pipe_of topology from came)) o) (is.pipes d there),
)

pub piped_then : (setup : Setup) (past : List Entry) (entry : Entry) (held : PipesHeld) → IsNetwork setup → EntryRule setup past entry → AreLawful setup.topology past
    → ((d : ℕ) → d < directions_in setup.topology → receiver_of d past ≡ receiver_entries (toward d) (entries_on setup.topology d past))
    → ArePiped setup.topology past held → ArePiped setup.topology (entry ∷ past) (pipes_after setup.topology (view_of setup past) entry held)
unfolding forwarded_onto pipe_onto view_of
piped_then setup past (Landed direction flit outcome) held network rule law receivers is = record {
  counted = change_counted held (directions_in setup.topology) direction (forwarded_at held direction) (while_gathered outcome) (with_landing flit outcome) is.counted;
  forwarded = λ d there. (changed_then setup.topology past held direction (while_gathered outcome) (with_landing flit outcome) (none_gathered outcome) law is d there).0;
  pipes = λ d there. (changed_then setup.topology past held direction (while_gathered outcome) (with_landing flit outcome) (none_gathered outcome) law is d there).1;
}
piped_then setup past (Unlocked direction) held network rule law receivers is = record {
  counted = change_counted held (directions_in setup.topology) direction (forwarded_at held direction) (λ onto. None) with_unlock is.counted;
  forwarded = λ d there. (changed_then setup.topology past held direction (λ onto. None) with_unlock refl law is d there).0;
  pipes = λ d there. (changed_then setup.topology past held direction (λ onto. None) with_unlock refl law is d there).1;
}
piped_then setup past (Through cube port onto) held network rule law receivers is =
    let topology = setup.topology in
    let from_there = (ends_at topology (places.Port cube port) rule.from rule.arrives).there in
    let onto_there = starts_there topology (places.Port cube rule.onward) onto rule.starts in
    let came = pending (receiver_of rule.from past) in
    let same : pending (receiver_entries (toward rule.from) (entries_on topology rule.from past)) ≡ came = ap pending (sym (receivers rule.from from_there)) in
    let begun = begun_then topology past held rule.from onto cube port came network.graph.joined_once rule.arrives from_there onto_there is in
    subst (ArePiped topology (Through cube port onto ∷ past)) (ap (λ (f : Option ℕ). begun_from topology (view_of setup past) f onto held) (sym rule.arrives))
    (subst (λ (l : List (List ℕ)). ArePiped topology (Through cube port onto ∷ past) (after_begin onto (pipe_of topology rule.from l) held)) (sym same) (record {
      counted = begin_counted held (directions_in topology) onto (pipe_of topology rule.from came) is.counted;
      forwarded = λ d there. (begun d there).0;
      pipes = λ d there. (begun d there).1
          ∙ ap (λ (f : Option ℕ). choose (onto == d) (option_map (λ (from : ℕ). pipe_of topology from (pending (receiver_of from past))) f) (pipe_onto topology d past)) (sym rule.arrives);
    }))
piped_then setup past _ held network rule law receivers is = record { counted = is.counted; forwarded = is.forwarded; pipes = is.pipes }
