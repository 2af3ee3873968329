-- What hosts give is what the script says, and what lands is what was sent, each in order.
use Rattle.std.proofs.Common.{◌≡◌, ◌≤◌, ◌<◌, ◌+◌, ◌∙◌, ◌==◌, ℕ, zero, suc, Bool, true, false, Option, Some, List, [], ◌∷◌, ◌++◌, length, map, take, drop, refl, sym, ap, subst, arith, eqb-true, take-append-drop, length-append, not-suc-le-zero}
use Rattle.hmc_journal.specs.Choice.{append_if}
use Rattle.std.specs.List.{slice_get}
use Rattle.std.proofs.Math.Seq.{take-suc}
use Rattle.std.proofs.lemmas.List.{map-append}
use Rattle.std.proofs.lemmas.Option.{slice_get_within, get_or_from_slice_get}
use Rattle.hmc_codes.specs.Request.{RequestFields}
use Rattle.hmc_host.specs.Host.{items_of}
use Rattle.hmc_script.specs.Items.{ItemFields}
use Rattle.hmc_entries.specs.declared.entry.Entry.{Entry}
use Rattle.hmc_entries.specs.declared.entry.Entry.TheVariants.{Gave, Sent, Landed, Shifted, Dropped, Spread, Executed, Lifted, Took, Discarded, Through, Unlocked, Retired, Passed, Idle}
use Rattle.hmc_journal.specs.Delivered.{IsScripted, said, under_masks}
use Rattle.hmc_journal.specs.Filters.{ScriptRequest, given_by}
use Rattle.hmc_journal.specs.Hosts.{count_if, given_count, host_of}
use Rattle.hmc_journal.specs.Lawful.{Lawful, has_passed}
use Rattle.hmc_journal.specs.Setup.{Topology, Setup}
use Rattle.hmc_schedule.specs.declared.step.Step.TheVariants as steps
use Rattle.hmc_send.specs.LinkEntries as links
use Rattle.hmc_packet.specs.Masks.{under_mask}
use Rattle.hmc_send.specs.LinkLines.{StampedFlit, line, landings, sent_flits as links_sent}
use Rattle.hmc_journal.specs.Directions.{sent_flits, landed_flits, landed_masks, mask_of_step}
use Rattle.hmc_journal.specs.Links.{toward, sizes_on, entries_on}
use Rattle.hmc_journal.proofs.EntryRule.{EntryRule, HasGiven, entry_rule, lawful_past, not_passed}
use Rattle.hmc_journal.proofs.Projections.{flits_of_line, sent_are, landed_count, landed_are}

-- ---- what lands is what was sent, under the masks of the steps

under_more : (masks sent more : List (List ℕ)) → length masks ≤ length sent → under_masks masks (sent ++ more) ≡ under_masks masks sent
under_more [] sent more within = refl
under_more (m ∷ masks) [] more within = absurd (not-suc-le-zero within)
under_more (m ∷ masks) (f ∷ sent) more within = ap (λ l. under_mask m f ∷ l) (under_more masks sent more (omega arith))

under_next : (masks sent : List (List ℕ)) (mask flit : List ℕ) → slice_get (drop (length masks) sent) 0 ≡ Some flit → under_masks (masks ++ mask ∷ []) sent ≡ under_masks masks sent ++ under_mask mask flit ∷ []
under_next [] [] mask flit is = absurd cc
under_next [] (f ∷ sent) mask flit is = let same : f ≡ flit = cc in ap (λ (g : List ℕ). under_mask mask g ∷ []) same
under_next (m ∷ masks) [] mask flit is = absurd cc
under_next (m ∷ masks) (f ∷ sent) mask flit is = ap (λ l. under_mask m f ∷ l) (under_next masks sent mask flit is)

inside : (masks sent : List (List ℕ)) (flit : List ℕ) → slice_get (drop (length masks) sent) 0 ≡ Some flit → length masks < length sent
inside [] [] flit is = absurd cc
inside [] (f ∷ sent) flit is = omega arith
inside (m ∷ masks) [] flit is = absurd cc
inside (m ∷ masks) (f ∷ sent) flit is = let less = inside masks sent flit is in omega arith

front_flit : (sent : List StampedFlit) (n : ℕ) (front : StampedFlit) → slice_get (drop n sent) 0 ≡ Some front → slice_get (drop n (flits_of_line sent)) 0 ≡ Some front.flit
front_flit [] zero front is = absurd cc
front_flit [] (suc n) front is = absurd cc
front_flit (x ∷ sent) zero front is = let same : x ≡ front = cc in ap (λ (y : StampedFlit). Some y.flit) same
front_flit (x ∷ sent) (suc n) front is = front_flit sent n front is

pub record AreUnderMasks (setup : Setup) (d : ℕ) (past : List Entry) : Type 0 where
  pub are : landed_flits d past ≡ under_masks (landed_masks d setup.schedule past) (sent_flits d past)
  pub within : length (landed_masks d setup.schedule past) ≤ length (sent_flits d past)
  pub count : has_passed past ≡ false → length (landed_masks d setup.schedule past) ≡ landed_count d past

-- one more is sent
sends : (setup : Setup) (here : Bool) (d : ℕ) (past : List Entry) (flit : List ℕ) (masks landed sent : List (List ℕ)) → landed ≡ under_masks masks sent → length masks ≤ length sent
    → (landed ≡ under_masks masks (append_if here (flit ∷ []) sent)) × (length masks ≤ length (append_if here (flit ∷ []) sent))
sends setup true d past flit masks landed sent are within = (are ∙ sym (under_more masks sent (flit ∷ []) within), omega (arith, length-append sent (flit ∷ [])))
sends setup false d past flit masks landed sent are within = (are, within)

-- one more lands
lands : (here : Bool) (mask flit : List ℕ) (masks landed sent : List (List ℕ)) (count : ℕ) → landed ≡ under_masks masks sent → length masks ≤ length sent → length masks ≡ count
    → (here ≡ true → (front : List ℕ) × (slice_get (drop (length masks) sent) 0 ≡ Some front) × (flit ≡ under_mask mask front))
    → (append_if here (flit ∷ []) landed ≡ under_masks (append_if here (mask ∷ []) masks) sent) × (length (append_if here (mask ∷ []) masks) ≤ length sent) × (length (append_if here (mask ∷ []) masks) ≡ links.count_if here count)
lands true mask flit masks landed sent count are within many front =
    let f = front refl in
    let less = inside masks sent f.0 f.1 in
    let long = length-append masks (mask ∷ []) in (
      ap (λ l. l ++ flit ∷ []) are ∙ ap (λ (g : List ℕ). under_masks masks sent ++ g ∷ []) f.2 ∙ sym (under_next masks sent mask f.0 f.1),
      omega arith,
      omega arith,
    )
lands false mask flit masks landed sent count are within many front = (are, within, many)

-- the front of a line is the next of the flits that were sent
next_front : (topology : Topology) (d direction n : ℕ) (past : List Entry) (front : StampedFlit) → direction ≡ d → n ≡ landed_count d past
    → slice_get (line (sizes_on topology direction).profile (toward direction) (entries_on topology direction past)) 0 ≡ Some front → slice_get (drop n (sent_flits d past)) 0 ≡ Some front.flit
unfolding line
next_front topology d direction n past front same many is =
    let here : slice_get (line (sizes_on topology d).profile (toward d) (entries_on topology d past)) 0 ≡ Some front =
    subst (λ (e : ℕ). slice_get (line (sizes_on topology e).profile (toward e) (entries_on topology e past)) 0 ≡ Some front) same is in
    let count : landings (toward d) (entries_on topology d past) ≡ n = sym (landed_are topology d past) ∙ sym many in
    ap (λ (l : List (List ℕ)). slice_get (drop n l) 0) (sent_are topology d past)
    ∙ front_flit (links_sent (sizes_on topology d).profile (toward d) (entries_on topology d past)) n front
    (subst (λ (k : ℕ). slice_get (drop k (links_sent (sizes_on topology d).profile (toward d) (entries_on topology d past))) 0 ≡ Some front) count here)

landing : (setup : Setup) (d : ℕ) (past : List Entry) (direction : ℕ) (flit mask : List ℕ) (front : StampedFlit) → slice_get setup.schedule (length past) ≡ Some (steps.Land direction mask)
    → slice_get (line (sizes_on setup.topology direction).profile (toward direction) (entries_on setup.topology direction past)) 0 ≡ Some front → flit ≡ under_mask mask front.flit
    → has_passed past ≡ false → AreUnderMasks setup d past
    → (append_if (direction == d) (flit ∷ []) (landed_flits d past) ≡ under_masks (append_if (direction == d) (mask_of_step (slice_get setup.schedule (length past)) ∷ []) (landed_masks d setup.schedule past)) (sent_flits d past))
    × (length (append_if (direction == d) (mask_of_step (slice_get setup.schedule (length past)) ∷ []) (landed_masks d setup.schedule past)) ≤ length (sent_flits d past))
    × (length (append_if (direction == d) (mask_of_step (slice_get setup.schedule (length past)) ∷ []) (landed_masks d setup.schedule past)) ≡ links.count_if (direction == d) (landed_count d past))
landing setup d past direction flit mask front step is flit_is on are =
    let of_step : mask_of_step (slice_get setup.schedule (length past)) ≡ mask = ap mask_of_step step in
    lands (direction == d) (mask_of_step (slice_get setup.schedule (length past))) flit (landed_masks d setup.schedule past) (landed_flits d past) (sent_flits d past) (landed_count d past) are.are are.within (are.count on)
    (λ here. (
      front.flit,
      next_front setup.topology d direction (length (landed_masks d setup.schedule past)) past front (eqb-true direction d here) (are.count on) is,
      flit_is ∙ ap (λ (m : List ℕ). under_mask m front.flit) (sym of_step),
    ))

one_entry : (setup : Setup) (d : ℕ) (entry : Entry) (past : List Entry) → EntryRule setup past entry → has_passed past ≡ false → AreUnderMasks setup d past → AreUnderMasks setup d (entry ∷ past)
unfolding landed_flits sent_flits landed_masks landed_count
one_entry setup d (Sent direction what flit) past right on is =
    let more = sends setup (direction == d) d past flit (landed_masks d setup.schedule past) (landed_flits d past) (sent_flits d past) is.are is.within in
    record { are = more.0; within = more.1; count = λ none. is.count on }
one_entry setup d (Landed direction flit outcome) past right on is =
    let more = landing setup d past direction flit right.mask right.landing.front right.step right.landing.is_front right.landing.flit_is on is in
    record { are = more.0; within = more.1; count = λ none. more.2 }
one_entry setup d (Passed direction flit) past right on is =
    let more = landing setup d past direction flit right.mask right.front right.step right.is_front right.flit_is on is in
    record { are = more.0; within = more.1; count = λ none. absurd (let clash : true ≡ false = none in cc) }
one_entry setup d (Gave host tag poisoned request) past right on is = record { are = is.are; within = is.within; count = λ none. is.count on }
one_entry setup d (Shifted cube port goal) past right on is = record { are = is.are; within = is.within; count = λ none. is.count on }
one_entry setup d (Dropped cube port) past right on is = record { are = is.are; within = is.within; count = λ none. is.count on }
one_entry setup d (Spread cube vault bank) past right on is = record { are = is.are; within = is.within; count = λ none. is.count on }
one_entry setup d (Executed unit host tag request answer) past right on is = record { are = is.are; within = is.within; count = λ none. is.count on }
one_entry setup d (Lifted cube from port) past right on is = record { are = is.are; within = is.within; count = λ none. is.count on }
one_entry setup d (Took host tag answer) past right on is = record { are = is.are; within = is.within; count = λ none. is.count on }
one_entry setup d (Discarded host) past right on is = record { are = is.are; within = is.within; count = λ none. is.count on }
one_entry setup d (Unlocked direction) past right on is = record { are = is.are; within = is.within; count = λ none. is.count on }
one_entry setup d (Through cube port direction) past right on is = record { are = is.are; within = is.within; count = λ none. is.count on }
one_entry setup d (Retired slot) past right on is = record { are = is.are; within = is.within; count = λ none. is.count on }
one_entry setup d (Idle step cause) past right on is = record { are = is.are; within = is.within; count = λ none. is.count on }

-- the flits that landed are the first that were sent, each under the mask of its step
pub wire_order : (setup : Setup) (d : ℕ) (past : List Entry) → Lawful setup past → AreUnderMasks setup d past
unfolding landed_flits sent_flits landed_masks landed_count
wire_order setup d [] lawful = record { are = refl; within = omega arith; count = λ none. refl }
wire_order setup d (entry ∷ past) lawful =
    one_entry setup d entry past (entry_rule setup entry past lawful) (not_passed setup entry past lawful) (wire_order setup d past (lawful_past setup entry past lawful))

-- the requests of a script that a host gives first
abbrev first_of : Setup → (host count : ℕ) → List ScriptRequest
first_of setup host count = map said (take count (items_of host setup.script))

one_more : (items : List ItemFields) (count : ℕ) (item : ItemFields) → slice_get items count ≡ Some item → map said (take (count + 1) items) ≡ map said (take count items) ++ said item ∷ []
one_more items count item at =
    let next : take (suc count) items ≡ take count items ++ item ∷ [] =
    take-suc items count item (slice_get_within items count item at) ∙ ap (λ (i : ItemFields). take count items ++ i ∷ []) (get_or_from_slice_get items count item item at) in
    let more : count + 1 ≡ suc count = omega arith in
    ap (λ (n : ℕ). map said (take n items)) more ∙ ap (map said) next ∙ map-append said (take count items) (item ∷ [])

giving : (setup : Setup) (test : Bool) (host h : ℕ) (past : List Entry) (tag : Option ℕ) (poisoned : Bool) (request : RequestFields) → (host == h) ≡ test → HasGiven setup past host tag poisoned request
    → given_by h past ≡ first_of setup h (given_count h past)
    → append_if test (record { poisoned = poisoned; request = request } ∷ []) (given_by h past) ≡ first_of setup h (count_if test (given_count h past))
unfolding host_of
giving setup false host h past tag poisoned request test right is = is
giving setup true host h past tag poisoned request test right is =
    let same : host ≡ h = eqb-true host h test in
    let at : slice_get (items_of h setup.script) (given_count h past) ≡ Some right.item =
    subst (λ (n : ℕ). slice_get (items_of n setup.script) (given_count n past) ≡ Some right.item) same right.is_next in
    let one : record { poisoned = poisoned; request = request } ≡ said right.item = let a = right.is_poisoned in let b = right.is_request in cc in
    ap (λ (l : List ScriptRequest). l ++ record { poisoned = poisoned; request = request } ∷ []) is
    ∙ ap (λ (s : ScriptRequest). first_of setup h (given_count h past) ++ s ∷ []) one
    ∙ sym (one_more (items_of h setup.script) (given_count h past) right.item at)

one_given : (setup : Setup) (h : ℕ) (entry : Entry) (past : List Entry) → EntryRule setup past entry → given_by h past ≡ first_of setup h (given_count h past)
    → given_by h (entry ∷ past) ≡ first_of setup h (given_count h (entry ∷ past))
unfolding given_by given_count
one_given setup h (Gave host tag poisoned request) past right is = giving setup (host == h) host h past tag poisoned request refl right is
one_given setup h (Sent direction what flit) past right is = is
one_given setup h (Landed direction flit outcome) past right is = is
one_given setup h (Shifted cube port goal) past right is = is
one_given setup h (Dropped cube port) past right is = is
one_given setup h (Spread cube vault bank) past right is = is
one_given setup h (Executed unit host tag request answer) past right is = is
one_given setup h (Lifted cube from port) past right is = is
one_given setup h (Took host tag answer) past right is = is
one_given setup h (Discarded host) past right is = is
one_given setup h (Unlocked direction) past right is = is
one_given setup h (Passed direction flit) past right is = is
one_given setup h (Through cube port direction) past right is = is
one_given setup h (Retired slot) past right is = is
one_given setup h (Idle step cause) past right is = is

-- what a host gave are the first requests that the script has for it
first_given : (setup : Setup) (h : ℕ) (past : List Entry) → Lawful setup past → given_by h past ≡ first_of setup h (given_count h past)
unfolding given_by given_count
first_given setup h [] lawful = refl
first_given setup h (entry ∷ past) lawful = one_given setup h entry past (entry_rule setup entry past lawful) (first_given setup h past (lawful_past setup entry past lawful))

pub is_scripted : (setup : Setup) (past : List Entry) → Lawful setup past → IsScripted setup.script past
is_scripted setup past lawful = record {
  given = λ h.
      let items = items_of h setup.script in
      let count = given_count h past in (
        map said (drop count items),
        ap (map said) (sym (take-append-drop count items)) ∙ map-append said (take count items) (drop count items)
            ∙ ap (λ (l : List ScriptRequest). l ++ map said (drop count items)) (sym (first_given setup h past lawful)),
      );
}
