-- Under each tag the moved journal answers the first requests asked, and is at most one ahead.
use Rattle.std.proofs.Common.{◌≡◌, ◌∙◌, ◌==◌, ◌&&◌, inl, ℕ, Bool, true, false, Option, Some, None, List, [], ◌∷◌, ◌++◌, refl, sym, ap, append-nil, eqb-true}
use Rattle.std.proofs.lemmas.Bool.{and_parts}
use Rattle.hmc_codes.specs.Commands.{is_posted}
use Rattle.hmc_codes.specs.Request.{RequestFields}
use Rattle.hmc_codes.specs.declared.answer.Answer.{Answer}
use Rattle.hmc_codes.specs.declared.unit.Unit.{Unit as RequestUnit}
use Rattle.hmc_packet.specs.Packet.{PacketFields}
use Rattle.hmc_packet.specs.Transactions.{request_in}
use Rattle.hmc_serial.specs.Machine.{answer_to}
use Rattle.hmc_hops.specs.Flows.{item_if}
use Rattle.hmc_entries.specs.declared.entry.Entry.{Entry}
use Rattle.hmc_entries.specs.declared.entry.Entry.TheVariants.{Gave, Took, Executed, Retired, Shifted}
use Rattle.hmc_entries.specs.declared.outcome.Goal.{Goal}
use Rattle.hmc_journal.specs.Answers.{tag_of}
use Rattle.hmc_journal.specs.Choice.{append_if}
use Rattle.hmc_journal.specs.Delivered.{IsPrefix}
use Rattle.hmc_journal.specs.Filters.{Completion, same_tag, same_unit, asked_under, replies_under}
use Rattle.hmc_journal.specs.Lawful.{Lawful}
use Rattle.hmc_journal.specs.Network.{IsNetwork}
use Rattle.hmc_journal.specs.Queues.{front_of, contents, QueueId as queues}
use Rattle.hmc_journal.specs.Serial.{state_after}
use Rattle.hmc_journal.specs.Setup.{Setup, unit_in}
use Rattle.hmc_journal.specs.StepView.{opening_of}
use Rattle.hmc_journal.proofs.EntryRule.{lawful_past}
use Rattle.hmc_arrivals.specs.Arrivals.{is_inside}
use Rattle.hmc_ordered.proofs.Machines.{Done}
use Rattle.hmc_ordered.proofs.Matching.{under, under-append, same_under}
use Rattle.hmc_ordered.proofs.Placing.{arrive_if, placed}
use Rattle.hmc_ordered.proofs.Simulating.{NoneArrives, completions, completed_first, simulates, unit_self}
use Rattle.hmc_ordered.proofs.Tagged.{ArrivesUnder, arrives_under}
use Rattle.hmc_ordered.proofs.Tagging.{Keeps, alike, more_asked, arrived, executed}

-- the moved journal
abbrev pub moved : Setup → List Entry → List Entry
moved setup past = placed setup.topology (opening_of setup) past

abbrev by_unit : (host tag : ℕ) → List Entry → RequestUnit → List Completion
by_unit h t journal u = under h t (completions u journal)

-- what is kept of two journals under a tag
abbrev pub KeepsUnder : (host tag : ℕ) (now past : List Entry) → Type 0
KeepsUnder h t now past = Keeps (replies_under h t now) (replies_under h t past) (by_unit h t now) (by_unit h t past) (asked_under h t past)

-- ---- one more completion of a unit

abbrev completion : Done → Completion
completion d = record { request = d.one.request; answer = d.answer }

-- under the tag
on_tag : (h t : ℕ) (same : Bool) (d : Done) (list : List Done) → ((d.one.host == h) && same_tag d.one.tag t) ≡ true → under h t (append_if same (d ∷ []) list) ≡ under h t list ++ item_if same (completion d)
unfolding under
on_tag h t true d list is = under-append h t list (d ∷ []) ∙ ap (λ (b : Bool). under h t list ++ (item_if b (completion d) ++ [])) is
on_tag h t false d list is = sym (append-nil (under h t list))

-- not under the tag
off_tag : (h t : ℕ) (same : Bool) (d : Done) (list : List Done) → ((d.one.host == h) && same_tag d.one.tag t) ≡ false → under h t (append_if same (d ∷ []) list) ≡ under h t list
unfolding under
off_tag h t true d list is = under-append h t list (d ∷ []) ∙ ap (λ (b : Bool). under h t list ++ (item_if b (completion d) ++ [])) is ∙ append-nil (under h t list)
off_tag h t false d list is = refl

-- ---- an execution

executed_under : (setup : Setup) (past : List Entry) (h t : ℕ) (here : RequestUnit) (host : ℕ) (tag : Option ℕ) (request : RequestFields) (answer : Answer) → IsNetwork setup → Lawful setup (Executed here host tag request answer ∷ past) → NoneArrives setup.topology past
    → KeepsUnder h t (moved setup past) past → KeepsUnder h t (moved setup past) (Executed here host tag request answer ∷ past)
unfolding replies_under completions asked_under placed NoneArrives
executed_under setup past h t here host tag request answer network lawful none k =
    by ((host == h) && same_tag tag t) refl
  where
    d : Done
    d = record { one = record { host = host; tag = tag; request = request }; answer = answer }

    first : ((host == h) && same_tag tag t) ≡ true → IsPrefix (by_unit h t past here ++ completion d ∷ []) (by_unit h t (moved setup past) here)
    first is =
        let f = completed_first setup (Executed here host tag request answer ∷ past) here network lawful none in (
          under h t f.0,
          ap (under h t) f.1 ∙ under-append h t (append_if (same_unit here here) (d ∷ []) (completions here past)) f.0
              ∙ ap (λ l. l ++ under h t f.0) (on_tag h t (same_unit here here) d (completions here past) is ∙ ap (λ (b : Bool). by_unit h t past here ++ item_if b (completion d)) (unit_self here)),
        )

    by : (b : Bool) → ((host == h) && same_tag tag t) ≡ b
        → Keeps (replies_under h t (moved setup past)) (append_if b (completion d ∷ []) (replies_under h t past)) (by_unit h t (moved setup past)) (λ u. under h t (append_if (same_unit here u) (d ∷ []) (completions u past))) (asked_under h t past)
    by true is =
        alike (replies_under h t (moved setup past)) (replies_under h t past ++ completion d ∷ []) (by_unit h t (moved setup past)) (λ u. by_unit h t past u ++ item_if (same_unit here u) (completion d)) (by_unit h t (moved setup past)) (λ u. under h t (append_if (same_unit here u) (d ∷ []) (completions u past))) (asked_under h t past)
        (λ u. refl) (λ u. on_tag h t (same_unit here u) d (completions u past) is)
        (executed (replies_under h t (moved setup past)) (replies_under h t past) (by_unit h t (moved setup past)) (by_unit h t past) (asked_under h t past) here (completion d) k (unit_self here) (first is))
    by false is =
        alike (replies_under h t (moved setup past)) (replies_under h t past) (by_unit h t (moved setup past)) (by_unit h t past) (by_unit h t (moved setup past)) (λ u. under h t (append_if (same_unit here u) (d ∷ []) (completions u past))) (asked_under h t past)
        (λ u. refl) (λ u. off_tag h t (same_unit here u) d (completions u past) is) k

-- ---- an arrival

-- what arrives under a tag, where it does
abbrev Arriving : (setup : Setup) (past : List Entry) (h t : ℕ) → PacketFields → Option RequestFields → Bool → Type 0
Arriving setup past h t p found b = b ≡ true → (r : RequestFields) → found ≡ Some r → ((p.slid == h) && same_tag (tag_of (is_posted r.command) p.tag) t) ≡ true → ArrivesUnder setup past h t r

arrived_under : (setup : Setup) (past : List Entry) (h t : ℕ) (p : PacketFields) (found : Option RequestFields) (b : Bool) → Arriving setup past h t p found b
    → ((r : RequestFields) → ArrivesUnder setup past h t r → (u : RequestUnit) → by_unit h t (moved setup past) u ≡ by_unit h t past u)
    → KeepsUnder h t (moved setup past) past → KeepsUnder h t (arrive_if b setup.topology (opening_of setup) p found (moved setup past)) past
unfolding replies_under completions
arrived_under setup past h t p found false arrives each k = k
arrived_under setup past h t p None true arrives each k = k
arrived_under setup past h t p (Some r) true arrives each k = by ((p.slid == h) && same_tag (tag_of (is_posted r.command) p.tag) t) refl
  where
    v : RequestUnit
    v = unit_in setup.topology r

    d : Done
    d = record { one = record { host = p.slid; tag = tag_of (is_posted r.command) p.tag; request = r }; answer = answer_to (state_after (opening_of setup) (moved setup past)) r }

    by : (b : Bool) → ((p.slid == h) && same_tag (tag_of (is_posted r.command) p.tag) t) ≡ b
        → Keeps (append_if b (completion d ∷ []) (replies_under h t (moved setup past))) (replies_under h t past) (λ u. under h t (append_if (same_unit v u) (d ∷ []) (completions u (moved setup past)))) (by_unit h t past) (asked_under h t past)
    by true is =
        let a = arrives refl r refl is in
        alike (replies_under h t (moved setup past) ++ completion d ∷ []) (replies_under h t past) (λ u. by_unit h t (moved setup past) u ++ item_if (same_unit v u) (completion d)) (by_unit h t past) (λ u. under h t (append_if (same_unit v u) (d ∷ []) (completions u (moved setup past)))) (by_unit h t past) (asked_under h t past)
        (λ u. on_tag h t (same_unit v u) d (completions u (moved setup past)) is) (λ u. refl)
        (arrived (replies_under h t (moved setup past)) (replies_under h t past) (by_unit h t (moved setup past)) (by_unit h t past) (asked_under h t past) v (completion d) k (each r a) a.asked (unit_self v))
    by false is =
        alike (replies_under h t (moved setup past)) (replies_under h t past) (by_unit h t (moved setup past)) (by_unit h t past) (λ u. under h t (append_if (same_unit v u) (d ∷ []) (completions u (moved setup past)))) (by_unit h t past) (asked_under h t past)
        (λ u. off_tag h t (same_unit v u) d (completions u (moved setup past)) is) (λ u. refl) k

tag_is : (tag : Option ℕ) (t : ℕ) → same_tag tag t ≡ true → tag ≡ Some t
tag_is None t is = cc
tag_is (Some n) t is = ap Some (eqb-true n t is)

shifted_under : (setup : Setup) (past : List Entry) (h t cube port : ℕ) (goal : Goal) → IsNetwork setup → Lawful setup (Shifted cube port goal ∷ past) → NoneArrives setup.topology past
    → KeepsUnder h t (moved setup past) past → KeepsUnder h t (moved setup (Shifted cube port goal ∷ past)) (Shifted cube port goal ∷ past)
unfolding placed replies_under completions asked_under
shifted_under setup past h t cube port goal network lawful none k =
    let before = lawful_past setup (Shifted cube port goal) past lawful in
    let p = front_of (contents setup.topology past (queues.Port cube port)) in
    let sim = simulates setup past network before none in
    arrived_under setup past h t p (request_in p) (is_inside goal)
    (λ in_cube r found is.
    let parts = and_parts (p.slid == h) (same_tag (tag_of (is_posted r.command) p.tag) t) is in
    arrives_under setup past cube port goal r h t network lawful in_cube found (eqb-true p.slid h parts.0) (tag_is (tag_of (is_posted r.command) p.tag) t parts.1))
    (λ r a u. same_under setup past u h t network before (sim.units u) (a.none u)) k

-- ---- every entry

pub keeps : (setup : Setup) (past : List Entry) (h t : ℕ) → IsNetwork setup → Lawful setup past → NoneArrives setup.topology past → KeepsUnder h t (moved setup past) past
unfolding placed replies_under completions asked_under NoneArrives under
keeps setup [] h t network lawful none = record { ahead = inl (record { all = refl; each = λ u. refl }); first = ([], refl) }
keeps setup (Gave host tag poisoned request ∷ past) h t network lawful none =
    more_asked (replies_under h t (moved setup past)) (replies_under h t past) (by_unit h t (moved setup past)) (by_unit h t past) (asked_under h t past) ((host == h) && same_tag tag t) request
    (keeps setup past h t network (lawful_past setup (Gave host tag poisoned request) past lawful) none)
keeps setup (Executed here host tag request answer ∷ past) h t network lawful none =
    executed_under setup past h t here host tag request answer network lawful none (keeps setup past h t network (lawful_past setup (Executed here host tag request answer) past lawful) none)
keeps setup (Shifted cube port goal ∷ past) h t network lawful none =
    shifted_under setup past h t cube port goal network lawful none.1 (keeps setup past h t network (lawful_past setup (Shifted cube port goal) past lawful) none.1)
keeps setup (Took host tag answer ∷ past) h t network lawful none = keeps setup past h t network (lawful_past setup (Took host tag answer) past lawful) none
keeps setup (Retired slot ∷ past) h t network lawful none = keeps setup past h t network (lawful_past setup (Retired slot) past lawful) none
keeps setup (entry ∷ past) h t network lawful none = keeps setup past h t network (lawful_past setup entry past lawful) none
