-- What only a send on its direction changes of a sender.
use Rattle.std.proofs.Common.{◌≡◌, ◌∙◌, ◌/◌, ◌==◌, ◌&&◌, ℕ, Bool, true, false, List, [], ◌∷◌, Some, refl, sym, ap, eq-eqb}
use Rattle.hmc_codes.specs.Link.{LinkFields}
use Rattle.hmc_codes.specs.declared.place.Place.TheVariants as places
use Rattle.hmc_packet.specs.declared.feed.Feed.{Feed}
use Rattle.hmc_packet.specs.declared.outcome.Outcome.{Outcome}
use Rattle.hmc_packet.specs.declared.what.What.{What}
use Rattle.hmc_packet.specs.Parts.{lng_of}
use Rattle.hmc_send.specs.declared.toward.Toward.{Toward}
use Rattle.hmc_send.specs.declared.toward.Toward.TheVariants.{Forth, Back}
use Rattle.hmc_send.specs.Entries.{SenderEntry}
use Rattle.hmc_send.specs.LinkEntries.{LinkEntry, same_way, put_if}
use Rattle.hmc_send.specs.LinkSenders.{sender_entries}
use Rattle.hmc_entries.specs.declared.entry.Entry.{Entry}
use Rattle.hmc_entries.specs.declared.entry.Entry.TheVariants.{Gave, Sent, Landed, Shifted, Dropped, Spread, Executed, Lifted, Took, Discarded, Through, Unlocked, Retired, Passed, Idle}
use Rattle.hmc_journal.specs.Setup.{Topology}
use Rattle.hmc_journal.specs.Queues.{front_of, contents}
use Rattle.hmc_journal.specs.Queues.QueueId.{Port}
use Rattle.hmc_journal.specs.Links.{toward, taken_at, landing_mask, forwarded_on, link_sizes, link_entries, sizes_on, entries_on}
use Rattle.hmc_laws.proofs.LinkHanded.{landing-same}
use Rattle.hmc_journal.proofs.Projections.{feed_in, goes_at, came_at, same_direction, put_on-same, taken_if-same, handed_on-same}

-- an acknowledgement and a run of Starts change nothing of it
pub record IsOfSends {X : Type 0} (f : List SenderEntry → X) : Type 0 where
  pub acknowledged : (past : List SenderEntry) (n : ℕ) → f (SenderEntry.acknowledged n ∷ past) ≡ f past
  pub ran : (past : List SenderEntry) → f (SenderEntry.ran ∷ past) ≡ f past

landed-same : {X : Type 0} (f : List SenderEntry → X) → IsOfSends f → (sizes : LinkFields) (d way : Toward) (mask flit : List ℕ) (outcome : Outcome) (past : List LinkEntry) →
    f (sender_entries sizes d (LinkEntry.landed way mask flit outcome ∷ past)) ≡ f (sender_entries sizes d past)
unfolding sender_entries
landed-same f is sizes Forth Forth mask flit outcome past = refl
landed-same f is sizes Forth Back mask flit outcome past = landing-same f outcome _ _ _ is.acknowledged is.ran
landed-same f is sizes Back Forth mask flit outcome past = landing-same f outcome _ _ _ is.acknowledged is.ran
landed-same f is sizes Back Back mask flit outcome past = refl

-- not a send, and no cut-through
abbrev pub IsNoSend : Entry → Type 0
IsNoSend (Sent direction what flit) = ⊥
IsNoSend (Through cube port direction) = ⊥
IsNoSend _ = Unit {0}

-- what holds of each entry: shown of a send, of a cut-through, and of all others at once
pub by_sending : (P : Entry → Type 0) → ((direction : ℕ) (as_what : What) (flit : List ℕ) → P (Sent direction as_what flit)) → ((cube port direction : ℕ) → P (Through cube port direction)) → ((entry : Entry) → IsNoSend entry → P entry) → (entry : Entry) → P entry
by_sending P sent through quiet (Sent direction as_what flit) = sent direction as_what flit
by_sending P sent through quiet (Through cube port direction) = through cube port direction
by_sending P sent through quiet (Gave host tag poisoned request) = quiet (Gave host tag poisoned request) tt
by_sending P sent through quiet (Landed direction flit outcome) = quiet (Landed direction flit outcome) tt
by_sending P sent through quiet (Shifted cube port goal) = quiet (Shifted cube port goal) tt
by_sending P sent through quiet (Dropped cube port) = quiet (Dropped cube port) tt
by_sending P sent through quiet (Spread cube vault bank) = quiet (Spread cube vault bank) tt
by_sending P sent through quiet (Executed unit host tag request answer) = quiet (Executed unit host tag request answer) tt
by_sending P sent through quiet (Lifted cube from port) = quiet (Lifted cube from port) tt
by_sending P sent through quiet (Took host tag answer) = quiet (Took host tag answer) tt
by_sending P sent through quiet (Discarded host) = quiet (Discarded host) tt
by_sending P sent through quiet (Unlocked direction) = quiet (Unlocked direction) tt
by_sending P sent through quiet (Retired slot) = quiet (Retired slot) tt
by_sending P sent through quiet (Passed direction flit) = quiet (Passed direction flit) tt
by_sending P sent through quiet (Idle step cause) = quiet (Idle step cause) tt

abbrev pub of_sends : {X : Type 0} → (List SenderEntry → X) → Topology → ℕ → List LinkEntry → X
of_sends f topology d past = f (sender_entries (sizes_on topology d) (toward d) past)

pub no-send : {X : Type 0} (f : List SenderEntry → X) → IsOfSends f → (topology : Topology) (d : ℕ) (entry : Entry) (past : List Entry) → IsNoSend entry
    → of_sends f topology d (entries_on topology d (entry ∷ past)) ≡ of_sends f topology d (entries_on topology d past)
unfolding link_entries sender_entries
no-send f is topology d (Sent direction what flit) past quiet = absurd quiet
no-send f is topology d (Landed direction flit outcome) past quiet =
    taken_if-same (of_sends f topology d) (goes_at topology direction outcome past) (d / 2) direction _ (λ e. refl)
    ∙ put_on-same (of_sends f topology d) (d / 2) (Some direction) (λ way. LinkEntry.landed way (landing_mask (link_sizes topology (d / 2)) way (entries_on topology d past) flit) flit outcome) (entries_on topology d past)
    (λ way. landed-same f is (sizes_on topology d) (toward d) way (landing_mask (link_sizes topology (d / 2)) way (entries_on topology d past) flit) flit outcome (entries_on topology d past))
no-send f is topology d (Gave host tag poisoned request) past quiet = put_on-same (of_sends f topology d) (d / 2) _ (λ way. LinkEntry.handed way _) (entries_on topology d past) (λ e. refl)
no-send f is topology d (Lifted cube from port) past quiet = put_on-same (of_sends f topology d) (d / 2) _ (λ way. LinkEntry.handed way _) (entries_on topology d past) (λ e. refl)
no-send f is topology d (Shifted cube port goal) past quiet =
    handed_on-same (of_sends f topology d) topology (d / 2) cube goal (front_of (contents topology past (Port cube port))) (taken_at topology (d / 2) (places.Port cube port) (entries_on topology d past)) (λ e. refl)
    ∙ put_on-same (of_sends f topology d) (d / 2) _ LinkEntry.taken (entries_on topology d past) (λ e. refl)
no-send f is topology d (Unlocked direction) past quiet = put_on-same (of_sends f topology d) (d / 2) (Some direction) LinkEntry.unlocked (entries_on topology d past) (λ e. refl)
no-send f is topology d (Dropped cube port) past quiet = put_on-same (of_sends f topology d) (d / 2) _ LinkEntry.taken (entries_on topology d past) (λ e. refl)
no-send f is topology d (Took host tag answer) past quiet = put_on-same (of_sends f topology d) (d / 2) _ LinkEntry.taken (entries_on topology d past) (λ e. refl)
no-send f is topology d (Discarded host) past quiet = put_on-same (of_sends f topology d) (d / 2) _ LinkEntry.taken (entries_on topology d past) (λ e. refl)
no-send f is topology d (Executed unit host tag request answer) past quiet = refl
no-send f is topology d (Spread cube vault bank) past quiet = refl
no-send f is topology d (Passed direction flit) past quiet = refl
no-send f is topology d (Through cube port direction) past quiet = absurd quiet
no-send f is topology d (Retired slot) past quiet = refl
no-send f is topology d (Idle step cause) past quiet = refl

-- a send on another direction
other-way : {X : Type 0} (f : List SenderEntry → X) (sizes : LinkFields) (d e : Toward) (feed : Feed) (as_what : What) (flit : List ℕ) (past : List LinkEntry) → same_way d e ≡ false
    → f (sender_entries sizes d (LinkEntry.sent e feed as_what flit ∷ past)) ≡ f (sender_entries sizes d past)
unfolding sender_entries
other-way f sizes Forth Back feed as_what flit past is = refl
other-way f sizes Back Forth feed as_what flit past is = refl
other-way f sizes Forth Forth feed as_what flit past is = absurd (let clash : true ≡ false = is in cc)
other-way f sizes Back Back feed as_what flit past is = absurd (let clash : true ≡ false = is in cc)

pub sent-elsewhere : {X : Type 0} (f : List SenderEntry → X) (topology : Topology) (d direction : ℕ) (as_what : What) (flit : List ℕ) (past : List Entry) → (direction == d) ≡ false
    → of_sends f topology d (entries_on topology d (Sent direction as_what flit ∷ past)) ≡ of_sends f topology d (entries_on topology d past)
unfolding link_entries
sent-elsewhere f topology d direction as_what flit past off = by_here (direction / 2 == d / 2) (sym (same_direction d direction) ∙ off)
  where
    feed : Feed
    feed = feed_in topology (d / 2) direction past (toward direction)

    by_here : (here : Bool) → (here && same_way (toward d) (toward direction)) ≡ false
        → of_sends f topology d (put_if here (LinkEntry.sent (toward direction) feed as_what flit) (entries_on topology d past)) ≡ of_sends f topology d (entries_on topology d past)
    by_here false quiet = refl
    by_here true quiet = other-way f (sizes_on topology d) (toward d) (toward direction) feed as_what flit (entries_on topology d past) quiet

-- a send on this one
pub sent-here : (topology : Topology) (d : ℕ) (as_what : What) (flit : List ℕ) (past : List Entry)
    → entries_on topology d (Sent d as_what flit ∷ past) ≡ LinkEntry.sent (toward d) (feed_in topology (d / 2) d past (toward d)) as_what flit ∷ entries_on topology d past
unfolding link_entries
sent-here topology d as_what flit past = ap (λ (b : Bool). put_if b (LinkEntry.sent (toward d) (feed_in topology (d / 2) d past (toward d)) as_what flit) (entries_on topology d past)) (eq-eqb (d / 2) (d / 2) refl)

-- ---- cut-throughs

-- a packet is there that is forwarded
abbrev pub IsSome : List (List ℕ) → Type 0
IsSome [] = ⊥
IsSome (head ∷ rest) = Unit {0}

-- onto another direction
other-through : {X : Type 0} (f : List SenderEntry → X) (sizes : LinkFields) (d e : Toward) (head : List ℕ) (flits : ℕ) (past : List LinkEntry) → same_way d e ≡ false
    → f (sender_entries sizes d (LinkEntry.through e head flits ∷ past)) ≡ f (sender_entries sizes d past)
unfolding sender_entries
other-through f sizes Forth Back head flits past is = refl
other-through f sizes Back Forth head flits past is = refl
other-through f sizes Forth Forth head flits past is = absurd (let clash : true ≡ false = is in cc)
other-through f sizes Back Back head flits past is = absurd (let clash : true ≡ false = is in cc)

forwarded-elsewhere : {X : Type 0} (f : List SenderEntry → X) (topology : Topology) (d direction : ℕ) (came : List (List ℕ)) (past : List Entry) → (direction == d) ≡ false
    → of_sends f topology d (forwarded_on (d / 2) direction came (entries_on topology d past)) ≡ of_sends f topology d (entries_on topology d past)
forwarded-elsewhere f topology d direction [] past off = refl
forwarded-elsewhere f topology d direction (head ∷ rest) past off = by_here (direction / 2 == d / 2) (sym (same_direction d direction) ∙ off)
  where
    by_here : (here : Bool) → (here && same_way (toward d) (toward direction)) ≡ false
        → of_sends f topology d (put_if here (LinkEntry.through (toward direction) head (lng_of head)) (entries_on topology d past)) ≡ of_sends f topology d (entries_on topology d past)
    by_here false quiet = refl
    by_here true quiet = other-through f (sizes_on topology d) (toward d) (toward direction) head (lng_of head) (entries_on topology d past) quiet

pub through-elsewhere : {X : Type 0} (f : List SenderEntry → X) (topology : Topology) (d cube port direction : ℕ) (past : List Entry) → (direction == d) ≡ false
    → of_sends f topology d (entries_on topology d (Through cube port direction ∷ past)) ≡ of_sends f topology d (entries_on topology d past)
unfolding link_entries
through-elsewhere f topology d cube port direction past off = forwarded-elsewhere f topology d direction (came_at topology cube port past) past off

-- onto this one
forwarded-here : (topology : Topology) (d : ℕ) (came : List (List ℕ)) (head : List ℕ) (rest : List (List ℕ)) (past : List LinkEntry) → came ≡ head ∷ rest
    → forwarded_on (d / 2) d came past ≡ LinkEntry.through (toward d) head (lng_of head) ∷ past
forwarded-here topology d came head rest past is =
    ap (λ (c : List (List ℕ)). forwarded_on (d / 2) d c past) is ∙ ap (λ (b : Bool). put_if b (LinkEntry.through (toward d) head (lng_of head)) past) (eq-eqb (d / 2) (d / 2) refl)

pub through-here : (topology : Topology) (d cube port : ℕ) (head : List ℕ) (rest : List (List ℕ)) (past : List Entry) → came_at topology cube port past ≡ head ∷ rest
    → entries_on topology d (Through cube port d ∷ past) ≡ LinkEntry.through (toward d) head (lng_of head) ∷ entries_on topology d past
unfolding link_entries
through-here topology d cube port head rest past is = forwarded-here topology d (came_at topology cube port past) head rest (entries_on topology d past) is
