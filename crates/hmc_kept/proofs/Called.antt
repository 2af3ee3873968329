-- The calls of links make entries, by the numbers of directions.
use Rattle.std.proofs.Common.{◌≡◌, ◌/◌, ◌==◌, ◌∙◌, ℕ, Bool, true, false, if◌then◌else◌, List, ◌∷◌, refl, sym, ap, eq-eqb, Some, eqb-true, ap₂, ◌&&◌}
use Rattle.hmc_codes.specs.Link.{LinkFields}
use Rattle.hmc_case.specs.declared.setup.LinkRow.{LinkRow}
use Rattle.hmc_ends.specs.Answers.{after_call}
use Rattle.hmc_packet.specs.declared.feed.Feed.TheVariants.{Waiting}
use Rattle.hmc_send.specs.LinkCalls.{is_full, LinkCall, view_in, may_pass_on, has_room, next_entry, with_entry, holds_packet, entry_if, names_flits}
use Rattle.hmc_send.specs.LinkEntries.{LinkEntry, put_if}
use Rattle.hmc_send.specs.declared.toward.Toward.{Toward}
use Rattle.hmc_journal.specs.Links.{toward, put_on, taken_if, link_entries}
use Rattle.hmc_kept.specs.Called.{sizes_at, sizes_by, called, taken_where}
use Rattle.hmc_entries.specs.declared.entry.Entry.{Entry}
use Rattle.hmc_packet.specs.declared.feed.Feed.{Feed}
use Rattle.hmc_send.specs.Choice as sends
use Rattle.hmc_send.specs.LinkCalls as calls
use Rattle.hmc_send.specs.declared.sent.Sent.{Sent as Sending}
use Rattle.hmc_packet.specs.Head.{head_in}
use Rattle.hmc_journal.specs.Setup.{Topology}
use Rattle.hmc_journal.proofs.LinkKept.{room_taken}
use Rattle.hmc_send.specs.LinkSenders.{tokens}
use Rattle.hmc_journal.specs.Counts.{token_counts}

pub called_here : (rows : List LinkRow) (direction : ℕ) (call : Toward → LinkCall) (entries : ℕ → List LinkEntry)
    → called rows direction call entries (direction / 2) ≡ after_call (sizes_by rows direction) (entries (direction / 2)) (call (toward direction))
called_here rows direction call entries =
    ap (λ (t : Bool). if t then after_call (sizes_by rows direction) (entries (direction / 2)) (call (toward direction)) else entries (direction / 2)) (eq-eqb (direction / 2) (direction / 2) refl)

pub called_other : (rows : List LinkRow) (direction link : ℕ) (call : Toward → LinkCall) (entries : ℕ → List LinkEntry) → (direction / 2 == link) ≡ false → called rows direction call entries link ≡ entries link
called_other rows direction link call entries is =
    ap (λ (t : Bool). if t then after_call (sizes_at rows link) (entries link) (call (toward direction)) else entries link) is

pub put_here : (rows : List LinkRow) (direction link : ℕ) (call : Toward → LinkCall) (entry : ℕ → Toward → LinkEntry) (entries : ℕ → List LinkEntry) (test : Bool) → (direction / 2 == link) ≡ test
    → after_call (sizes_by rows direction) (entries (direction / 2)) (call (toward direction)) ≡ entry (direction / 2) (toward direction) ∷ entries (direction / 2) → called rows direction call entries link ≡ put_on link (Some direction) (entry link) (entries link)
put_here rows direction link call entry entries false is same =
    called_other rows direction link call entries is ∙ sym (ap (λ (t : Bool). put_if t (entry link (toward direction)) (entries link)) is)
put_here rows direction link call entry entries true is same =
    ap (called rows direction call entries) (sym (eqb-true (direction / 2) link is)) ∙ called_here rows direction call entries ∙ same
    ∙ ap (λ (n : ℕ). entry n (toward direction) ∷ entries n) (eqb-true (direction / 2) link is) ∙ sym (ap (λ (t : Bool). put_if t (entry link (toward direction)) (entries link)) is)

pub called_puts : (rows : List LinkRow) (direction link : ℕ) (call : Toward → LinkCall) (entry : ℕ → Toward → LinkEntry) (entries : ℕ → List LinkEntry)
    → after_call (sizes_by rows direction) (entries (direction / 2)) (call (toward direction)) ≡ entry (direction / 2) (toward direction) ∷ entries (direction / 2) → called rows direction call entries link ≡ put_on link (Some direction) (entry link) (entries link)
called_puts rows direction link call entry entries same = put_here rows direction link call entry entries (direction / 2 == link) refl same

-- a call that makes no entry
pub stay_here : (rows : List LinkRow) (direction link : ℕ) (call : Toward → LinkCall) (entries : ℕ → List LinkEntry) (test : Bool) → (direction / 2 == link) ≡ test
    → after_call (sizes_by rows direction) (entries (direction / 2)) (call (toward direction)) ≡ entries (direction / 2) → called rows direction call entries link ≡ entries link
stay_here rows direction link call entries false is same = called_other rows direction link call entries is
stay_here rows direction link call entries true is same =
    ap (called rows direction call entries) (sym (eqb-true (direction / 2) link is)) ∙ called_here rows direction call entries ∙ same ∙ ap entries (eqb-true (direction / 2) link is)

pub called_stays : (rows : List LinkRow) (direction link : ℕ) (call : Toward → LinkCall) (entries : ℕ → List LinkEntry)
    → after_call (sizes_by rows direction) (entries (direction / 2)) (call (toward direction)) ≡ entries (direction / 2) → called rows direction call entries link ≡ entries link
called_stays rows direction link call entries same = stay_here rows direction link call entries (direction / 2 == link) refl same

pub sent_call : (rows : List LinkRow) (direction : ℕ) (feed : Feed) (entries : ℕ → List LinkEntry) (full : Bool) (sending : Sending) → is_full (sizes_by rows direction) (toward direction) (entries (direction / 2)) ≡ full
    → sends.choice (sizes_by rows direction).profile (view_in (sizes_by rows direction) (toward direction) (entries (direction / 2)) feed) ≡ sending
    → after_call (sizes_by rows direction) (entries (direction / 2)) (LinkCall.send (toward direction) feed) ≡ with_entry (entries (direction / 2)) (calls.sent_entry (toward direction) feed full sending)
unfolding next_entry
sent_call rows direction feed entries full sending is choice_is =
    ap (λ (f : Bool). with_entry (entries (direction / 2)) (calls.sent_entry (toward direction) feed f (sends.choice (sizes_by rows direction).profile (view_in (sizes_by rows direction) (toward direction) (entries (direction / 2)) feed)))) is
    ∙ ap (λ (s : Sending). with_entry (entries (direction / 2)) (calls.sent_entry (toward direction) feed full s)) choice_is

pub take_holds : (link : LinkFields) (past : List LinkEntry) (d : Toward) → holds_packet link d past ≡ true → after_call link past (LinkCall.take d) ≡ LinkEntry.taken d ∷ past
unfolding next_entry
take_holds link past d is = ap (λ (t : Bool). with_entry past (calls.entry_if t (LinkEntry.taken d))) is

pub taken_calls : (rows : List LinkRow) (direction link : ℕ) (onward : Bool) (entries : ℕ → List LinkEntry) → (onward ≡ true → holds_packet (sizes_by rows direction) (toward direction) (entries (direction / 2)) ≡ true)
    → taken_where onward rows direction entries link ≡ taken_if onward link direction (entries link)
taken_calls rows direction link true entries holds =
    called_puts rows direction link LinkCall.take (λ _. LinkEntry.taken) entries (take_holds (sizes_by rows direction) (entries (direction / 2)) (toward direction) (holds refl))
taken_calls rows direction link false entries holds = refl

-- a cut-through that may begin is an entry
pub begin_call : (rows : List LinkRow) (onto : ℕ) (head : List ℕ) (flits : ℕ) (entries : ℕ → List LinkEntry) → may_pass_on (view_in (sizes_by rows onto) (toward onto) (entries (onto / 2)) Waiting) flits ≡ true → names_flits flits (head_in head) ≡ true
    → after_call (sizes_by rows onto) (entries (onto / 2)) (LinkCall.begin (toward onto) head flits) ≡ LinkEntry.through (toward onto) head flits ∷ entries (onto / 2)
unfolding next_entry
begin_call rows onto head flits entries may named =
    ap₂ (λ (a b : Bool). with_entry (entries (onto / 2)) (entry_if (a && b) (LinkEntry.through (toward onto) head flits))) may named

-- a take leaves the room of all directions
pub room_put : (rows : List LinkRow) (direction onward : ℕ) (past : List LinkEntry) (test : Bool) → has_room (sizes_by rows onward) (toward onward) (put_if test (LinkEntry.taken (toward direction)) past) ≡ has_room (sizes_by rows onward) (toward onward) past
room_put rows direction onward past true = room_taken (sizes_by rows onward) (toward onward) (toward direction) past
room_put rows direction onward past false = refl

pub tokens_told : (topology : Topology) (past : List Entry) (direction : ℕ) → tokens (sizes_by topology.links direction) (toward direction) (link_entries topology (direction / 2) past) ≡ token_counts topology past direction
unfolding token_counts
tokens_told topology past direction = refl
