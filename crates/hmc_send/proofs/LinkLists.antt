-- What the calls of a link make is a lawful list.
use Rattle.std.proofs.Common.{◌≡◌, ◌∙◌, ℕ, Bool, true, false, List, [], ◌∷◌, Option, Some, None, refl, sym, ap}
use Rattle.hmc_codes.specs.Link.{LinkFields}
use Rattle.hmc_packet.specs.declared.feed.Feed.{Feed}
use Rattle.hmc_send.specs.declared.sent.Sent.{Sent}
use Rattle.hmc_send.specs.declared.sent.Sent.TheVariants.{Out, Starved}
use Rattle.hmc_send.specs.LinkCalls.{LinkCall, entry_if, sent_entry, landed_front, next_entry, call_of, IsLawful, with_entry, entries_after_calls}
use Rattle.hmc_send.specs.declared.toward.Toward.{Toward}
use Rattle.hmc_send.specs.LinkEntries.{LinkEntry}
use Rattle.hmc_send.specs.LinkLines.{StampedFlit}

some_is : (a b : LinkEntry) → Some a ≡ Some b → a ≡ b
some_is a b is = cc

entry_if-is : (b : Bool) (a e : LinkEntry) → entry_if b a ≡ Some e → a ≡ e
entry_if-is true a e is = some_is a e is
entry_if-is false a e is = absurd cc

sent-call : (d : Toward) (feed : Feed) (full : Bool) (s : Sent) (e : LinkEntry) → sent_entry d feed full s ≡ Some e → call_of e ≡ LinkCall.send d feed
sent-call d feed true (Out flit as_what) e is = absurd cc
sent-call d feed true Starved e is = absurd cc
sent-call d feed false (Out flit as_what) e is = sym (ap call_of (some_is (LinkEntry.sent d feed as_what flit) e is))
sent-call d feed false Starved e is = absurd cc

landed-call : (link : LinkFields) (d : Toward) (past : List LinkEntry) (mask : List ℕ) (front : Option StampedFlit) (e : LinkEntry) → landed_front link d past mask front ≡ Some e → call_of e ≡ LinkCall.land d mask
landed-call link d past mask None e is = absurd cc
landed-call link d past mask (Some front) e is = sym (ap call_of (entry_if-is _ _ e is))

-- an entry is of the call that made it
pub next-call : (link : LinkFields) (past : List LinkEntry) (call : LinkCall) (e : LinkEntry) → next_entry link past call ≡ Some e → call_of e ≡ call
unfolding next_entry
next-call link past (LinkCall.hand d packet) e is = sym (ap call_of (entry_if-is _ (LinkEntry.handed d packet) e is))
next-call link past (LinkCall.take d) e is = sym (ap call_of (entry_if-is _ (LinkEntry.taken d) e is))
next-call link past (LinkCall.send d feed) e is = sent-call d feed _ _ e is
next-call link past (LinkCall.land d mask) e is = landed-call link d past mask _ e is
next-call link past (LinkCall.unlock d) e is = sym (ap call_of (some_is (LinkEntry.unlocked d) e is))
next-call link past (LinkCall.begin d head flits) e is = sym (ap call_of (entry_if-is _ (LinkEntry.through d head flits) e is))

one_more : (link : LinkFields) (past : List LinkEntry) (call : LinkCall) (o : Option LinkEntry) → next_entry link past call ≡ o → IsLawful link past → IsLawful link (with_entry past o)
unfolding IsLawful
one_more link past call None is lawful = lawful
one_more link past call (Some e) is lawful = (ap (next_entry link past) (next-call link past call e is) ∙ is, lawful)

-- so what calls make after a lawful list is lawful
pub calls_are_lawful : (link : LinkFields) (past : List LinkEntry) (calls : List LinkCall) → IsLawful link past → IsLawful link (entries_after_calls link past calls)
unfolding entries_after_calls
calls_are_lawful link past [] lawful = lawful
calls_are_lawful link past (call ∷ calls) lawful =
    calls_are_lawful link (with_entry past (next_entry link past call)) calls
    (one_more link past call (next_entry link past call) refl lawful)
