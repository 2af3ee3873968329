-- What an entry leaves of hosts and links is what the journal says of them.
use Rattle.std.proofs.Common.{◌≡◌, ◌<◌, ◌==◌, ◌+◌, ◌∙◌, ℕ, zero, suc, Bool, true, false, Option, Some, None, List, [], ◌∷◌, length, drop, refl, sym, ap, arith, eqb-true}
use Rattle.std.specs.Prelude.{slice_set}
use Rattle.std.proofs.lemmas.List.{length-set}
use Rattle.hmc_codes.specs.Request.{RequestFields}
use Rattle.hmc_codes.specs.declared.answer.Answer.{Answer}
use Rattle.hmc_script.specs.Items.{ItemFields}
use Rattle.hmc_host.specs.Tags.{with_out}
use Rattle.hmc_host.specs.Settle.{after_settle}
use Rattle.hmc_host.specs.declared.settled.Settled.TheVariants as settles
use Rattle.hmc_host.specs.Host.{HostFields, items_of}
use Rattle.hmc_journal.specs.Choice.{choose}
use Rattle.hmc_entries.specs.declared.entry.Entry.{Entry}
use Rattle.hmc_entries.specs.declared.entry.Entry.TheVariants.{Gave, Sent, Landed, Shifted, Dropped, Lifted, Took, Discarded, Through, Unlocked}
use Rattle.hmc_journal.specs.Hosts.{host_of, given_count, tags_out, count_if}
use Rattle.hmc_codes.specs.declared.place.Place.{Place}
use Rattle.hmc_codes.specs.declared.place.Place.TheVariants as places
use Rattle.hmc_packet.specs.Landings.{ReceiverEntry, pending}
use Rattle.hmc_send.specs.LinkEntries.{receiver_entries}
use Rattle.hmc_journal.specs.Directions.{receiver_of}
use Rattle.hmc_journal.specs.Links.{toward, entries_on, link_entries, gathered_at, forwarded_on}
use Rattle.hmc_journal.specs.Piped.{pipe_of}
use Rattle.hmc_journal.specs.Next.{next}
use Rattle.hmc_journal.specs.Setup.{Setup, directions_in, direction_to}
use Rattle.hmc_journal.specs.StepView.{view_of}
use Rattle.hmc_kept.specs.Hosts.{hosts_after, IsHostIn, gave_one, with_host, host_in, no_host}
use Rattle.hmc_kept.specs.After.{gathered_from, entries_after}
use Rattle.hmc_kept.proofs.Elements.{changed_at}
use Rattle.hmc_kept.proofs.PipedThen.{AreLawful}
use Rattle.hmc_kept.proofs.LawsShown.{IsLawBound}

-- one host is changed by an entry
pub host_changed : (hosts : List HostFields) (h host : ℕ) (f : HostFields → HostFields) (before after : ℕ → HostFields) (test : Bool) → (h == host) ≡ test → h < length hosts → ((k : ℕ) → k < length hosts → host_in hosts k ≡ before k)
    → after host ≡ choose test (f (before host)) (before host) → host < length hosts → host_in (with_host h f hosts) host ≡ after host
host_changed hosts h host f before after true is inside same next there =
    let here : h ≡ host = eqb-true h host is in
    changed_at hosts h host (f (host_in hosts h)) no_host true is inside ∙ ap f (ap (host_in hosts) here ∙ same host there) ∙ sym next
host_changed hosts h host f before after false is inside same next there =
    changed_at hosts h host (f (host_in hosts h)) no_host false is inside ∙ same host there ∙ sym next

-- one more is dropped
drop-more : {X : Type 0} (xs : List X) (n : ℕ) → drop (suc n) xs ≡ drop 1 (drop n xs)
drop-more [] zero = refl
drop-more [] (suc n) = refl
drop-more (x ∷ xs) zero = refl
drop-more (x ∷ xs) (suc n) = drop-more xs n

drop-one : {X : Type 0} (xs : List X) (n : ℕ) → drop (n + 1) xs ≡ drop 1 (drop n xs)
drop-one xs n = let more : n + 1 ≡ suc n = omega arith in ap (λ (k : ℕ). drop k xs) more ∙ drop-more xs n

pub gave_by : (test : Bool) (n : ℕ) (items : List ItemFields) (given : ℕ) (tags : List Bool) (tag : Option ℕ)
    → ◌≡◌ {A = HostFields} (record { number = n; left = drop (count_if test given) items; given = count_if test given; tags = choose test (with_out tag tags) tags })
    (choose test (gave_one tag (record { number = n; left = drop given items; given = given; tags = tags })) (record { number = n; left = drop given items; given = given; tags = tags }))
gave_by true n items given tags tag =
    ap (λ (left : List ItemFields). record { number = n; left = left; given = given + 1; tags = with_out tag tags }) (drop-one items given)
gave_by false n items given tags tag = refl

pub gave_host : (setup : Setup) (past : List Entry) (h host : ℕ) (tag : Option ℕ) (poisoned : Bool) (request : RequestFields)
    → host_of setup (Gave h tag poisoned request ∷ past) host ≡ choose (h == host) (gave_one tag (host_of setup past host)) (host_of setup past host)
unfolding host_of given_count tags_out
gave_host setup past h host tag poisoned request = gave_by (h == host) host (items_of host setup.script) (given_count host past) (tags_out host past) tag

pub took_by : (test : Bool) (n : ℕ) (left : List ItemFields) (given : ℕ) (tags : List Bool) (tag : ℕ) (answer : Answer)
    → ◌≡◌ {A = HostFields} (record { number = n; left = left; given = given; tags = choose test (slice_set tags tag false) tags })
    (choose test (after_settle (settles.Took tag answer) (record { number = n; left = left; given = given; tags = tags })) (record { number = n; left = left; given = given; tags = tags }))
took_by true n left given tags tag answer = refl
took_by false n left given tags tag answer = refl

pub took_host : (setup : Setup) (past : List Entry) (h host tag : ℕ) (answer : Answer)
    → host_of setup (Took h tag answer ∷ past) host ≡ choose (h == host) (after_settle (settles.Took tag answer) (host_of setup past host)) (host_of setup past host)
unfolding host_of given_count tags_out
took_host setup past h host tag answer = took_by (h == host) host (drop (given_count host past) (items_of host setup.script)) (given_count host past) (tags_out host past) tag answer

pub hosts_then : (setup : Setup) (past : List Entry) (entry : Entry) (hosts : List HostFields) → IsHostIn hosts entry → ((k : ℕ) → k < length hosts → host_in hosts k ≡ host_of setup past k)
    → (host : ℕ) → host < length (hosts_after entry hosts) → host_in (hosts_after entry hosts) host ≡ host_of setup (entry ∷ past) host
unfolding host_of given_count tags_out
hosts_then setup past (Gave h tag poisoned request) hosts is same host there =
    host_changed hosts h host (gave_one tag) (host_of setup past) (host_of setup (Gave h tag poisoned request ∷ past)) (h == host) refl is same (gave_host setup past h host tag poisoned request) (omega (arith, length-set hosts h (gave_one tag (host_in hosts h))))
hosts_then setup past (Took h tag answer) hosts is same host there =
    host_changed hosts h host (after_settle (settles.Took tag answer)) (host_of setup past) (host_of setup (Took h tag answer ∷ past)) (h == host) refl is same (took_host setup past h host tag answer) (omega (arith, length-set hosts h (after_settle (settles.Took tag answer) (host_in hosts h))))
hosts_then setup past _ hosts is same host there = same host there

-- the flits that are gathered at the end of a direction
pub gathered_same : (setup : Setup) (past : List Entry) (from : Option ℕ) → ((d : ℕ) → from ≡ Some d → receiver_of d past ≡ receiver_entries (toward d) (entries_on setup.topology d past)) → gathered_from (view_of setup past) from ≡ gathered_at from past
unfolding view_of
gathered_same setup past None receivers = refl
gathered_same setup past (Some d) receivers = ap pending (sym (receivers d refl))

pub entries_then : (setup : Setup) (past : List Entry) (entry : Entry) (link : ℕ) → ((d : ℕ) (place : Place) → direction_to setup.topology place ≡ Some d → receiver_of d past ≡ receiver_entries (toward d) (entries_on setup.topology d past))
    → entries_after setup.topology (view_of setup past) entry link ≡ link_entries setup.topology link (entry ∷ past)
unfolding link_entries view_of
entries_then setup past (Through cube port direction) link receivers =
    let to = direction_to setup.topology (places.Port cube port) in
    ap (λ (came : List (List ℕ)). forwarded_on link direction came (link_entries setup.topology link past)) (gathered_same setup past to (λ d is. receivers d (places.Port cube port) is))
entries_then setup past (Gave host tag poisoned request) link receivers = refl
entries_then setup past (Sent direction what flit) link receivers = refl
entries_then setup past (Landed direction flit outcome) link receivers = refl
entries_then setup past (Shifted cube port goal) link receivers = refl
entries_then setup past (Dropped cube port) link receivers = refl
entries_then setup past (Lifted cube from port) link receivers = refl
entries_then setup past (Took host tag answer) link receivers = refl
entries_then setup past (Discarded host) link receivers = refl
entries_then setup past (Unlocked direction) link receivers = refl
entries_then setup past _ link receivers = refl

pub lawful_pipes : (setup : Setup) (past : List Entry) → IsLawBound setup past → ((d : ℕ) → d < directions_in setup.topology → receiver_of d past ≡ receiver_entries (toward d) (entries_on setup.topology d past)) → AreLawful setup.topology past
unfolding view_of
lawful_pipes setup past law receivers = record {
  there = λ d onto inside is. (law.forwarded d onto inside is).there;
  pipe = λ d onto inside is. (law.forwarded d onto inside is).pipe ∙ ap (λ (r : List ReceiverEntry). Some (pipe_of setup.topology d (pending r))) (sym (receivers d inside));
  source = λ d p inside found unended. (law.onward d inside).source p found unended;
}
