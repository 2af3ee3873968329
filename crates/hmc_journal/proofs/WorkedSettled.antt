-- When a link is settled, computed: after a training sequence with a burst of Clears each way it is;
-- each of its conditions says no.
use Rattle.hmc_codes.specs.declared.profile.Profile.TheVariants.{One}
use Rattle.std.proofs.Common.{◌≡◌, ◌≢◌, ℕ, ◌%◌, Bool, true, false, List, [], ◌∷◌, ◌++◌, refl}
use Rattle.std.specs.Prelude.{replicate}
use Rattle.std.proofs.lemmas.List.Elements.{All-nil}
use Rattle.hmc_codes.specs.Flit.{zero_flit}
use Rattle.hmc_codes.specs.Link.{LinkFields}
use Rattle.hmc_packet.specs.declared.feed.Feed.TheVariants.{Waiting}
use Rattle.hmc_packet.specs.declared.kind.Kind.TheVariants as kinds
use Rattle.hmc_packet.specs.declared.outcome.Outcome.TheVariants.{Quiet, Trained, Gathered, Ran}
use Rattle.hmc_packet.specs.declared.view.Mode.TheVariants.{Train}
use Rattle.hmc_packet.specs.declared.what.What.{What}
use Rattle.hmc_packet.specs.declared.what.What.TheVariants.{Start, Clear}
use Rattle.hmc_packet.specs.Irtry.{irtry_in}
use Rattle.hmc_packet.specs.Landings.{mode, pending, is_training}
use Rattle.hmc_packet.specs.Parts.{word_of, half_of, lng_of}
use Rattle.hmc_packet.specs.Reading.{is_null, is_null_alone, read_of}
use Rattle.hmc_packet.specs.Spelling.{training_flit}
use Rattle.hmc_packet.specs.Receptions.{reception_of, reception_by, landing_view}
use Rattle.hmc_send.specs.declared.toward.Toward.{Toward}
use Rattle.hmc_send.specs.declared.toward.Toward.TheVariants.{Forth, Back}
use Rattle.hmc_send.specs.Entries.{clears, starts, go_back, is_open}
use Rattle.hmc_send.specs.LinkEntries.{LinkEntry, receiver_entries}
use Rattle.hmc_send.specs.LinkEntries.LinkEntry.{sent, landed}
use Rattle.hmc_send.specs.LinkLines.{landings, is_pending_changed}
use Rattle.hmc_send.specs.LinkSenders.{sender_entries}
use Rattle.hmc_journal.specs.Settled.{sent_whats, line_whats, IsSettledDirection, IsSettled}

abbrev link : LinkFields
link = record { line = 64; tokens = 17; retry = 17; output = 2; profile = One }

abbrev changed : List ℕ
changed = 1 ∷ replicate 15 0

-- both receivers are trained, and a run of Starts has ended at each
abbrev called : List LinkEntry
called =
    landed Back zero_flit zero_flit (Ran kinds.Start) ∷
    landed Forth zero_flit zero_flit (Ran kinds.Start) ∷
    landed Back zero_flit zero_flit Trained ∷ landed Forth zero_flit zero_flit Trained ∷ []

-- so many Clears were sent each way
abbrev cleared : ℕ → List LinkEntry
cleared n =
    replicate n (sent Back Waiting Clear zero_flit)
    ++ (replicate n (sent Forth Waiting Clear zero_flit) ++ called)

-- and landed; with the 24th in a row each receiver accepts packets
abbrev settled : List LinkEntry
settled =
    landed Back zero_flit zero_flit (Ran kinds.Clear) ∷
    landed Forth zero_flit zero_flit (Ran kinds.Clear) ∷
    (replicate 29 (landed Back zero_flit zero_flit Quiet)
    ++ (replicate 29 (landed Forth zero_flit zero_flit Quiet) ++ cleared 32))

-- then the link is settled
is_settled : IsSettled link settled
unfolding sender_entries clears starts go_back is_open sent_whats line_whats landings is_pending_changed reception_of reception_by landing_view mode receiver_entries is_training training_flit irtry_in read_of is_null_alone is_null pending zero_flit lng_of word_of half_of
is_settled = (
  record {
    good = refl;
    opened = refl;
    clears = refl;
    starts = refl;
    no_go_back = refl;
    no_start = All-nil (λ what. what ≢ Start);
    unchanged = refl;
  },
  record {
    good = refl;
    opened = refl;
    clears = refl;
    starts = refl;
    no_go_back = refl;
    no_start = All-nil (λ what. what ≢ Start);
    unchanged = refl;
  },
)

-- not at the opening, where both receivers train
opening_trains : mode (receiver_entries Forth []) ≡ Train
unfolding mode receiver_entries
opening_trains = refl

-- nor where a run of Starts has ended and was not answered
called_not : go_back (sender_entries link Forth called) ≡ true
unfolding sender_entries go_back reception_of reception_by landing_view mode receiver_entries is_training training_flit irtry_in read_of is_null_alone is_null pending zero_flit lng_of word_of half_of
called_not = refl

-- nor within a burst
within_not : clears (sender_entries link Forth (cleared 31)) % 32 ≡ 31
unfolding sender_entries clears reception_of reception_by landing_view mode receiver_entries is_training training_flit irtry_in read_of is_null_alone is_null pending zero_flit lng_of word_of half_of
within_not = refl

-- nor where a Start is on the line, which the other end is going to answer
start_not : line_whats Forth (sent Forth Waiting Start zero_flit ∷ settled) ≡ Start ∷ []
unfolding line_whats sent_whats landings
start_not = refl

-- nor where a gathered flit is changed
changed_not : is_pending_changed Forth (landed Forth changed zero_flit Gathered ∷ settled) ≡ true
unfolding is_pending_changed zero_flit
changed_not = refl
