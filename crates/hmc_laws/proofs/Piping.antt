-- The packet under way on a direction, where it is forwarded, and the pipe that feeds it.
use Rattle.std.proofs.Common.{◌≡◌, ◌≤◌, ◌<◌, ◌-◌, ◌∙◌, ◌==◌, ◌&&◌, ℕ, zero, suc, Bool, true, false, if◌then◌else◌, Option, Some, None, List, [], ◌∷◌, ◌++◌, length, get_or, refl, sym, ap, subst, arith, length-append, nat_lt, ltb-true, ltb-false}
use Rattle.std.specs.Prelude.{is_none, option_map, slice_index_or}
use Rattle.std.proofs.lemmas.List.{get_or_push}
use Rattle.hmc_codes.specs.Flit.{zero_flit, IsFlit}
use Rattle.hmc_packet.specs.declared.feed.Feed.{Feed}
use Rattle.hmc_packet.specs.declared.feed.Feed.TheVariants.{Waiting, Whole}
use Rattle.hmc_packet.specs.declared.outcome.Outcome.{Outcome}
use Rattle.hmc_packet.specs.declared.outcome.Outcome.TheVariants as outcomes
use Rattle.hmc_packet.specs.declared.what.What.{What}
use Rattle.hmc_packet.specs.Copy.{last_feed}
use Rattle.hmc_codes.proofs.BytesLemmas.{zero_is_flit}
use Rattle.hmc_codes.specs.Link.{LinkFields}
use Rattle.hmc_codes.specs.declared.profile.Profile.{Profile}
use Rattle.hmc_through.specs.Pipe.{PipeFields, flit_at, whole_fed, last_fed, feed_at}
use Rattle.hmc_send.specs.declared.numbers.Numbers.{Numbers}
use Rattle.hmc_send.specs.declared.toward.Toward.{Toward}
use Rattle.hmc_send.specs.Entries as entries
use Rattle.hmc_send.specs.Entries.{SenderEntry, Part, UnderWay, unfinished, last_begun, with_place, under_way, through_place}
use Rattle.hmc_send.specs.LinkEntries.{LinkEntry}
use Rattle.hmc_send.specs.IsSender.{IsFed}
use Rattle.hmc_send.specs.LinkSenders.{sender_entries}
use Rattle.hmc_send.specs.Places.{Place, place_at}
use Rattle.hmc_wire.proofs.OpenPlaces.{AreKnown}
use Rattle.hmc_wire.proofs.Places.{packet_of}
use Rattle.hmc_wire.specs.Conditions.{IsFeed}
use Rattle.hmc_entries.specs.declared.entry.Entry.{Entry}
use Rattle.hmc_journal.specs.Links.{toward, sizes_on, entries_on}
use Rattle.hmc_journal.specs.Piped.{PipeFrom, with_landing, with_unlock, while_gathering, fed}
use Rattle.hmc_journal.specs.Setup.{Topology}
use Rattle.hmc_journal.proofs.LinkKept.{known_at}
use Rattle.hmc_laws.proofs.OpenSends.{sent_on, OpenAfter}
use Rattle.hmc_laws.proofs.OpenSends.OpenAfter.{AllKnown, SameUp, Grows, Fills}
use Rattle.hmc_laws.proofs.Feeding.{IsPipeFor, fed_fits}

-- the sender's entries of a direction, and the packet under way there
abbrev pub sender_on : Topology → ℕ → List Entry → List SenderEntry
sender_on topology d past = sender_entries (sizes_on topology d) (toward d) (entries_on topology d past)

abbrev pub up_on : Topology → ℕ → List Entry → Option UnderWay
up_on topology d past = under_way (sizes_on topology d).profile (sender_on topology d past)

-- a packet under way is forwarded, and its flits are those of the pipe
pub record IsPiped (pipe : PipeFields) (part : Part) (head : List ℕ) (count : ℕ) : Type 0 where
  pub for : IsPipeFor pipe head count
  pub flits : part.flits ≡ count
  pub many : 2 ≤ count
  pub new : part.again ≡ false
  pub sent : (k : ℕ) → k < length part.sent → get_or part.sent k [] ≡ flit_at pipe k
  pub inside : pipe.good ≡ None → length part.sent ≤ length pipe.came

abbrev pub PipeFits : Option PipeFrom → Part → (head : List ℕ) → (count : ℕ) → Type 0
PipeFits None part head count = ⊥
PipeFits (Some p) part head count = IsPiped p.pipe part head count

abbrev pub PlacePiped : Option PipeFrom → Part → Place → Type 0
PlacePiped pipe part (Place.known packet) = Unit {0}
PlacePiped pipe part (Place.awaited head count numbers) = PipeFits pipe part head count

abbrev pub UpPiped : Option PipeFrom → Option UnderWay → Type 0
UpPiped pipe None = Unit {0}
UpPiped pipe (Some begun) = PlacePiped pipe begun.part begun.place

-- ---- what is fed fits

-- what is fed is fit for a packet under way
pub record FeedFits (up : Option UnderWay) (feed : Feed) : Type 0 where
  pub fits : IsFed up feed
  pub is_feed : IsFeed feed

place_fits : (pipe : Option PipeFrom) (begun : UnderWay) → PlacePiped pipe begun.part begun.place → FeedFits (Some begun) (fed (through_place (Some begun)) pipe)
place_fits pipe begun piped = by_place begun.place refl piped
  where
    by_pipe : (found : Option PipeFrom) (head : List ℕ) (count : ℕ) (numbers : Numbers) → begun.place ≡ Place.awaited head count numbers → PipeFits found begun.part head count
        → FeedFits (Some (record { part = begun.part; place = Place.awaited head count numbers })) (fed (Some (length begun.part.sent)) found)
    by_pipe None head count numbers at is = absurd is
    by_pipe (Some p) head count numbers at is = let f = fed_fits p.pipe head count begun.part is.for is.flits is.many in record { fits = f.next; is_feed = f.is_feed }

    by_place : (place : Place) → begun.place ≡ place → PlacePiped pipe begun.part place → FeedFits (Some begun) (fed (through_place (Some begun)) pipe)
    by_place (Place.known packet) at is = subst (λ (b : UnderWay). FeedFits (Some b) (fed (through_place (Some b)) pipe)) (ap (λ (x : Place). record { part = begun.part; place = x }) (sym at)) (record { fits = tt; is_feed = tt })
    by_place (Place.awaited head count numbers) at is =
        subst (λ (b : UnderWay). FeedFits (Some b) (fed (through_place (Some b)) pipe)) (ap (λ (x : Place). record { part = begun.part; place = x }) (sym at)) (by_pipe pipe head count numbers at is)

pub feed_fits : (pipe : Option PipeFrom) (up : Option UnderWay) → UpPiped pipe up → FeedFits up (fed (through_place up) pipe)
feed_fits pipe None piped = record { fits = tt; is_feed = tt }
feed_fits pipe (Some begun) piped = place_fits pipe begun piped

-- ---- a flit more is sent

get-push : (l : List (List ℕ)) (x : List ℕ) (k : ℕ) → k < length l → get_or (l ++ x ∷ []) k [] ≡ get_or l k []
get-push [] x k less = absurd (omega arith)
get-push (y ∷ l) x zero less = refl
get-push (y ∷ l) x (suc k) less = get-push l x k (omega arith)

-- what the pipe gave is its flit at that place, which came
pub record Gave (pipe : PipeFields) (at : ℕ) (flit : List ℕ) : Type 0 where
  pub flit_is : flit ≡ flit_at pipe at
  pub came : pipe.good ≡ None → at < length pipe.came

piped_sent : (pipe : PipeFields) (part : Part) (head : List ℕ) (count : ℕ) (flit : List ℕ) → IsPiped pipe part head count → Gave pipe (length part.sent) flit → IsPiped pipe (record part { sent = part.sent ++ flit ∷ [] }) head count
piped_sent pipe part head count flit is gave =
    let long = length-append part.sent (flit ∷ []) in record {
      for = is.for;
      flits = is.flits;
      many = is.many;
      new = is.new;
      sent = λ k less. by_place k (nat_lt k (length part.sent)) refl less;
      inside = λ none. (let less = gave.came none in omega arith);
    }
  where
    by_place : (k : ℕ) (before : Bool) → nat_lt k (length part.sent) ≡ before → k < length (part.sent ++ flit ∷ []) → get_or (part.sent ++ flit ∷ []) k [] ≡ flit_at pipe k
    by_place k true at less = let inside = ltb-true k (length part.sent) at in get-push part.sent flit k inside ∙ is.sent k inside
    by_place k false at less =
        let past = ltb-false k (length part.sent) at in
        let long = length-append part.sent (flit ∷ []) in
        let last : k ≡ length part.sent = omega arith in
        ap (λ (n : ℕ). get_or (part.sent ++ flit ∷ []) n []) last ∙ get_or_push part.sent flit [] (length part.sent) refl ∙ gave.flit_is ∙ ap (flit_at pipe) (sym last)

-- what is fed as a whole flit is such a flit
fed_whole : (a b : List ℕ) → Whole a ≡ Whole b → a ≡ b
fed_whole a b is = cc

gave_before : (pipe : PipeFields) (at : ℕ) (flit : List ℕ) (here : Bool) → nat_lt at (length pipe.came) ≡ here → (if here then Whole (flit_at pipe at) else Waiting) ≡ Whole flit → Gave pipe at flit
gave_before pipe at flit true less is = record { flit_is = sym (fed_whole (flit_at pipe at) flit is); came = λ none. ltb-true at (length pipe.came) less }
gave_before pipe at flit false less is = absurd cc

gave_by : (pipe : PipeFields) (at : ℕ) (flit : List ℕ) (last : Bool) (good : Option Bool) → pipe.good ≡ good → (if last then last_fed pipe at good else whole_fed pipe at good) ≡ Whole flit → Gave pipe at flit
unfolding last_feed
gave_by pipe at flit true None known is = absurd cc
gave_by pipe at flit true (Some good) known is = absurd cc
gave_by pipe at flit false None known is = gave_before pipe at flit _ refl is
gave_by pipe at flit false (Some good) known is = record { flit_is = sym (fed_whole (flit_at pipe at) flit is); came = λ none. absurd (let clash : None ≡ Some good = sym none ∙ known in cc) }

pub gave : (pipe : PipeFields) (at : ℕ) (flit : List ℕ) → feed_at pipe at ≡ Whole flit → Gave pipe at flit
gave pipe at flit is = gave_by pipe at flit (suc at == pipe.flits) pipe.good refl is

-- ---- a flit more comes, or the gathering ends

pub came-push : (l : List (List ℕ)) (x : List ℕ) (k : ℕ) → k < length l → slice_index_or (l ++ x ∷ []) k zero_flit ≡ slice_index_or l k zero_flit
came-push [] x k less = absurd (omega arith)
came-push (y ∷ l) x zero less = refl
came-push (y ∷ l) x (suc k) less = came-push l x k (omega arith)

pub each-push : (l : List (List ℕ)) (x : List ℕ) → ((k : ℕ) → IsFlit (slice_index_or l k zero_flit)) → IsFlit x → (k : ℕ) → IsFlit (slice_index_or (l ++ x ∷ []) k zero_flit)
each-push [] x each flit zero = flit
each-push [] x each flit (suc k) = zero_is_flit
each-push (y ∷ l) x each flit zero = each 0
each-push (y ∷ l) x each flit (suc k) = each-push l x (λ j. each (suc j)) flit k

-- a pipe with one flit more
abbrev pipe_more : PipeFields → (flit : List ℕ) → (good : Option Bool) → PipeFields
pipe_more pipe flit good = record pipe { came = pipe.came ++ flit ∷ []; good = good }

piped_more : (pipe : PipeFields) (part : Part) (head : List ℕ) (count : ℕ) (flit : List ℕ) (good : Option Bool) → pipe.good ≡ None → IsFlit flit → IsPiped pipe part head count → IsPiped (pipe_more pipe flit good) part head count
piped_more pipe part head count flit good none is_flit is =
    let long = length-append pipe.came (flit ∷ []) in
    let some = is.for.some in
    let inside = is.inside none in record {
      for = record {
        flits = is.for.flits;
        some = omega arith;
        first = came-push pipe.came flit 0 is.for.some ∙ is.for.first;
        each = each-push pipe.came flit is.for.each is_flit;
      };
      flits = is.flits;
      many = is.many;
      new = is.new;
      sent = λ k less. is.sent k less ∙ sym (came-push pipe.came flit k (omega arith));
      inside = λ open_still. omega arith;
    }

piped_ended : (pipe : PipeFields) (part : Part) (head : List ℕ) (count : ℕ) (good : Bool) → IsPiped pipe part head count → IsPiped (record pipe { good = Some good }) part head count
piped_ended pipe part head count good is = record {
  for = record { flits = is.for.flits; some = is.for.some; first = is.for.first; each = is.for.each };
  flits = is.flits;
  many = is.many;
  new = is.new;
  sent = is.sent;
  inside = λ none. absurd (let clash : Some good ≡ None = none in cc);
}

pub none_is : (good : Option Bool) → is_none good ≡ true → good ≡ None
none_is None is = refl
none_is (Some good) is = absurd cc

piped_outcome : (pipe : PipeFields) (part : Part) (head : List ℕ) (count : ℕ) (flit : List ℕ) (outcome : Outcome) → pipe.good ≡ None → IsFlit flit → IsPiped pipe part head count → IsPiped (with_landing flit outcome pipe) part head count
piped_outcome pipe part head count flit outcomes.Gathered none is_flit is = piped_more pipe part head count flit pipe.good none is_flit is
piped_outcome pipe part head count flit outcomes.Quiet none is_flit is = piped_more pipe part head count flit _ none is_flit is
piped_outcome pipe part head count flit outcomes.Trained none is_flit is = piped_more pipe part head count flit _ none is_flit is
piped_outcome pipe part head count flit outcomes.Accepted none is_flit is = piped_more pipe part head count flit _ none is_flit is
piped_outcome pipe part head count flit outcomes.Poisoned none is_flit is = piped_more pipe part head count flit _ none is_flit is
piped_outcome pipe part head count flit outcomes.Repeat none is_flit is = piped_more pipe part head count flit _ none is_flit is
piped_outcome pipe part head count flit (outcomes.AbortedBad bad) none is_flit is = piped_more pipe part head count flit _ none is_flit is
piped_outcome pipe part head count flit outcomes.AbortedOrder none is_flit is = piped_more pipe part head count flit _ none is_flit is
piped_outcome pipe part head count flit (outcomes.Ran kind) none is_flit is = piped_more pipe part head count flit _ none is_flit is

-- a change while the packet is gathered
changed : (p : PipeFrom) (part : Part) (head : List ℕ) (count direction : ℕ) (change : PipeFields → PipeFields) → (p.pipe.good ≡ None → IsPiped (change p.pipe) part head count) → IsPiped p.pipe part head count → IsPiped (while_gathering direction change p).pipe part head count
changed p part head count direction change more is = by_test ((p.from == direction) && is_none p.pipe.good) (λ both. none_is p.pipe.good (second (p.from == direction) (is_none p.pipe.good) both))
  where
    second : (a b : Bool) → (a && b) ≡ true → b ≡ true
    second true b both = both
    second false b both = absurd cc

    by_test : (now : Bool) → (now ≡ true → p.pipe.good ≡ None) → IsPiped (if now then record p { pipe = change p.pipe } else p).pipe part head count
    by_test true none = more (none refl)
    by_test false none = is

fits_changed : (pipe : Option PipeFrom) (part : Part) (head : List ℕ) (count direction : ℕ) (change : PipeFields → PipeFields) → ((p : PipeFields) → p.good ≡ None → IsPiped p part head count → IsPiped (change p) part head count)
    → PipeFits pipe part head count → PipeFits (option_map (while_gathering direction change) pipe) part head count
fits_changed None part head count direction change more is = is
fits_changed (Some p) part head count direction change more is = changed p part head count direction change (λ none. more p.pipe none is) is

place_changed : (pipe : Option PipeFrom) (part : Part) (place : Place) (direction : ℕ) (change : PipeFields → PipeFields) → ((p : PipeFields) (head : List ℕ) (count : ℕ) → p.good ≡ None → IsPiped p part head count → IsPiped (change p) part head count)
    → PlacePiped pipe part place → PlacePiped (option_map (while_gathering direction change) pipe) part place
place_changed pipe part (Place.known packet) direction change more is = tt
place_changed pipe part (Place.awaited head count numbers) direction change more is = fits_changed pipe part head count direction change (λ p. more p head count) is

pub up_landed : (pipe : Option PipeFrom) (up : Option UnderWay) (direction : ℕ) (flit : List ℕ) (outcome : Outcome) → IsFlit flit → UpPiped pipe up → UpPiped (option_map (while_gathering direction (with_landing flit outcome)) pipe) up
up_landed pipe None direction flit outcome is_flit is = tt
up_landed pipe (Some begun) direction flit outcome is_flit is =
    place_changed pipe begun.part begun.place direction (with_landing flit outcome) (λ p head count none fits. piped_outcome p begun.part head count flit outcome none is_flit fits) is

pub up_unlocked : (pipe : Option PipeFrom) (up : Option UnderWay) (direction : ℕ) → UpPiped pipe up → UpPiped (option_map (while_gathering direction with_unlock) pipe) up
up_unlocked pipe None direction is = tt
up_unlocked pipe (Some begun) direction is =
    place_changed pipe begun.part begun.place direction with_unlock (λ p head count none fits. piped_ended p begun.part head count false fits) is

-- ---- a send

-- a place that has its packet
place_known : (pipe : Option PipeFrom) (part : Part) (place : Place) → is_none (packet_of place) ≡ false → PlacePiped pipe part place
place_known pipe part (Place.known packet) known = tt
place_known pipe part (Place.awaited head count numbers) known = absurd (let clash : true ≡ false = known in cc)

up_with : (pipe : Option PipeFrom) (place : Place) (u : Option Part) → is_none (packet_of place) ≡ false → UpPiped pipe (with_place place u)
up_with pipe place None known = tt
up_with pipe place (Some part) known = place_known pipe part place known

pub up_known : (q : Profile) (T : List SenderEntry) (pipe : Option PipeFrom) → AreKnown (entries.places q T) → UpPiped pipe (under_way q T)
up_known q T pipe known = up_with pipe (place_at (entries.places q T) (last_begun q T)) (unfinished T) (known_at (entries.places q T) (last_begun q T - 1) known)

-- one flit more of an open place
grown_by : (pipe : Option PipeFrom) (part : Part) (head : List ℕ) (count : ℕ) (flit : List ℕ) → fed (Some (length part.sent)) pipe ≡ Whole flit → PipeFits pipe part head count → PipeFits pipe (record part { sent = part.sent ++ flit ∷ [] }) head count
grown_by None part head count flit is fits = fits
grown_by (Some p) part head count flit is fits = piped_sent p.pipe part head count flit fits (gave p.pipe (length part.sent) flit is)

pub up_sent : (link : LinkFields) (d : Toward) (as_what : What) (flit : List ℕ) (past : List LinkEntry) (pipe : Option PipeFrom) (feed : Feed) → feed ≡ fed (through_place (under_way link.profile (sender_entries link d past))) pipe
    → OpenAfter link d feed as_what flit past → UpPiped pipe (under_way link.profile (sender_entries link d past)) → UpPiped pipe (under_way link.profile (sent_on link d feed as_what flit past))
up_sent link d as_what flit past pipe feed fed_is (AllKnown before known) is = up_known link.profile (sent_on link d feed as_what flit past) pipe known
up_sent link d as_what flit past pipe feed fed_is (SameUp same) is = subst (UpPiped pipe) (sym same) is
up_sent link d as_what flit past pipe feed fed_is (Fills part head count numbers half slid errstat good under last new after) is = subst (UpPiped pipe) (sym after) tt
up_sent link d as_what flit past pipe feed fed_is (Grows part head count numbers under whole new after) is =
    let before : PipeFits pipe part head count = subst (UpPiped pipe) under is in
    let gives : fed (Some (length part.sent)) pipe ≡ Whole flit = sym (ap (λ (u : Option UnderWay). fed (through_place u) pipe) under) ∙ sym fed_is ∙ whole in
    subst (UpPiped pipe) (sym after) (grown_by pipe part head count flit gives before)
