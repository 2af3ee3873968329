-- One call more of a sender that forwards a packet, or of the pipe that feeds it.
use Rattle.std.proofs.Common.{◌≡◌, ◌≢◌, ◌∙◌, ◌≤◌, ◌<◌, ◌-◌, ◌⊎◌, inl, inr, ℕ, suc, Bool, true, false, List, [], ◌∷◌, ◌++◌, length, take, Option, Some, None, refl, sym, ap, subst, arith}
use Rattle.std.specs.Prelude.{◌==◌, is_none, if◌then◌else◌, slice_get}
use Rattle.std.proofs.lemmas.Bool.{eqb-true, eq-eqb}
use Rattle.std.proofs.lemmas.Option.{same_Some}
use Rattle.hmc_codes.specs.declared.profile.Profile.{Profile}
use Rattle.hmc_packet.specs.declared.feed.Feed.{Feed}
use Rattle.hmc_packet.specs.declared.feed.Feed.TheVariants.{Whole, Last}
use Rattle.hmc_packet.specs.declared.what.What.{What}
use Rattle.hmc_packet.specs.declared.what.What.TheVariants as what
use Rattle.hmc_packet.specs.Copy.{last_feed, last_feed_of}
use Rattle.hmc_packet.specs.Head.{head_in}
use Rattle.hmc_packet.specs.Packet.{PacketFields}
use Rattle.hmc_send.specs.declared.numbers.Numbers.{Numbers}
use Rattle.hmc_send.specs.declared.sent.Sent.TheVariants.{Out}
use Rattle.hmc_send.specs.Choice.{view_after, choice, next_flit}
use Rattle.hmc_send.specs.Copies.{place_fed, copy_of}
use Rattle.hmc_send.specs.Entries as entries
use Rattle.hmc_send.specs.Entries.{SenderEntry, Given, Part, part_after, places_with, with_place, unfinished, last_begun, through_at, through_place}
use Rattle.hmc_send.specs.LinkCalls.{names_flits}
use Rattle.hmc_send.specs.Places.{Place, place_at, with_last}
use Rattle.hmc_send.proofs.Lists.{place-push, last-push, last-same, fed-whole}
use Rattle.hmc_through.specs.Pipe.{PipeFields, flit_at, feed_at}
use Rattle.hmc_wire.proofs.Filled.{AreFit}
use Rattle.hmc_wire.proofs.OpenPlaces.{HasWholeFlits, whole_flits-push, under, grown-later}
use Rattle.hmc_copies.specs.Copies.{last_flit, last_tail, IsCopy}
use Rattle.hmc_copies.proofs.Copying.{copy-is-copy}
use Rattle.hmc_copies.proofs.Pipes.{Gives, Gives as gives_as, gives, IsPipeOf, AreSent, sent-flit}
use Rattle.hmc_copies.proofs.Places.{place-stays}

-- what stays of a cut-through: its profile, the places before it, its first flit, its length and its
-- numbers
pub record Fixed : Type 0 where
  pub q : Profile
  pub retry : ℕ
  pub before : List Place
  pub head : List ℕ
  pub count : ℕ
  pub n : Numbers

pub record AreFixed (x : Fixed) : Type 0 where
  pub named : names_flits x.count (head_in x.head) ≡ true
  pub many : 2 ≤ x.count
  pub fit : AreFit x.q x.n

abbrev pub open_place : Fixed → Place
open_place x = Place.awaited x.head x.count x.n

-- the copy is under way
pub record Goes (x : Fixed) (t : List SenderEntry) (pipe : PipeFields) : Type 0 where
  pub part : Part
  pub places : entries.places x.q t ≡ x.before ++ open_place x ∷ []
  pub under : unfinished t ≡ Some part
  pub new : part.again ≡ false
  pub flits : part.flits ≡ x.count
  pub last : last_begun x.q t ≡ suc (length x.before)
  pub more : length part.sent < x.count
  pub whole_flits : HasWholeFlits part
  pub sent : AreSent pipe part.sent

-- its place has its packet
pub record Ends (x : Fixed) (t : List SenderEntry) (pipe : PipeFields) : Type 0 where
  pub packet : PacketFields
  pub at : slice_get (entries.places x.q t) (length x.before) ≡ Some (Place.known packet)
  pub copy : IsCopy x.q pipe x.n packet
  pub good : Bool
  pub ended : pipe.good ≡ Some good

abbrev pub Stage : Fixed → List SenderEntry → PipeFields → Type 0
Stage x t pipe = Goes x t pipe ⊎ Ends x t pipe

-- ---- an entry that leaves the places and the packet under way

pub stage-same : (x : Fixed) (t u : List SenderEntry) (pipe : PipeFields) → entries.places x.q u ≡ entries.places x.q t → unfinished u ≡ unfinished t → last_begun x.q u ≡ last_begun x.q t → Goes x t pipe → Goes x u pipe
stage-same x t u pipe places under last g = record {
  part = g.part;
  places = places ∙ g.places;
  under = under ∙ g.under;
  new = g.new;
  flits = g.flits;
  last = last ∙ g.last;
  more = g.more;
  whole_flits = g.whole_flits;
  sent = g.sent;
}

-- a place that has its packet keeps it
pub ends-stay : (x : Fixed) (t : List SenderEntry) (entry : SenderEntry) (pipe : PipeFields) → Ends x t pipe → Ends x (entry ∷ t) pipe
ends-stay x t entry pipe e = record { packet = e.packet; at = place-stays x.q t entry (length x.before) e.packet e.at; copy = e.copy; good = e.good; ended = e.ended }

-- ---- a flit of the copy

place-is : (x : Fixed) (t : List SenderEntry) (pipe : PipeFields) (g : Goes x t pipe) → place_at (entries.places x.q t) (last_begun x.q t) ≡ open_place x
place-is x t pipe g = (λ i. place_at (g.places i) (g.last i)) ∙ place-push x.before (open_place x)

pub at-is : (x : Fixed) (t : List SenderEntry) (pipe : PipeFields) (g : Goes x t pipe) → through_at x.q t ≡ Some (length g.part.sent)
at-is x t pipe g = λ i. through_place (with_place (place-is x t pipe g i) (g.under i))

feed-is : (pipe : PipeFields) (at : ℕ) (good : Bool) → at ≡ pipe.flits - 1 → last_feed_of pipe.profile (flit_at pipe 0) (flit_at pipe at) good ≡ Last (take 8 (last_flit pipe)) (last_tail pipe).slid (last_tail pipe).errstat good
unfolding last_feed
feed-is pipe at good place = ap (λ (k : ℕ). last_feed_of pipe.profile (flit_at pipe 0) (flit_at pipe k) good) place

last-get : (l : List Place) (p : Place) → slice_get (l ++ p ∷ []) (length l) ≡ Some p
last-get [] p = refl
last-get (y ∷ l) p = last-get l p

-- one before the last
flit-sent : (x : Fixed) (t : List SenderEntry) (pipe : PipeFields) (given : Given) (g : Goes x t pipe) → AreFixed x → IsPipeOf pipe x.head x.count → given.feed ≡ Whole (flit_at pipe (length g.part.sent)) → (suc (length g.part.sent) == pipe.flits) ≡ false →
    (pipe.good ≡ None → length g.part.sent < length pipe.came) → Goes x (SenderEntry.sent given what.New (flit_at pipe (length g.part.sent)) ∷ t) pipe
unfolding entries.places unfinished last_begun
flit-sent x t pipe given g are of fed before came =
    let k = length g.part.sent in
    let flit = flit_at pipe k in
    let l = entries.places x.q t in
    let size = of.flits in
    let count = g.flits in
    let more = g.more in
    let is_flit = of.each k in
    let later : (suc k == g.part.flits) ≡ false = ap (λ (m : ℕ). suc k == m) (g.flits ∙ sym of.flits) ∙ before in
    let other : suc k ≡ x.count → ⊥ = λ same. (let clash : true ≡ false = sym (eq-eqb (suc k) g.part.flits (same ∙ sym g.flits)) ∙ later in cc) in
    let places : places_with x.q (unfinished t) given l ≡ l =
    ap (λ (u : Option Part). places_with x.q u given l) g.under ∙ ap (λ (f : Feed). with_last (place_fed x.q g.part.sent f) l) fed
    ∙ last-same (place_fed x.q g.part.sent (Whole flit)) l (fed-whole x.q g.part.sent flit) in
    let named : k ≡ 0 → names_flits g.part.flits (head_in flit) ≡ true = λ none. (λ i. names_flits (g.flits i) (head_in ((ap (flit_at pipe) none ∙ of.first) i))) ∙ are.named in
    record {
      part = record g.part { sent = g.part.sent ++ flit ∷ [] };
      places = places ∙ g.places;
      under = ap (part_after false flit) g.under ∙ grown-later g.part flit later;
      new = g.new;
      flits = g.flits;
      last = ap (λ (u : Option Part). if is_none u then suc (length l) else last_begun x.q t) g.under ∙ g.last;
      more = longer g.part.sent flit x.count more other;
      whole_flits = whole_flits-push g.part flit g.whole_flits is_flit.long is_flit.bytes named;
      sent = sent-flit pipe g.part.sent came g.sent;
    }
  where
    one-more : (l : List (List ℕ)) (y : List ℕ) → length (l ++ y ∷ []) ≡ suc (length l)
    one-more [] y = refl
    one-more (z ∷ l) y = ap suc (one-more l y)

    longer : (l : List (List ℕ)) (y : List ℕ) (m : ℕ) → length l < m → (suc (length l) ≡ m → ⊥) → length (l ++ y ∷ []) < m
    longer l y m less never = let same = one-more l y in omega arith

-- the last one
last-sent : (x : Fixed) (t : List SenderEntry) (pipe : PipeFields) (given : Given) (flit : List ℕ) (good : Bool) (g : Goes x t pipe) → AreFixed x → IsPipeOf pipe x.head x.count → given.feed ≡ last_feed_of pipe.profile (flit_at pipe 0) (flit_at pipe (length g.part.sent)) good →
    (suc (length g.part.sent) == pipe.flits) ≡ true → pipe.good ≡ Some good → Ends x (SenderEntry.sent given what.New flit ∷ t) pipe
unfolding entries.places
last-sent x t pipe given flit good g are of fed is_last ended =
    let k = length g.part.sent in
    let l = entries.places x.q t in
    let size = of.flits in
    let done : suc k ≡ pipe.flits = eqb-true (suc k) pipe.flits is_last in
    let feed : given.feed ≡ Last (take 8 (last_flit pipe)) (last_tail pipe).slid (last_tail pipe).errstat good = fed ∙ feed-is pipe k good (omega arith) in
    let packet = copy_of x.q g.part.sent (take 8 (last_flit pipe)) (last_tail pipe).slid (last_tail pipe).errstat good x.n in
    let filled : places_with x.q (unfinished t) given l ≡ x.before ++ Place.known packet ∷ [] =
    ap (λ (u : Option Part). places_with x.q u given l) g.under ∙ (λ i. with_last (place_fed x.q g.part.sent (feed i)) (g.places i))
    ∙ last-push (place_fed x.q g.part.sent (Last (take 8 (last_flit pipe)) (last_tail pipe).slid (last_tail pipe).errstat good)) x.before (open_place x) in
    record {
      packet = packet;
      at = ap (λ (m : List Place). slice_get m (length x.before)) filled ∙ last-get x.before (Place.known packet);
      copy = copy-is-copy x.q pipe g.part x.head x.count x.n good of g.sent g.whole_flits are.fit g.flits are.many (done ∙ of.flits) ended;
      good = good;
      ended = ended;
    }

new-by : (x : Fixed) (t : List SenderEntry) (pipe : PipeFields) (given : Given) (flit : List ℕ) (g : Goes x t pipe) → AreFixed x → IsPipeOf pipe x.head x.count → next_flit x.q given.own.rrp given.feed (open_place x) g.part ≡ Some flit →
    Gives pipe (length g.part.sent) given.feed → Stage x (SenderEntry.sent given what.New flit ∷ t) pipe
new-by x t pipe given flit g are of next (gives_as.nothing none) = absurd (let clash : None ≡ Some flit = sym (ap (λ (f : Feed). next_flit x.q given.own.rrp f (open_place x) g.part) none) ∙ next in cc)
new-by x t pipe given flit g are of next (gives_as.before_last fed before came) =
    let same : flit_at pipe (length g.part.sent) ≡ flit = same_Some _ _ (sym (ap (λ (f : Feed). next_flit x.q given.own.rrp f (open_place x) g.part) fed) ∙ next) in
    inl (subst (λ (f : List ℕ). Goes x (SenderEntry.sent given what.New f ∷ t) pipe) same (flit-sent x t pipe given g are of fed before came))
new-by x t pipe given flit g are of next (gives_as.last good fed is_last ended) = inr (last-sent x t pipe given flit good g are of fed is_last ended)

-- ---- a send

-- what is sent while the copy is under way, but for training, is a flit of it
sent-by : (x : Fixed) (t : List SenderEntry) (pipe : PipeFields) (given : Given) (w : What) (flit : List ℕ) (g : Goes x t pipe) → AreFixed x → IsPipeOf pipe x.head x.count → choice x.q (view_after x.q x.retry t given) ≡ Out flit w →
    given.feed ≡ feed_at pipe (length g.part.sent) → w ≢ what.Train → Stage x (SenderEntry.sent given w flit ∷ t) pipe
sent-by x t pipe given w flit g are of chosen fed other =
    let goes = under x.q x.retry t given flit w g.part chosen g.under other in
    let new : w ≡ what.New = goes.0 ∙ ap (λ (b : Bool). if b then what.Again else what.New) g.new in
    let next = ap (λ (p : Place). next_flit x.q given.own.rrp given.feed p g.part) (sym (place-is x t pipe g)) ∙ goes.1 in
    subst (λ (v : What). Stage x (SenderEntry.sent given v flit ∷ t) pipe) (sym new) (new-by x t pipe given flit g are of next (subst (Gives pipe (length g.part.sent)) (sym fed) (gives pipe (length g.part.sent))))

trained : (x : Fixed) (t : List SenderEntry) (pipe : PipeFields) (given : Given) (flit : List ℕ) → Goes x t pipe → Goes x (SenderEntry.sent given what.Train flit ∷ t) pipe
unfolding entries.places unfinished last_begun
trained x t pipe given flit g = stage-same x t (SenderEntry.sent given what.Train flit ∷ t) pipe refl refl refl g

goes-sent : (x : Fixed) (t : List SenderEntry) (pipe : PipeFields) (given : Given) (w : What) (flit : List ℕ) (g : Goes x t pipe) → AreFixed x → IsPipeOf pipe x.head x.count → choice x.q (view_after x.q x.retry t given) ≡ Out flit w →
    given.feed ≡ feed_at pipe (length g.part.sent) → Stage x (SenderEntry.sent given w flit ∷ t) pipe
goes-sent x t pipe given what.Train flit g are of chosen fed = inl (trained x t pipe given flit g)
goes-sent x t pipe given what.New flit g are of chosen fed = sent-by x t pipe given what.New flit g are of chosen fed (λ e. cc e)
goes-sent x t pipe given what.Again flit g are of chosen fed = sent-by x t pipe given what.Again flit g are of chosen fed (λ e. cc e)
goes-sent x t pipe given what.Tret flit g are of chosen fed = sent-by x t pipe given what.Tret flit g are of chosen fed (λ e. cc e)
goes-sent x t pipe given what.Clear flit g are of chosen fed = sent-by x t pipe given what.Clear flit g are of chosen fed (λ e. cc e)
goes-sent x t pipe given what.Start flit g are of chosen fed = sent-by x t pipe given what.Start flit g are of chosen fed (λ e. cc e)
goes-sent x t pipe given what.Pret flit g are of chosen fed = sent-by x t pipe given what.Pret flit g are of chosen fed (λ e. cc e)
goes-sent x t pipe given what.Null flit g are of chosen fed = sent-by x t pipe given what.Null flit g are of chosen fed (λ e. cc e)

pub stage-sent : (x : Fixed) (t : List SenderEntry) (pipe : PipeFields) (given : Given) (w : What) (flit : List ℕ) → AreFixed x → IsPipeOf pipe x.head x.count → choice x.q (view_after x.q x.retry t given) ≡ Out flit w →
    ((at : ℕ) → through_at x.q t ≡ Some at → given.feed ≡ feed_at pipe at) → Stage x t pipe → Stage x (SenderEntry.sent given w flit ∷ t) pipe
stage-sent x t pipe given w flit are of chosen fed (inl g) = goes-sent x t pipe given w flit g are of chosen (fed (length g.part.sent) (at-is x t pipe g))
stage-sent x t pipe given w flit are of chosen fed (inr e) = inr (ends-stay x t (SenderEntry.sent given w flit) pipe e)
