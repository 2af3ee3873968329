-- What a pipe gives, and what is known of a pipe whose flits come one by one.
use Rattle.std.proofs.Common.{◌≡◌, ◌∙◌, ◌≤◌, ◌<◌, ℕ, zero, suc, Bool, true, false, List, [], ◌∷◌, ◌++◌, length, Option, Some, None, refl, sym, ap, arith, length-append, nat_lt, ltb-true, ltb-false}
use Rattle.std.specs.Prelude.{◌==◌, if◌then◌else◌, slice_index_or}
use Rattle.hmc_codes.specs.Flit.{zero_flit, IsFlit}
use Rattle.hmc_codes.proofs.BytesLemmas.{zero_is_flit}
use Rattle.hmc_codes.specs.declared.profile.Profile.{Profile}
use Rattle.hmc_packet.specs.declared.feed.Feed.{Feed}
use Rattle.hmc_packet.specs.declared.feed.Feed.TheVariants.{Waiting, Whole}
use Rattle.hmc_packet.specs.Copy.{last_feed_of}
use Rattle.hmc_through.specs.Pipe.{PipeFields, flit_at, whole_fed, last_fed, feed_at}

-- ---- what it gives

-- nothing; a flit before the last one, which came while the packet is gathered; or the last one, once
-- the gathering has ended
pub data Gives (pipe : PipeFields) (at : ℕ) (feed : Feed) : Type 0 where
  nothing : feed ≡ Waiting → Gives pipe at feed
  before_last : feed ≡ Whole (flit_at pipe at) → (suc at == pipe.flits) ≡ false → (pipe.good ≡ None → at < length pipe.came) → Gives pipe at feed
  last : (good : Bool) → feed ≡ last_feed_of pipe.profile (flit_at pipe 0) (flit_at pipe at) good → (suc at == pipe.flits) ≡ true → pipe.good ≡ Some good → Gives pipe at feed

gives_whole : (pipe : PipeFields) (at : ℕ) (here : Bool) → (suc at == pipe.flits) ≡ false → nat_lt at (length pipe.came) ≡ here → Gives pipe at (if here then Whole (flit_at pipe at) else Waiting)
gives_whole pipe at true before is = before_last refl before (λ none. ltb-true at (length pipe.came) is)
gives_whole pipe at false before is = nothing refl

gives_by : (pipe : PipeFields) (at : ℕ) (is_last : Bool) (good : Option Bool) → (suc at == pipe.flits) ≡ is_last → pipe.good ≡ good → Gives pipe at (if is_last then last_fed pipe at good else whole_fed pipe at good)
gives_by pipe at true None is good = nothing refl
gives_by pipe at true (Some b) is good = last b refl is good
gives_by pipe at false None is good = gives_whole pipe at _ is refl
gives_by pipe at false (Some b) is good = before_last refl is (λ none. absurd (let clash : None ≡ Some b = sym none ∙ good in cc))

pub gives : (pipe : PipeFields) (at : ℕ) → Gives pipe at (feed_at pipe at)
gives pipe at = gives_by pipe at (suc at == pipe.flits) pipe.good refl refl

-- ---- the flits that came

came-push : (l : List (List ℕ)) (x : List ℕ) (k : ℕ) → k < length l → slice_index_or (l ++ x ∷ []) k zero_flit ≡ slice_index_or l k zero_flit
came-push [] x k less = absurd (omega arith)
came-push (y ∷ l) x zero less = refl
came-push (y ∷ l) x (suc k) less = came-push l x k (omega arith)

each-push : (l : List (List ℕ)) (x : List ℕ) → ((k : ℕ) → IsFlit (slice_index_or l k zero_flit)) → IsFlit x → (k : ℕ) → IsFlit (slice_index_or (l ++ x ∷ []) k zero_flit)
each-push [] x each is zero = is
each-push [] x each is (suc k) = zero_is_flit
each-push (y ∷ l) x each is zero = each 0
each-push (y ∷ l) x each is (suc k) = each-push l x (λ j. each (suc j)) is k

each-one : (x : List ℕ) → IsFlit x → (k : ℕ) → IsFlit (slice_index_or (x ∷ []) k zero_flit)
each-one x is zero = is
each-one x is (suc k) = zero_is_flit

-- a pipe of a packet with this first flit and so many flits
pub record IsPipeOf (pipe : PipeFields) (head : List ℕ) (count : ℕ) : Type 0 where
  pub flits : pipe.flits ≡ count
  pub some : 1 ≤ length pipe.came
  pub first : flit_at pipe 0 ≡ head
  pub each : (k : ℕ) → IsFlit (flit_at pipe k)

pub pipe-new : (head : List ℕ) (count : ℕ) (profile : Profile) → IsFlit head → IsPipeOf (record { flits = count; profile = profile; came = head ∷ []; good = None }) head count
pipe-new head count profile is = record { flits = refl; some = omega arith; first = refl; each = each-one head is }

pub pipe-more : (pipe : PipeFields) (head : List ℕ) (count : ℕ) (flit : List ℕ) → IsFlit flit → IsPipeOf pipe head count → IsPipeOf (record pipe { came = pipe.came ++ flit ∷ [] }) head count
pipe-more pipe head count flit is of =
    let long = length-append pipe.came (flit ∷ []) in
    let some = of.some in
    record { flits = of.flits; some = omega arith; first = came-push pipe.came flit 0 of.some ∙ of.first; each = each-push pipe.came flit of.each is }

pub pipe-end : (pipe : PipeFields) (head : List ℕ) (count : ℕ) (good : Bool) → IsPipeOf pipe head count → IsPipeOf (record pipe { good = Some good }) head count
pipe-end pipe head count good of = record { flits = of.flits; some = of.some; first = of.first; each = of.each }

-- the flits of a copy that were sent are its first ones, which came
pub record AreSent (pipe : PipeFields) (sent : List (List ℕ)) : Type 0 where
  pub same : (k : ℕ) → k < length sent → slice_index_or sent k [] ≡ flit_at pipe k
  pub inside : pipe.good ≡ None → length sent ≤ length pipe.came

pub sent-none : (pipe : PipeFields) → AreSent pipe []
sent-none pipe = record { same = λ k less. absurd (omega arith); inside = λ none. omega arith }

pub sent-more : (pipe : PipeFields) (sent : List (List ℕ)) (flit : List ℕ) → pipe.good ≡ None → AreSent pipe sent → AreSent (record pipe { came = pipe.came ++ flit ∷ [] }) sent
sent-more pipe sent flit none are =
    let long = length-append pipe.came (flit ∷ []) in
    let within = are.inside none in
    record { same = λ k less. are.same k less ∙ sym (came-push pipe.came flit k (omega arith)); inside = λ open_still. omega arith }

pub sent-end : (pipe : PipeFields) (sent : List (List ℕ)) (good : Bool) → AreSent pipe sent → AreSent (record pipe { good = Some good }) sent
sent-end pipe sent good are = record { same = are.same; inside = λ none. absurd (let clash : Some good ≡ None = none in cc) }

before-push : (l : List (List ℕ)) (x : List ℕ) (k : ℕ) → k < length l → slice_index_or (l ++ x ∷ []) k [] ≡ slice_index_or l k []
before-push [] x k less = absurd (omega arith)
before-push (y ∷ l) x zero less = refl
before-push (y ∷ l) x (suc k) less = before-push l x k (omega arith)

at-push : (l : List (List ℕ)) (x : List ℕ) → slice_index_or (l ++ x ∷ []) (length l) [] ≡ x
at-push [] x = refl
at-push (y ∷ l) x = at-push l x

pub sent-flit : (pipe : PipeFields) (sent : List (List ℕ)) → (pipe.good ≡ None → length sent < length pipe.came) → AreSent pipe sent → AreSent pipe (sent ++ flit_at pipe (length sent) ∷ [])
sent-flit pipe sent came are =
    let x = flit_at pipe (length sent) in
    let long = length-append sent (x ∷ []) in
    record { same = λ k less. by_place k (nat_lt k (length sent)) refl less; inside = λ none. (let less = came none in omega arith) }
  where
    by_place : (k : ℕ) (before : Bool) → nat_lt k (length sent) ≡ before → k < length (sent ++ flit_at pipe (length sent) ∷ []) → slice_index_or (sent ++ flit_at pipe (length sent) ∷ []) k [] ≡ flit_at pipe k
    by_place k true is less = let within = ltb-true k (length sent) is in before-push sent (flit_at pipe (length sent)) k within ∙ are.same k within
    by_place k false is less =
        let past = ltb-false k (length sent) is in
        let long = length-append sent (flit_at pipe (length sent) ∷ []) in
        let last_one : k ≡ length sent = omega arith in
        ap (λ (n : ℕ). slice_index_or (sent ++ flit_at pipe (length sent) ∷ []) n []) last_one ∙ at-push sent (flit_at pipe (length sent)) ∙ ap (flit_at pipe) (sym last_one)
