-- What a pipe feeds fits a packet that is forwarded.
use Rattle.std.proofs.Common.{◌≡◌, ◌≤◌, ◌∙◌, ◌==◌, ℕ, suc, Bool, true, false, if◌then◌else◌, List, Option, Some, None, length, take, drop, refl, sym, ap, arith, eqb-true, eq-eqb, nat_lt, ltb-false}
use Rattle.std.proofs.lemmas.List.{length-take}
use Rattle.hmc_codes.proofs.BytesLemmas.{IsBytes-take}
use Rattle.hmc_codes.specs.Flit.{IsFlit}
use Rattle.hmc_packet.specs.declared.feed.Feed.{Feed}
use Rattle.hmc_packet.specs.declared.feed.Feed.TheVariants.{Waiting, Whole}
use Rattle.hmc_packet.specs.Copy.{layout_named, last_feed}
use Rattle.hmc_packet.specs.Head.{named_by}
use Rattle.hmc_packet.specs.Parts.{half_of}
use Rattle.hmc_packet.specs.Tail.{tail_of}
use Rattle.hmc_packet.proofs.TailLemmas.{IsTail-of, slid-below, errstat-below}
use Rattle.hmc_through.specs.Pipe.{PipeFields, flit_at, whole_fed, last_fed, feed_at}
use Rattle.hmc_send.specs.Entries.{Part}
use Rattle.hmc_send.specs.Kept.{IsFedNext}
use Rattle.hmc_wire.specs.Conditions.{IsFeed}

-- a pipe of a packet with this first flit and so many flits
pub record IsPipeFor (pipe : PipeFields) (head : List ℕ) (count : ℕ) : Type 0 where
  pub flits : pipe.flits ≡ count
  pub some : 1 ≤ length pipe.came
  pub first : flit_at pipe 0 ≡ head
  pub each : (k : ℕ) → IsFlit (flit_at pipe k)

-- it is what a packet under way takes
pub record FitsNext (part : Part) (head : List ℕ) (feed : Feed) : Type 0 where
  pub next : IsFedNext part head feed
  pub is_feed : IsFeed feed

last_fits : (pipe : PipeFields) (head : List ℕ) (count : ℕ) (part : Part) (good : Option Bool) → IsPipeFor pipe head count → part.flits ≡ count → 2 ≤ count → suc (length part.sent) ≡ pipe.flits → FitsNext part head (last_fed pipe (length part.sent) good)
unfolding last_feed
last_fits pipe head count part None is flits many last = let f = is.flits in record { next = omega arith; is_feed = tt }
last_fits pipe head count part (Some good) is flits many last =
    let flit = flit_at pipe (length part.sent) in
    let fits = is.each (length part.sent) in
    let layout = layout_named (named_by (flit_at pipe 0)) in
    let word = half_of (take 4 (drop 8 flit)) in
    let tail = IsTail-of pipe.profile layout word in record {
      next = (eq-eqb (suc (length part.sent)) part.flits (last ∙ is.flits ∙ sym flits), slid-below pipe.profile (tail_of pipe.profile layout word).slid tail.slid, errstat-below pipe.profile (tail_of pipe.profile layout word).errstat tail.errstat);
      is_feed = record { bytes = IsBytes-take 8 flit fits.bytes; long = (let l = fits.long in omega (arith, length-take 8 flit)) };
    }

whole_fits : (pipe : PipeFields) (head : List ℕ) (count : ℕ) (part : Part) → IsPipeFor pipe head count → part.flits ≡ count → (suc (length part.sent) == pipe.flits) ≡ false → FitsNext part head (Whole (flit_at pipe (length part.sent)))
whole_fits pipe head count part is flits more = record {
  next = (ap (λ (n : ℕ). suc (length part.sent) == n) (flits ∙ sym is.flits) ∙ more, λ none. ap (flit_at pipe) none ∙ is.first);
  is_feed = is.each (length part.sent);
}

waiting_fits : (pipe : PipeFields) (head : List ℕ) (count : ℕ) (part : Part) (here : Bool) → nat_lt (length part.sent) (length pipe.came) ≡ here → IsPipeFor pipe head count → part.flits ≡ count → (suc (length part.sent) == pipe.flits) ≡ false
    → FitsNext part head (if here then Whole (flit_at pipe (length part.sent)) else Waiting)
waiting_fits pipe head count part true at is flits more = whole_fits pipe head count part is flits more
waiting_fits pipe head count part false at is flits more =
    let late : length pipe.came ≤ length part.sent = ltb-false (length part.sent) (length pipe.came) at in
    let some = is.some in record { next = omega arith; is_feed = tt }

before_fits : (pipe : PipeFields) (head : List ℕ) (count : ℕ) (part : Part) (good : Option Bool) → IsPipeFor pipe head count → part.flits ≡ count → (suc (length part.sent) == pipe.flits) ≡ false → FitsNext part head (whole_fed pipe (length part.sent) good)
before_fits pipe head count part None is flits more = waiting_fits pipe head count part _ refl is flits more
before_fits pipe head count part (Some good) is flits more = whole_fits pipe head count part is flits more

fits_by : (pipe : PipeFields) (head : List ℕ) (count : ℕ) (part : Part) (last : Bool) → (suc (length part.sent) == pipe.flits) ≡ last → IsPipeFor pipe head count → part.flits ≡ count → 2 ≤ count
    → FitsNext part head (if last then last_fed pipe (length part.sent) pipe.good else whole_fed pipe (length part.sent) pipe.good)
fits_by pipe head count part true at is flits many = last_fits pipe head count part pipe.good is flits many (eqb-true (suc (length part.sent)) pipe.flits at)
fits_by pipe head count part false at is flits many = before_fits pipe head count part pipe.good is flits at

pub fed_fits : (pipe : PipeFields) (head : List ℕ) (count : ℕ) (part : Part) → IsPipeFor pipe head count → part.flits ≡ count → 2 ≤ count → FitsNext part head (feed_at pipe (length part.sent))
fed_fits pipe head count part is flits many = fits_by pipe head count part _ refl is flits many
