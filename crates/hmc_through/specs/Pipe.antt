-- A pipe: the flits of a packet that is still being gathered, and what they give to a copy of it.
use Rattle.std.specs.Prelude.{◌≤◌, ℕ, suc, ◌-◌, Bool, true, false, ◌==◌, nat_lt, if◌then◌else◌, List, length, map, slice_index_or, Option, Some, None}
use Rattle.hmc_codes.specs.Flit.{zero_flit}
use Rattle.hmc_codes.specs.Numbers.{upto}
use Rattle.hmc_codes.specs.declared.profile.Profile.{Profile}
use Rattle.hmc_packet.specs.Copy.{last_feed_of}
use Rattle.hmc_packet.specs.declared.feed.Feed.{Feed}
use Rattle.hmc_packet.specs.declared.feed.Feed.TheVariants.{Waiting, Whole}
use Rattle.hmc_packet.specs.declared.landed.Landed.{Landed}
use Rattle.hmc_packet.specs.declared.landed.Landed.TheVariants as outcomes

-- the flits of the packet, the profile of its link, the flits that came, and, once the gathering
-- has ended, whether the packet was accepted
pub record PipeFields : Type 0 where
  pub flits : ℕ
  pub profile : Profile
  pub came : List (List ℕ)
  pub good : Option Bool

-- only an accepted packet is good
abbrev pub is_accepted : Landed → Bool
is_accepted (outcomes.Accepted packet) = true
is_accepted _ = false

-- the outcomes of a whole packet
abbrev pub is_whole : Landed → Bool
is_whole (outcomes.Accepted packet) = true
is_whole (outcomes.Poisoned packet) = true
is_whole outcomes.Repeat = true
is_whole _ = false

-- the flit at a place: a zero one where none came
abbrev pub flit_at : PipeFields → ℕ → List ℕ
flit_at pipe at = slice_index_or pipe.came at zero_flit

-- the flits of the packet before its last one, in the order in which they came
abbrev pub front_flits : PipeFields → List (List ℕ)
front_flits pipe = map (flit_at pipe) (upto (pipe.flits - 1))

-- a flit before the last: it waits while it may still come
abbrev pub whole_fed : PipeFields → (at : ℕ) → Option Bool → Feed
whole_fed pipe at None = if nat_lt at (length pipe.came) then Whole (flit_at pipe at) else Waiting
whole_fed pipe at (Some good) = Whole (flit_at pipe at)

-- the last flit waits for the end of the gathering
abbrev pub last_fed : PipeFields → (at : ℕ) → Option Bool → Feed
last_fed pipe at None = Waiting
last_fed pipe at (Some good) = last_feed_of pipe.profile (flit_at pipe 0) (flit_at pipe at) good

-- what the flit at a place is made of
abbrev pub feed_at : PipeFields → (at : ℕ) → Feed
feed_at pipe at =
    if suc at == pipe.flits then last_fed pipe at pipe.good else whole_fed pipe at pipe.good

-- what each pipe keeps
pub record IsPipe (pipe : PipeFields) : Type 0 where
  pub some : 2 ≤ pipe.flits
  pub few : pipe.flits ≤ 17
  pub first : 1 ≤ length pipe.came
  pub within : length pipe.came ≤ pipe.flits
