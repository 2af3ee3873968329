-- Training.
use Rattle.std.specs.Prelude.{◌≤◌, ℕ, ◌+◌, ◌==◌, ◌&&◌, min, Bool, if◌then◌else◌}
use Rattle.hmc_codes.specs.declared.profile.Profile.{Profile}
pub use Rattle.hmc_packet.specs.Landings.{whole_training}
unfoldable pub use Rattle.hmc_packet.specs.Landings.{is_training}

-- the profile of the link, and how many training flits came in a row, counted up to a whole
-- training
pub record TrainFields : Type 0 where
  pub profile : Profile
  pub count : ℕ

-- what each training keeps
pub record IsTraining (train : TrainFields) : Type 0 where
  pub count : train.count ≤ whole_training

-- a flit that trains is one more, and any other begins the count anew
abbrev pub after_flit : (trains : Bool) → TrainFields → TrainFields
after_flit trains train =
    record train { count = if trains then min (train.count + 1) whole_training else 0 }

-- training has ended: this is the last of a whole training
abbrev pub ends_training : (trains : Bool) → TrainFields → Bool
ends_training trains train = trains && train.count + 1 == whole_training
