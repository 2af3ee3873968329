-- The two profiles of a link.
use Rattle.std.specs.Prelude.{ℕ, ◌/◌}
use Rattle.hmc_codes.specs.declared.profile.Profile.{Profile}
use Rattle.hmc_codes.specs.declared.profile.Profile.TheVariants.{One, Two}

-- the number at which retry pointers wrap
abbrev pub modulus_of : Profile → ℕ
modulus_of One = 512
modulus_of Two = 2048

-- half of the modulus: how many flits behind the last accepted packet a repeat may end
abbrev pub window_of : Profile → ℕ
window_of profile = modulus_of profile / 2

-- the most flits of a retry buffer: a receiver can tell a repeated packet from a new one
abbrev pub most_retry : Profile → ℕ
most_retry profile = window_of profile
