use Rattle.std.proofs.Common.{◌≡◌, ℕ, ◌≤◌, List, ◌∷◌}
use Rattle.hmc_codes.specs.declared.profile.Profile.{Profile}
use Rattle.hmc_codes.specs.Profile.{window_of}
use Rattle.hmc_numbers.specs.Direction.{Item}
use Rattle.hmc_numbers.specs.Direction.Item.{part}
use Rattle.hmc_numbers.specs.Events.{Event, after}
use Rattle.hmc_numbers.specs.May.{IsGood, MayAll}
use Rattle.hmc_numbers.specs.DirectionLaws.{IsIdentified}
use Rattle.hmc_numbers.proofs.Step.{order_after}
use Rattle.hmc_numbers.proofs.DirectionLaws.{identified, identified_next, identified_repeat}
use Rattle.hmc_numbers.proofs.laws.shows_repeats.Goals as goal

known : (p : Profile) (r n k : ℕ) (xs : List Item) → r ≤ window_of p → (past : List Event) → MayAll r past → IsGood (after past).far → (after past).line ≡ part n k 0 ∷ xs → IsIdentified p (after past) n
known p r n k xs l past m = identified p r (after past) l (order_after r past m) n k xs

pub returns : goal.returns
returns c =
    record {
      next = λ p r n k xs l past m g q. identified_next p (after past) n (known p r n k xs l past m g q);
      not_next = λ p r n k xs l past m g q i. (identified_repeat p (after past) n (known p r n k xs l past m g q) i).0;
      repeated = λ p r n k xs l past m g q i. (identified_repeat p (after past) n (known p r n k xs l past m g q) i).1;
    }
