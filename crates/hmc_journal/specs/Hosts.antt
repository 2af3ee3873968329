-- What a journal says of a host: how many requests it gave, and which of its tags are out.
use Rattle.std.specs.Prelude.{ℕ, ◌+◌, Bool, true, false, ◌==◌, List, [], ◌∷◌, drop, slice_set}
use Rattle.hmc_journal.specs.Choice.{choose}
use Rattle.hmc_host.specs.Host.{HostFields, items_of}
use Rattle.hmc_host.specs.Tags.{none_out, with_out}
use Rattle.hmc_entries.specs.declared.entry.Entry.{Entry}
use Rattle.hmc_entries.specs.declared.entry.Entry.TheVariants.{Gave, Took}
use Rattle.hmc_journal.specs.Setup.{Setup}

-- one more where a test holds
abbrev pub count_if : Bool → ℕ → ℕ
count_if true count = count + 1
count_if false count = count

-- how many requests a host gave
unfoldable pub given_count : ℕ → List Entry → ℕ
given_count h [] = 0
given_count h (Gave host tag poisoned request ∷ past) = count_if (host == h) (given_count h past)
given_count h (_ ∷ past) = given_count h past

-- which tags of a host are out: a tag is out from the giving of a request under it to the taking of
-- its answer
unfoldable pub tags_out : ℕ → List Entry → List Bool
tags_out h [] = none_out
tags_out h (Gave host tag poisoned request ∷ past) =
    choose (host == h) (with_out tag (tags_out h past)) (tags_out h past)
tags_out h (Took host tag answer ∷ past) =
    choose (host == h) (slice_set (tags_out h past) tag false) (tags_out h past)
tags_out h (_ ∷ past) = tags_out h past

-- the host with a number: of its requests those are left that follow the ones that it gave
unfoldable pub host_of : Setup → List Entry → ℕ → HostFields
host_of setup past host =
    record {
      number = host;
      left = drop (given_count host past) (items_of host setup.script);
      given = given_count host past;
      tags = tags_out host past;
    }
