-- A sender that stands for a list sees what the list gives.
use Rattle.std.proofs.Common.{◌≡◌, ◌∙◌, ◌+◌, ◌-◌, List, drop, ap, arith}
use Rattle.std.specs.Prelude.{nat_le, slice_get}
use Rattle.hmc_send.specs.declared.state.State.{State}
use Rattle.hmc_send.specs.Choice.{view_after}
use Rattle.hmc_send.specs.Entries.{SenderEntry, Given, places, acked, clears, starts, others, position, enough_others}
use Rattle.hmc_send.specs.Places.{Place, flits_in}
use Rattle.hmc_send.specs.Sender.{view_held, places_held, position_held}
use Rattle.hmc_send.specs.StandsFor.{StandsFor}
use Rattle.hmc_send.proofs.Bursts.{Lacks, burst-same, enough}
use Rattle.hmc_send.proofs.Lists.{get-drop}

pub lacks : (held : State) (past : List SenderEntry) → StandsFor held past → Lacks held.burst.kind held.burst.left (clears past) (starts past)
lacks held past is = record { of_clears = is.lacks_clears; of_starts = is.lacks_starts }

pub view-same : (held : State) (past : List SenderEntry) (given : Given) → StandsFor held past → view_held held given ≡ view_after held.retry.profile held.retry.flits past given
unfolding view_after
view-same held past given is =
    let q = held.retry.profile in
    let burst = burst-same held.burst.kind held.burst.left (clears past) (starts past) (lacks held past is) in
    let at : acked past + (position q past - acked past) ≡ position q past = omega arith in
    let again : slice_get (places_held held) (position_held held) ≡ slice_get (places q past) (position q past) =
    (λ i. slice_get (is.kept i) (is.reached i)) ∙ get-drop (places q past) (acked past) (position q past - acked past) ∙ ap (slice_get (places q past)) at in
    let rests : nat_le enough_others held.others ≡ nat_le enough_others (others past) = ap (nat_le enough_others) is.counted ∙ enough (others past) in
    let size : held.retry.flits - flits_in (places_held held) ≡ held.retry.flits - flits_in (drop (acked past) (places q past)) = ap (λ (l : List Place). held.retry.flits - flits_in l) is.kept in
    λ i. record {
      given = given;
      under_way = is.begun i;
      burst = burst i;
      go_back = is.goes_back i;
      may_start = rests i;
      again = again i;
      pointer = is.pointer i;
      number = is.number i;
      is_open = is.opened i;
      room = size i;
      shown = is.showed i;
    }
