-- What the step through finds.
use Rattle.std.proofs.Common.{◌≡◌, ◌≤◌, ◌<◌, ◌/◌, ◌∙◌, ℕ, true, Some, None, List, [], length, sym, ap, subst, arith}
use Rattle.std.specs.Prelude.{slice_get, slice_index_or, option_and_then}
use Rattle.hmc_packet.specs.declared.feed.Feed.TheVariants.{Waiting}
use Rattle.hmc_packet.specs.Head.{head_in}
use Rattle.hmc_packet.specs.Parts.{lng_of}
use Rattle.hmc_send.specs.LinkCalls.{view_in, may_pass_on, names_flits}
use Rattle.hmc_journal.specs.Links.{toward}
use Rattle.hmc_journal.specs.Setup.{directions_in}
use Rattle.hmc_journal.specs.StepView.{StepView}
use Rattle.hmc_kept.specs.Called.{sizes_by}
use Rattle.hmc_links.specs.LinkList.{IsGathered, MayBegin}
use Rattle.hmc_net.specs.NetState.{NetState}
use Rattle.hmc_net.specs.Sees.{Sees, IsReady}
use Rattle.hmc_kept.specs.Shown.{gathered, AreShort}
use Rattle.hmc_net.specs.Throughs.{IsComing}
use Rattle.hmc_journal.proofs.Packets.{head_lng}
use Rattle.hmc_kept.proofs.Found.{found_by, none_by, short_by, names_lng, head_here}
use Rattle.hmc_kept.proofs.Throughs.{free_takes, all_found}

-- ---- what goes on

-- the flits of a packet that goes on from one direction onto another
pub record AreGoingOn (net : NetState) (from onto : ℕ) (flits : List (List ℕ)) : Type 0 where
  pub some : 1 ≤ length flits
  pub more : length flits < lng_of (slice_index_or flits 0 [])
  pub few : lng_of (slice_index_or flits 0 []) ≤ 17
  pub named : names_flits (lng_of (slice_index_or flits 0 [])) (head_in (slice_index_or flits 0 [])) ≡ true
  pub same : (view : StepView) → Sees net view → flits ≡ gathered view from
  pub first : (view : StepView) → Sees net view → slice_get (gathered view from) 0 ≡ Some (slice_index_or flits 0 [])
  pub takes : (view : StepView) → Sees net view → may_pass_on (view_in (sizes_by net.topology.links onto) (toward onto) (view.entries (onto / 2)) Waiting) (lng_of (slice_index_or flits 0 [])) ≡ true

pub going_on : (net : NetState) (cube port from onto : ℕ) (flits : List (List ℕ)) → IsReady net → IsComing net cube port from onto → from < directions_in net.topology → IsGathered net.links from (Some flits) → AreGoingOn net from onto flits
going_on net cube port from onto flits ready coming there found =
    let own = found_by flits (gathered ready.view from) (all_found net.topology ready.view from (Some flits) ready.sees.laws there (found net.topology.links ready.view.entries ready.sees.shows.links)) in
    let short = short_by flits own.some (subst AreShort (sym own.same) (ready.sees.laws.directions from there).short) in
    let head = head_here coming.head (slice_index_or flits 0 []) _ (coming.gathers ready.view ready.sees) own.first in
    let long = head_lng (slice_index_or flits 0 []) coming.head head in
    record {
      some = own.some;
      more = short.more;
      few = short.few;
      named = names_lng (slice_index_or flits 0 []) coming.head head (omega (arith, own.some, short.more));
      same = λ view sees. (found_by flits (gathered view from) (all_found net.topology view from (Some flits) sees.laws there (found net.topology.links view.entries sees.shows.links))).same;
      first = λ view sees. (found_by flits (gathered view from) (all_found net.topology view from (Some flits) sees.laws there (found net.topology.links view.entries sees.shows.links))).first;
      takes = λ view sees. ap (may_pass_on (view_in (sizes_by net.topology.links onto) (toward onto) (view.entries (onto / 2)) Waiting)) (sym long) ∙ free_takes net.topology view from onto coming.head.flits (coming.free view sees);
    }

-- flits are gathered of a packet that goes on
pub some_going_on : (net : NetState) (cube port from onto : ℕ) → IsReady net → IsComing net cube port from onto → from < directions_in net.topology → IsGathered net.links from None → ⊥
some_going_on net cube port from onto ready coming there found =
    let none = none_by (gathered ready.view from) (all_found net.topology ready.view from None ready.sees.laws there (found net.topology.links ready.view.entries ready.sees.shows.links)) in
    let clash : Some coming.head ≡ None = coming.gathers ready.view ready.sees ∙ ap (λ (l : List (List ℕ)). option_and_then head_in (slice_get l 0)) none in
    cc

-- the direction onward can take it
pub may_begin : (net : NetState) (from onto lng : ℕ) (flits : List (List ℕ)) → IsReady net → AreGoingOn net from onto flits → lng ≡ lng_of (slice_index_or flits 0 []) → MayBegin net.links onto lng
may_begin net from onto lng flits ready is same = record {
  rows = net.topology.links;
  entries = ready.view.entries;
  stand = ready.sees.shows.links;
  ready = ap (may_pass_on (view_in (sizes_by net.topology.links onto) (toward onto) (ready.view.entries (onto / 2)) Waiting)) same ∙ is.takes ready.view ready.sees;
}
