-- What a step sees of packets that are forwarded is what lawful journals promise of them.
use Rattle.std.proofs.Common.{◌≡◌, ◌≤◌, ◌<◌, ◌∙◌, ℕ, Option, Some, None, List, [], length, refl, sym, ap, subst}
use Rattle.std.specs.Prelude.{slice_index_or}
use Rattle.hmc_packet.specs.Landings.{ReceiverEntry, pending}
use Rattle.hmc_packet.specs.Parts.{lng_of}
use Rattle.hmc_packet.specs.Receptions.{reception_of}
use Rattle.hmc_send.specs.Entries.{through_at}
use Rattle.hmc_send.specs.LinkEntries.{receiver_entries}
use Rattle.hmc_send.specs.LinkSenders.{sender_entries}
use Rattle.hmc_entries.specs.declared.entry.Entry.{Entry}
use Rattle.hmc_journal.specs.Directions.{receiver_of}
use Rattle.hmc_journal.specs.Links.{toward, entries_on, sizes_on}
use Rattle.hmc_journal.specs.Forwarded.{IsForwarded as IsPromised, AreForwarded}
use Rattle.hmc_journal.specs.Piped.{PipeFrom, pipe_of, pipe_onto}
use Rattle.hmc_journal.specs.Setup.{Setup}
use Rattle.hmc_journal.specs.StepView.{view_of}
use Rattle.hmc_kept.specs.Pipes.{IsPlace}
use Rattle.hmc_kept.specs.Shown.{IsForwardedIn, IsOnward}
use Rattle.hmc_kept.proofs.PipeLemmas.{same_pipe}

placed : (pipe : Option PipeFrom) (place : Option ℕ) → ((at : ℕ) → place ≡ Some at → (p : PipeFrom) × (pipe ≡ Some p) × (at < p.pipe.flits)) → IsPlace pipe place
placed None place known = tt
placed (Some p) None known = tt
placed (Some p) (Some at) known =
    let found = known at refl in subst (λ (q : PipeFrom). at < q.pipe.flits) (sym (same_pipe p found.0 found.1)) found.2

pub onward_seen : (setup : Setup) (past : List Entry) (direction : ℕ) → AreForwarded setup past → IsOnward setup.topology (view_of setup past) direction
unfolding view_of
onward_seen setup past direction law =
    let sizes = sizes_on setup.topology direction in
    record {
      place = placed (pipe_onto setup.topology direction past) (through_at sizes.profile (sender_entries sizes (toward direction) (entries_on setup.topology direction past))) (law.at direction);
      source = law.gathering direction;
    }

pub forwarded_seen : (setup : Setup) (past : List Entry) (direction onto : ℕ) → receiver_of direction past ≡ receiver_entries (toward direction) (entries_on setup.topology direction past)
    → IsPromised setup.topology past direction onto → IsForwardedIn setup.topology (view_of setup past) direction onto
unfolding view_of
forwarded_seen setup past direction onto receiver law = record {
  there = law.there;
  pipe = law.pipe ∙ ap (λ (r : List ReceiverEntry). Some (pipe_of setup.topology direction (pending r))) receiver;
  some = subst (λ (r : List ReceiverEntry). 1 ≤ length (pending r)) receiver law.some;
  more = subst (λ (r : List ReceiverEntry). length (pending r) < lng_of (slice_index_or (pending r) 0 [])) receiver law.more;
  front = λ mask flit is_flit accepts. law.front mask flit is_flit (ap (λ (r : List ReceiverEntry). (reception_of (sizes_on setup.topology direction).profile r flit).outcome) receiver ∙ accepts);
}
